-- The numbers so far were added.
use Rattle.std.proofs.Common.{ℕ, ◌≤◌, ◌<◌}
use Rattle.nm_search.specs.Lists.{AddsOnly, Extends, Has}
use Rattle.nm_why_top.proofs.seeking.push_numbers.Given as goal

abbrev pub invariant-loop-k : goal.invariant-loop-k
invariant-loop-k l = record {
  kept : Extends l.fn.ahead.items l.ahead.items;
  only : AddsOnly (λ (n : ℕ). n < l.to) l.fn.ahead.items l.ahead.items;
  all : (n : ℕ) → l.from ≤ n → n < l.k → Has l.ahead.items n;
}
