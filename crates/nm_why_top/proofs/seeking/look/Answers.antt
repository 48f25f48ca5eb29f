-- What is new is to be looked at.
use Rattle.std.proofs.Common.{◌≡◌, ℕ, ◌<◌, List, length, ◌∙◌, ap, subst, arith}
use Rattle.nm_search.specs.Lists.{AddsOnly}
use Rattle.nm_explored.specs.Stores.{Store}
use Rattle.nm_why_top.proofs.SeekLemmas.{ahead_next}
use Rattle.nm_why_top.proofs.seeking.look.Goals as goal

pub returns-clause-made : goal.returns-clause-made
returns-clause-made c =
    c.in_ok-expand.ensures.made c.requires.short.count c.requires.short.sends c.requires.low c.requires.made

pub returns-clause-back : goal.returns-clause-back
returns-clause-back c =
    c.in_ok-expand.ensures.back c.requires.short.count c.requires.short.sends c.requires.low c.requires.made
    c.requires.back

pub returns-clause-ahead : goal.returns-clause-ahead
returns-clause-ahead c = λ sought other are.
    let left = c.args.ahead.now.items in
    let new = c.push_numbers.new.ahead.items in
    let before : length c.as_slice-before.result.now ≡ length c.args.search.now.states =
    ap (λ (ss : List (List ℕ)). length ss)
    (c.as_slice-before.ensures ∙ ap (λ (s : Store). s.states) c.search.view_is) in
    let after : length c.as_slice-after.result.now ≡ length c.expand.new.self.states =
    ap (λ (ss : List (List ℕ)). length ss)
    (c.as_slice-after.ensures ∙ ap (λ (s : Store). s.states) c.search-2.view_is) in
    ahead_next sought c.args.of.eager c.args.of.ranks c.args.of.lines.now c.args.search.now c.expand.new.self left new
    c.args.k c.in_ok-expand.ensures.grows c.requires.made are
    (c.in_ok-expand.ensures.expanded c.requires.short.count c.requires.made) other
    c.in_ok-push_numbers.ensures.kept
    (subst (λ (n : ℕ). AddsOnly (λ (m : ℕ). m < n) left new) after c.in_ok-push_numbers.ensures.only)
    (λ n high low. c.in_ok-push_numbers.ensures.all n (omega (arith, high, before)) (omega (arith, low, after)))
