use Rattle.std.specs.Vec.Iter.{into_iter_items}
use Rattle.nm_programs.proofs.SoFar.{SoFar}
use Rattle.nm_noted.specs.Recent.{IsKeptOf, recent_end}
use Rattle.nm_noted.proofs.accounts.accounts_of.Given as goal

-- those so far
abbrev pub invariant-loop-rank : goal.invariant-loop-rank
invariant-loop-rank l =
    SoFar (λ rank account. IsKeptOf (recent_end rank) account) l.fn.ranks.items (into_iter_items l.rank-iterator) l.accounts
