use Rattle.std.proofs.Common.{◌≡◌, ℕ, take}
use Rattle.std.specs.Prelude.{nat_eq, position}
use Rattle.indexmap.specs.IndexMap.{get}
use Rattle.nm_lookups.proofs.firsts.numbered_firsts.Given as goal

-- the first places among the events so far
abbrev pub invariant-loop-k : goal.invariant-loop-k
invariant-loop-k g l =
    (n : ℕ) → get nat_eq l.places n ≡ position (λ e. g.T.Numbering.is_at n e.what) (take l.k l.events)
