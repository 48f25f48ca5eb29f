use Rattle.std.proofs.Common.{◌≡◌, ◌<◌, ℕ, map, get_or, length}
use Rattle.nm_rndv.specs.Grants.{FromSender, count_unfinished}
use Rattle.nm_rndv.proofs.granting.Grants.reserve.Given as goal

abbrev pub invariant-loop-from : goal.invariant-loop-from
invariant-loop-from l =
    (length l.self-inside.senders.items ≡ l.from-end)
    × (map (λ s. s.grants) l.self-inside.senders.items ≡ l.fn.self.grants)
    × ((k : ℕ) (d : FromSender) → k < l.from → 0 < (get_or l.self-inside.senders.items k d).spare)
    × (l.self-inside.unfinished ≡ count_unfinished (map (λ s. s.grants) l.self-inside.senders.items))
