-- As many pages as were counted, of which the new ones are empty.
use Rattle.std.proofs.Common.{◌≡◌, ℕ, [], length, map, get_or}
use Rattle.nm_process.proofs.pages.reach.Given as goal

abbrev pub invariant-loop : goal.invariant-loop
invariant-loop l = (length l.pages.items ≡ l.counter) × ((k : ℕ) → get_or (map (λ v. v.items) l.pages.items) k []
    ≡ get_or (map (λ v. v.items) l.fn.pages.items) k [])
