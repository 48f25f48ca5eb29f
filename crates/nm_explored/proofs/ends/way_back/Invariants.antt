-- The moves so far lead from the state that is next to the last one.
use Rattle.std.proofs.Common.{◌≡◌, ℕ, Some, List}
use Rattle.std.specs.List.{slice_get}
use Rattle.nm_types.specs.declared.scripts.Line.{Line}
use Rattle.nm_explored.specs.Met.{AreBack}
use Rattle.nm_explored.proofs.BackLemmas.{LeadsOn}
use Rattle.nm_explored.proofs.ends.way_back.Given as goal

abbrev pub invariant-loop-turn : goal.invariant-loop-turn
invariant-loop-turn l =
    (eager ranks : ℕ) (lines : List Line) → AreBack eager ranks lines l.search → (ids : List ℕ) →
    slice_get l.search.states l.end ≡ Some ids →
    LeadsOn eager ranks lines l.search l.end l._turn l.k ids l.turns.items
