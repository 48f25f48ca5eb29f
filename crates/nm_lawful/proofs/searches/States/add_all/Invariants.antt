-- The first of the states are there, and no others were added.
use Rattle.std.proofs.Common.{◌≡◌, ℕ, ◌<◌, List, Some}
use Rattle.std.specs.List.{slice_get}
use Rattle.nm_search.specs.Lists.{AddsOnly, Extends, Has}
use Rattle.nm_lawful.specs.Ranks.{RankState}
use Rattle.nm_lawful.proofs.searches.States.add_all.Given as goal

abbrev pub invariant-loop-state : goal.invariant-loop-state
invariant-loop-state l =
    record {
      kept : Extends l.initial.self l.self;
      there : (k : ℕ) → k < l.state-index → (t : List RankState) → slice_get l.states k ≡ Some t → Has l.self t;
      only : AddsOnly (Has l.states) l.initial.self l.self;
    }
