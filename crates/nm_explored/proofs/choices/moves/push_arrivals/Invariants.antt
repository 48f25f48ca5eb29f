-- The messages of the first ranks are among the moves.
use Rattle.std.proofs.Common.{◌≡◌, ℕ, ◌<◌, Some}
use Rattle.nm_types.specs.declared.messages.Arrival as arrival
use Rattle.nm_explored.specs.declared.choices.moves.Move.TheVariants.{Arrive}
use Rattle.nm_explored.specs.Successors.{message_next, spot_in}
use Rattle.nm_search.specs.Lists.{AddsOnly, Has, Extends}
use Rattle.nm_explored.specs.Moves.{IsNextMessage}
use Rattle.nm_explored.proofs.choices.moves.push_arrivals.Given as goal

abbrev pub invariant-loop-from : goal.invariant-loop-from
invariant-loop-from l =
    record {
      kept : Extends l.fn.turns.items l.turns.items;
      added : (from : ℕ) → from < l.from → (a : arrival.Arrival) →
          message_next (spot_in l.view.table.now l.view.ids.now) l.i from ≡ Some a →
          Has l.turns.items (record { rank = l.i; by = Arrive a });
      only : AddsOnly
          (λ t. (a : arrival.Arrival) × (record { rank = l.i; by = Arrive a } ≡ t)
          × IsNextMessage l.ranks (spot_in l.view.table.now l.view.ids.now) l.i a) l.fn.turns.items l.turns.items;
    }
