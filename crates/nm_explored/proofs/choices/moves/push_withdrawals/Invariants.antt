-- Of the first messages those that may be withdrawn are among the moves.
use Rattle.std.proofs.Common.{◌≡◌, ℕ, ◌<◌, Some, true}
use Rattle.std.specs.List.{slice_get}
use Rattle.nm_types.specs.declared.messages.Arrival as arrival
use Rattle.nm_match.specs.declared.names.Message.{Message}
use Rattle.nm_explored.specs.declared.choices.moves.Move.TheVariants.{Withdraw}
use Rattle.nm_explored.specs.Successors.{is_withdrawn_next, spot_in}
use Rattle.nm_search.specs.Lists.{AddsOnly, Has, Extends}
use Rattle.nm_explored.specs.Moves.{IsRecalled}
use Rattle.nm_explored.proofs.choices.moves.push_withdrawals.Given as goal

abbrev pub invariant-loop-a : goal.invariant-loop-a
invariant-loop-a l =
    record {
      kept : Extends l.fn.turns.items l.turns.items;
      added : (k : ℕ) → k < l.a-index → (a : arrival.Arrival) → slice_get l.rank.came k ≡ Some a →
          is_withdrawn_next (spot_in l.view.table.now l.view.ids.now) l.i a.env.from a.n ≡ true →
          Has l.turns.items (record { rank = l.i; by = Withdraw (record { rank = a.env.from; n = a.n }) });
      only : AddsOnly
          (λ t. (m : Message) × (record { rank = l.i; by = Withdraw m } ≡ t)
          × IsRecalled (spot_in l.view.table.now l.view.ids.now) l.i l.rank m) l.fn.turns.items l.turns.items;
    }
