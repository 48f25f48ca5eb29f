-- None of the first messages may be withdrawn.
use Rattle.std.proofs.Common.{◌≡◌, ℕ, ◌<◌, Some, false}
use Rattle.std.specs.List.{slice_get}
use Rattle.nm_types.specs.declared.messages.Arrival as arrival
use Rattle.nm_explored.specs.Successors.{is_withdrawn_next, spot_in}
use Rattle.nm_explored.proofs.ends.has_no_withdrawal.Given as goal

abbrev pub invariant-loop-a : goal.invariant-loop-a
invariant-loop-a l =
    (k : ℕ) → k < l.a-index → (a : arrival.Arrival) → slice_get l.rank.came k ≡ Some a →
    is_withdrawn_next (spot_in l.view.table.now l.view.ids.now) l.i a.env.from a.n ≡ false
