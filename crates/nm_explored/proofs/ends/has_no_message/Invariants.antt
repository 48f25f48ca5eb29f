-- No message is under way from the first ranks.
use Rattle.std.proofs.Common.{◌≡◌, ℕ, ◌<◌, None}
use Rattle.nm_explored.specs.Successors.{message_next, spot_in}
use Rattle.nm_explored.proofs.ends.has_no_message.Given as goal

abbrev pub invariant-loop-from : goal.invariant-loop-from
invariant-loop-from l =
    (from : ℕ) → from < l.from → message_next (spot_in l.view.table.now l.view.ids.now) l.i from ≡ None
