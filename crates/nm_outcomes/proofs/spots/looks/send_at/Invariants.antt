-- What is left to find stands among the deeds that are left.
use Rattle.std.proofs.Common.{◌≡◌, drop}
use Rattle.std.specs.Prelude.{filter}
use Rattle.std.specs.List.{slice_get}
use Rattle.nm_outcomes.specs.Looks.{is_send_by}
use Rattle.nm_outcomes.proofs.spots.looks.send_at.Given as goal

abbrev pub invariant-loop-deed : goal.invariant-loop-deed
invariant-loop-deed l =
    slice_get (filter (is_send_by l.to) (drop l.deed-index l.deeds)) l.left
    ≡ slice_get (filter (is_send_by l.to) l.deeds) l.n
