-- None of the deeds before this one says it.
use Rattle.std.proofs.Common.{◌≡◌, drop}
use Rattle.nm_waits.specs.Near.{first_said, receive_line}
use Rattle.nm_waits.proofs.near.line_of_receive.Given as goal

abbrev pub invariant-loop-deed : goal.invariant-loop-deed
invariant-loop-deed l =
    first_said (receive_line l.number) (drop l.deed-index l.deeds)
    ≡ first_said (receive_line l.number) l.deeds
