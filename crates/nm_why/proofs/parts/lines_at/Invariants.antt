use Rattle.std.proofs.Common.{◌≡◌, take}
use Rattle.nm_why.specs.Parts.{lines_at}
use Rattle.nm_why.proofs.parts.lines_at.Given as goal

abbrev pub invariant-loop-place : goal.invariant-loop-place
invariant-loop-place l = l.part.items ≡ lines_at l.lines (take l.place-index l.places)
