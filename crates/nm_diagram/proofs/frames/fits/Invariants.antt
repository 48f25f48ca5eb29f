use Rattle.std.proofs.Common.{◌≡◌, ◌+◌, take, sum_by}
use Rattle.nm_diagram.specs.Frames.{shown_of}
use Rattle.nm_diagram.proofs.frames.fits.Given as goal

-- what is left of the room
abbrev pub invariant-loop-account : goal.invariant-loop-account
invariant-loop-account l = l.room + sum_by (shown_of l.span) (take l.account-index l.ranks) ≡ 20000
