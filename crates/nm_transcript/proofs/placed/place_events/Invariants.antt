use Rattle.std.proofs.Common.{length}
use Rattle.nm_transcript.specs.Renumbered.{AreOf}
use Rattle.nm_transcript.proofs.placed.place_events.Given as goal

-- those so far
abbrev pub invariant-loop-event : goal.invariant-loop-event
invariant-loop-event l = AreOf (length l.lines) l.all.items
