use Rattle.std.proofs.Common.{◌≡◌, length}
use Rattle.nm_transcript.proofs.named.put_all.Given as goal

-- as many lines as calls
abbrev pub invariant-loop-call : goal.invariant-loop-call
invariant-loop-call l = length l.chosen.calls ≡ length l.chosen.lines.items
