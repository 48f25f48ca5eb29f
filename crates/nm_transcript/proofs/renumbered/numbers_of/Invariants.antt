use Rattle.std.proofs.Common.{◌≡◌, ◌+◌, ◌++◌, drop, map}
use Rattle.nm_types.specs.Commands.{commands_from}
use Rattle.nm_transcript.specs.Transcripts.{numbers_of}
use Rattle.nm_transcript.proofs.renumbered.numbers_of.Given as goal

-- those so far, and those to come
abbrev pub invariant-loop-place : goal.invariant-loop-place
invariant-loop-place l =
    l.numbers.items ++ map (λ c. c.line) (commands_from l.rank (l.place + 2) (drop l.place l.lines))
    ≡ numbers_of l.lines l.rank
