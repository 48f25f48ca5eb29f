-- One line more.
use Rattle.std.proofs.Common.{arith}
use Rattle.nm_transcript.proofs.NumberLemmas.{numbers_done, numbers_step}
use Rattle.nm_transcript.proofs.renumbered.numbers_of.Goals as goal

pub loop-place-preserved : goal.loop-place-preserved
loop-place-preserved c =
    numbers_step c.args.lines.now c.args.rank c.loop-place.place c.index-lines-place.result c.loop-place.numbers.items
    c.note.new.numbers.items c.loop-place-test.true c.index-lines-place.is c.in_ok-note.ensures c.loop-place.invariant

pub returns : goal.returns
returns c =
    numbers_done c.args.lines.now c.args.rank c.loop-place.place c.loop-place.numbers.items (omega arith)
    c.loop-place.invariant
