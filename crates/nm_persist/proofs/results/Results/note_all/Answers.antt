-- One answer more is taken.
use Rattle.std.proofs.Common.{arith}
use Rattle.nm_persist.proofs.ResultLemmas.{named_step}
use Rattle.nm_persist.proofs.results.Results.note_all.Goals as goal

pub loop-answer-preserved : goal.loop-answer-preserved
loop-answer-preserved c = record {
  next = omega (arith, c.loop-answer.invariant.next);
  each = λ n. named_step n c.loop-answer.next c.loop-answer.answer-index c.args.answers.now c.answer-item.result _ _ _
      (omega arith) c.answer-item.is (c.in_ok-note.ensures n) (c.loop-answer.invariant.each n);
}
