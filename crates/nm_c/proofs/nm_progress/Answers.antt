-- What the call answers is what its number tells.
use Rattle.std.proofs.Common.{subst}
use Rattle.std.specs.Prelude.{IfErr, IfOk}
use Rattle.nm_c.specs.Causes.{IsReasonOfTurn}
use Rattle.nm_c.specs.Codes.{IsRefused, IsTurn}
use Rattle.nm_handle.specs.declared.handles.Handle.{Handle}
use Rattle.nm_c.proofs.nm_progress.Goals as goal

pub returns-clause-answered : goal.returns-clause-answered
returns-clause-answered c = record {
  called = c.progress.result;
  number = c.number.ensures;
  done = subst (λ (h : Handle). IfOk c.progress.result (IsTurn h c.progress.new.handle))
      c.handle.ensures.value c.progress.ensures.ran;
  refused = subst (λ (h : Handle). IfErr c.progress.result (IsRefused h c.progress.new.handle))
      c.handle.ensures.value c.progress.ensures.refused;
  cause = subst (λ (h : Handle). IfErr c.progress.result (IsReasonOfTurn h))
      c.handle.ensures.value c.progress.ensures.cause;
}
