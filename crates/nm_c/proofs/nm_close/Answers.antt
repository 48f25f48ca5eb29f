-- What the call answers is what its number tells.
use Rattle.std.proofs.Common.{subst}
use Rattle.std.specs.Prelude.{IfErr, IfOk}
use Rattle.nm_c.specs.Codes.{IsRefused}
use Rattle.nm_c.specs.Leaves.{HasLeft, LeavesLeft}
use Rattle.nm_handle.specs.declared.handles.Handle.{Handle}
use Rattle.nm_c.proofs.nm_close.Goals as goal

pub returns-clause-answered : goal.returns-clause-answered
returns-clause-answered c = record {
  called = c.close.result;
  number = c.number.ensures;
  done = subst (λ (h : Handle). IfOk c.close.result (HasLeft c.args.left.now c.close.new.left h
      c.close.new.handle))
      c.handle.ensures.value c.close.ensures.ran;
  refused = subst (λ (h : Handle). IfErr c.close.result (IsRefused h c.close.new.handle))
      c.handle.ensures.value c.close.ensures.refused;
  cause = subst (λ (h : Handle). IfErr c.close.result (LeavesLeft c.args.left.now c.close.new.left h))
      c.handle.ensures.value c.close.ensures.cause;
}
