-- What the call answers is what its number tells.
use Rattle.std.proofs.Common.{subst}
use Rattle.std.specs.Prelude.{IfErr, IfOk}
use Rattle.nm_types.specs.declared.scripts.Command.TheVariants as command
use Rattle.nm_c.specs.Causes.{IsReason}
use Rattle.nm_c.specs.Codes.{HasAnswered, IsRefused}
use Rattle.nm_handle.specs.declared.handles.Handle.{Handle}
use Rattle.nm_c.proofs.nm_cancel.Goals as goal

pub returns-clause-answered : goal.returns-clause-answered
returns-clause-answered c = record {
  called = c.cancel.result;
  number = c.number.ensures;
  done = subst (λ (h : Handle). IfOk c.cancel.result (HasAnswered
      (command.Cancel c.args.name) h c.cancel.new.handle))
      c.handle.ensures.value c.cancel.ensures.ran;
  refused = subst (λ (h : Handle). IfErr c.cancel.result (IsRefused h c.cancel.new.handle))
      c.handle.ensures.value c.cancel.ensures.refused;
  cause = subst (λ (h : Handle). IfErr c.cancel.result (IsReason
      (command.Cancel c.args.name) h))
      c.handle.ensures.value c.cancel.ensures.cause;
}
