-- What the call answers is what its number tells.
use Rattle.std.proofs.Common.{true, subst}
use Rattle.std.specs.Prelude.{IfErr, IfOk}
use Rattle.nm_types.specs.declared.scripts.Body.TheVariants as body
use Rattle.nm_types.specs.declared.scripts.Command.TheVariants as command
use Rattle.nm_c.specs.Causes.{IsReason}
use Rattle.nm_c.specs.Codes.{HasAnswered, IsRefused}
use Rattle.nm_handle.specs.declared.handles.Handle.{Handle}
use Rattle.nm_c.proofs.nm_issend.Goals as goal

pub returns-clause-answered : goal.returns-clause-answered
returns-clause-answered c = record {
  called = c.send.result;
  number = c.number.ensures;
  done = subst (λ (h : Handle). IfOk c.send.result (HasAnswered
      (command.Send c.args.to c.args.name c.args.tag c.args.context true
      (body.Hex c.args.body.now)) h c.send.new.handle))
      c.handle.ensures.value c.send.ensures.ran;
  refused = subst (λ (h : Handle). IfErr c.send.result (IsRefused h c.send.new.handle))
      c.handle.ensures.value c.send.ensures.refused;
  cause = subst (λ (h : Handle). IfErr c.send.result (IsReason
      (command.Send c.args.to c.args.name c.args.tag c.args.context true (body.Hex c.args.body.now)) h))
      c.handle.ensures.value c.send.ensures.cause;
}
