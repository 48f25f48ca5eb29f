-- What the call answers is what its number tells.
use Rattle.std.proofs.Common.{subst}
use Rattle.std.specs.Prelude.{IfErr, IfOk}
use Rattle.nm_types.specs.declared.scripts.Command.TheVariants as command
use Rattle.nm_c.specs.Causes.{IsReason}
use Rattle.nm_c.specs.Codes.{HasAnswered, IsRefused}
use Rattle.nm_handle.specs.declared.handles.Handle.{Handle}
use Rattle.nm_c.proofs.nm_imrecv.Goals as goal

pub returns-clause-answered : goal.returns-clause-answered
returns-clause-answered c = record {
  called = c.receive_claimed.result;
  number = c.number.ensures;
  done = subst (λ (h : Handle). IfOk c.receive_claimed.result (HasAnswered
      (command.Mrecv c.args.name c.args.handle c.args.capacity) h c.receive_claimed.new.handle))
      c.handle.ensures.value c.receive_claimed.ensures.ran;
  refused = subst (λ (h : Handle). IfErr c.receive_claimed.result (IsRefused h c.receive_claimed.new.handle))
      c.handle.ensures.value c.receive_claimed.ensures.refused;
  cause = subst (λ (h : Handle). IfErr c.receive_claimed.result (IsReason
      (command.Mrecv c.args.name c.args.handle c.args.capacity) h))
      c.handle.ensures.value c.receive_claimed.ensures.cause;
}
