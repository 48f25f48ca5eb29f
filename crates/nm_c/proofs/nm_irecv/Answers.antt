-- What the call answers is what its number tells.
use Rattle.std.proofs.Common.{subst}
use Rattle.std.specs.Prelude.{IfErr, IfOk}
use Rattle.nm_types.specs.declared.scripts.Command.TheVariants as command
use Rattle.nm_c.specs.Causes.{IsReason}
use Rattle.nm_c.specs.Codes.{HasAnswered, IsRefused, peer_of, pick_of}
use Rattle.nm_handle.specs.declared.handles.Handle.{Handle}
use Rattle.nm_c.proofs.nm_irecv.Goals as goal

pub returns-clause-answered : goal.returns-clause-answered
returns-clause-answered c = record {
  called = c.receive.result;
  number = c.number.ensures;
  done = subst (λ (h : Handle). IfOk c.receive.result (HasAnswered
      (command.Recv c.args.name (peer_of c.args.from) (pick_of c.args.tag) c.args.context c.args.capacity) h
      c.receive.new.handle))
      c.handle.ensures.value c.receive.ensures.ran;
  refused = subst (λ (h : Handle). IfErr c.receive.result (IsRefused h c.receive.new.handle))
      c.handle.ensures.value c.receive.ensures.refused;
  cause = subst (λ (h : Handle). IfErr c.receive.result (IsReason
      (command.Recv c.args.name (peer_of c.args.from) (pick_of c.args.tag) c.args.context c.args.capacity) h))
      c.handle.ensures.value c.receive.ensures.cause;
}
