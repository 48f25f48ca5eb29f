-- What the call answers is what its number tells.
use Rattle.std.proofs.Common.{subst}
use Rattle.std.specs.Prelude.{IfErr, IfOk}
use Rattle.nm_types.specs.declared.scripts.Command.TheVariants as command
use Rattle.nm_c.specs.Codes.{IsRefused, peer_of, pick_of}
use Rattle.nm_c.specs.Told.{HasShown, LeavesStatus}
use Rattle.nm_handle.specs.declared.handles.Handle.{Handle}
use Rattle.nm_c.proofs.nm_iprobe.Goals as goal

pub returns-clause-answered : goal.returns-clause-answered
returns-clause-answered c = record {
  called = c.probe.result;
  number = c.number.ensures;
  done = subst (λ (h : Handle). IfOk c.probe.result (HasShown
      (command.Probe (peer_of c.args.from) (pick_of c.args.tag) c.args.context)
      c.args.status.now c.probe.new.status h c.probe.new.handle))
      c.handle.ensures.value c.probe.ensures.ran;
  refused = subst (λ (h : Handle). IfErr c.probe.result (IsRefused h c.probe.new.handle))
      c.handle.ensures.value c.probe.ensures.refused;
  cause = subst (λ (h : Handle). IfErr c.probe.result (LeavesStatus
      (command.Probe (peer_of c.args.from) (pick_of c.args.tag) c.args.context)
      c.args.status.now c.probe.new.status h))
      c.handle.ensures.value c.probe.ensures.cause;
}
