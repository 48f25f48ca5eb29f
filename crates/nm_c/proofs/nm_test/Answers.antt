-- What the call answers is what its number tells.
use Rattle.std.proofs.Common.{subst}
use Rattle.std.specs.Prelude.{IfErr, IfOk}
use Rattle.nm_types.specs.declared.scripts.Command.TheVariants as command
use Rattle.nm_c.specs.Codes.{IsRefused}
use Rattle.nm_c.specs.Told.{HasTold, LeavesBoth}
use Rattle.nm_handle.specs.declared.handles.Handle.{Handle}
use Rattle.nm_c.proofs.nm_test.Goals as goal

pub returns-clause-answered : goal.returns-clause-answered
returns-clause-answered c = record {
  called = c.test.result;
  number = c.number.ensures;
  done = subst (λ (h : Handle). IfOk c.test.result (HasTold (command.Test c.args.name)
      c.args.status.now c.test.new.status c.args.body.now c.test.new.body h c.test.new.handle))
      c.handle.ensures.value c.test.ensures.ran;
  refused = subst (λ (h : Handle). IfErr c.test.result (IsRefused h c.test.new.handle))
      c.handle.ensures.value c.test.ensures.refused;
  cause = subst (λ (h : Handle). IfErr c.test.result (LeavesBoth (command.Test c.args.name)
      c.args.status.now c.test.new.status c.args.body.now c.test.new.body h))
      c.handle.ensures.value c.test.ensures.cause;
}
