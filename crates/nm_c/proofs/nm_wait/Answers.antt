-- What the call answers is what its number tells.
use Rattle.std.proofs.Common.{subst}
use Rattle.std.specs.Prelude.{IfErr, IfOk}
use Rattle.nm_types.specs.declared.scripts.Command.TheVariants as command
use Rattle.nm_c.specs.Causes.{IsReason}
use Rattle.nm_c.specs.Codes.{IsAhead, IsRefused}
use Rattle.nm_handle.specs.declared.handles.Handle.{Handle}
use Rattle.nm_c.proofs.nm_wait.Goals as goal

pub returns-clause-answered : goal.returns-clause-answered
returns-clause-answered c = record {
  called = c.wait.result;
  number = c.number.ensures;
  done = subst (λ (h : Handle). IfOk c.wait.result (IsAhead (command.Wait c.args.name) h c.wait.new.handle))
      c.handle.ensures.value c.wait.ensures.ran;
  refused = subst (λ (h : Handle). IfErr c.wait.result (IsRefused h c.wait.new.handle))
      c.handle.ensures.value c.wait.ensures.refused;
  cause = subst (λ (h : Handle). IfErr c.wait.result (IsReason (command.Wait c.args.name) h))
      c.handle.ensures.value c.wait.ensures.cause;
}
