-- A process runs a command.
use Rattle.std.proofs.Common.{refl, sym, subst}
use Rattle.std.specs.Prelude.{IfOk}
use Rattle.nm_types.specs.declared.scripts.Command.{Command}
use Rattle.nm_types.specs.declared.scripts.Command.TheVariants as command
use Rattle.nm_process.specs.declared.steps.Step.TheVariants as step_is
use Rattle.nm_process.specs.Starts.{HasTried}
use Rattle.nm_process.proofs.StartLemmas.{ok_step}
use Rattle.nm_process.proofs.processes.Process.run_command.Goals as goal

pub returns-in-Send-clause-tried : goal.returns-in-Send-clause-tried
returns-in-Send-clause-tried g c =
    let a = c.args.self.now in
    let b = c.send.new.self in
    let s = c.in-Send in
    subst (λ (x : Command). IfOk c.send.result (HasTried a b x c.args.line)) (sym s.is)
    (ok_step (HasTried a b (command.Send s.to s.q s.tag s.ctx s.sync s.body) c.args.line) c.send.result
    step_is.Ran c.send.ensures.ran c.send.ensures.tried (λ tried. (refl, tried)))
