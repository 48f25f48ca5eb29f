-- A process runs a command.
use Rattle.std.proofs.Common.{ℕ, ◌+◌, sym, ap, subst, ◌∙◌}
use Rattle.nm_process.specs.declared.steps.Step.{Step}
use Rattle.nm_process.specs.declared.steps.Step.TheVariants.{Ran as Took}
use Rattle.std.specs.Prelude.{IsSome}
use Rattle.nm_process.specs.LastAnswer.{last_answer}
use Rattle.nm_process.specs.Processes.{ProcessView}
use Rattle.nm_process.specs.Starts.{HasTried}
use Rattle.nm_process.proofs.AnswerLemmas.{tried_answers}
use Rattle.nm_process.proofs.SameLemmas.{tried_run}
use Rattle.nm_process.proofs.StepLemmas.{ran}
use Rattle.nm_process.proofs.processes.Process.run.Goals as goal

pub returns-clause-same : goal.returns-clause-same
returns-clause-same g c =
    let same = tried_run c.args.self.now c.run_command.new.self c.args.command.now c.args.line c.in_ok-step.step
    c.in_ok-step.ensures.tried in (
      ap (λ (v : ProcessView). v.rank.me) c.self-2.view_is ∙ same.0,
      ap (λ (v : ProcessView). v.rank.sizes) c.self-2.view_is ∙ same.1,
    )

pub returns-clause-work : goal.returns-clause-work
returns-clause-work g c took shape commands bound work next =
    let a = c.args.self.now in
    let x = c.args.command.now in
    let line = c.args.line in
    let i = c.self-2.inside in
    let v : ProcessView = record { rank = i.rank; at = i.at; names = i.requests; handles = i.handles.entries } in
    let at = ap (λ (v : ProcessView). v.at) c.self-2.view_is ∙ c.in_ok-step.ensures.places in
    let tried : HasTried a v x line Took = subst (λ (s : Step). HasTried a v x line s) took
    (subst (λ (v : ProcessView). HasTried a v x line c.in_ok-step.step) (sym c.self-2.view_is)
    c.in_ok-step.ensures.tried) in
    ran shape commands bound a (record v { at = i.at + 1 }) line x work next (ap (λ (k : ℕ). k + 1) at)
    c.history.ensures.right (subst (λ (k : ℕ). HasTried a (record v { at = k }) x line Took) at tried)

pub returns-clause-answered : goal.returns-clause-answered
returns-clause-answered g c took =
    let a = c.args.self.now in
    let x = c.args.command.now in
    subst (λ (v : ProcessView). IsSome (last_answer v.rank.events)) (sym c.self-2.view_is)
    (tried_answers a c.run_command.new.self x c.args.line
    (subst (λ (s : Step). HasTried a c.run_command.new.self x c.args.line s) took c.in_ok-step.ensures.tried))
