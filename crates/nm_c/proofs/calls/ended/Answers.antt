-- Whether one waits decides.
use Rattle.std.proofs.Common.{Bool, Option, false, ap, sym, ◌∙◌}
use Rattle.nm_types.specs.declared.answers.Answer.{Answer}
use Rattle.nm_process.specs.LastAnswer.{last_answer}
use Rattle.nm_handle.specs.Standing.{process_of}
use Rattle.nm_c.specs.Asked.{ended_so, unless}
use Rattle.nm_c.specs.Told.{body_said, status_said}
use Rattle.nm_c.proofs.calls.ended.Goals as goal

pub returns-clause-came : goal.returns-clause-came
returns-clause-came c =
    c.came_to.ensures ∙ ap (λ (o : Option Answer). ended_so false o) c.answer.ensures
    ∙ ap (λ (b : Bool). ended_so b (last_answer (process_of c.args.handle.now).rank.events))
    (sym (sym c.waits-waits.ensures ∙ c.if-waits.false))

pub returns-clause-status : goal.returns-clause-status
returns-clause-status c =
    c.tell.ensures.status
    ∙ ap (λ (b : Bool). status_said (unless b (last_answer (process_of c.args.handle.now).rank.events))
    c.args.status.now) (sym (sym c.waits-waits.ensures ∙ c.if-waits.false))

pub returns-clause-body : goal.returns-clause-body
returns-clause-body c =
    c.tell.ensures.body
    ∙ ap (λ (b : Bool). body_said (unless b (last_answer (process_of c.args.handle.now).rank.events))
    c.args.body.now) (sym (sym c.waits-waits.ensures ∙ c.if-waits.false))
