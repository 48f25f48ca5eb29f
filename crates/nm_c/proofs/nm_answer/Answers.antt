-- The handle behind the rank tells.
use Rattle.std.proofs.Common.{ap, ◌∙◌}
use Rattle.nm_handle.specs.declared.handles.Handle.{Handle}
use Rattle.nm_c.specs.Asked.{asked, to_tell}
use Rattle.nm_c.specs.Codes.{number_said}
use Rattle.nm_c.specs.Told.{body_said, status_said}
use Rattle.nm_c.proofs.nm_answer.Goals as goal

pub returns-clause-came : goal.returns-clause-came
returns-clause-came c =
    c.number.ensures ∙ ap number_said (c.answer.ensures.came ∙ ap asked c.handle.ensures.value)

pub returns-clause-status : goal.returns-clause-status
returns-clause-status c =
    c.answer.ensures.status
    ∙ ap (λ (h : Handle). status_said (to_tell h) c.args.status.now) c.handle.ensures.value

pub returns-clause-body : goal.returns-clause-body
returns-clause-body c =
    c.answer.ensures.body ∙ ap (λ (h : Handle). body_said (to_tell h) c.args.body.now) c.handle.ensures.value
