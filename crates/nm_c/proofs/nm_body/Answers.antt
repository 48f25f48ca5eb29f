-- The handle behind the rank tells.
use Rattle.std.proofs.Common.{ap, ◌∙◌}
use Rattle.nm_handle.specs.declared.handles.Handle.{Handle}
use Rattle.nm_c.specs.Asked.{after_asked, asked_whole}
use Rattle.nm_c.specs.Codes.{number_said}
use Rattle.nm_c.proofs.nm_body.Goals as goal

pub returns-clause-came : goal.returns-clause-came
returns-clause-came c =
    c.number.ensures
    ∙ ap number_said
    (c.body.ensures.came ∙ ap (λ (h : Handle). asked_whole h c.args.body.now) c.handle.ensures.value)

pub returns-clause-body : goal.returns-clause-body
returns-clause-body c =
    c.body.ensures.body ∙ ap (λ (h : Handle). after_asked h c.args.body.now) c.handle.ensures.value
