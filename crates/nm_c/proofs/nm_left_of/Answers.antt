-- The handle behind the rank tells.
use Rattle.std.proofs.Common.{ap, ◌∙◌}
use Rattle.nm_handle.specs.declared.handles.Handle.{Handle}
use Rattle.nm_c.specs.Codes.{number_said}
use Rattle.nm_c.specs.Leaves.{left_came, left_of, left_told}
use Rattle.nm_c.proofs.nm_left_of.Goals as goal

pub returns-clause-came : goal.returns-clause-came
returns-clause-came c =
    c.number.ensures
    ∙ ap number_said (c.tell_left.ensures.came ∙ ap (λ (h : Handle). left_came h.state) c.handle.ensures.value)

pub returns-clause-told : goal.returns-clause-told
returns-clause-told c =
    c.tell_left.ensures.told
    ∙ ap (λ (h : Handle). left_told h.state (left_of h) c.args.left.now) c.handle.ensures.value
