-- The handle behind the rank tells.
use Rattle.std.proofs.Common.{ap, ◌∙◌}
use Rattle.nm_handle.specs.declared.handles.Handle.{Handle}
use Rattle.nm_handle.specs.Standing.{process_of}
use Rattle.nm_c.proofs.nm_number.Goals as goal

pub returns-clause-number : goal.returns-clause-number
returns-clause-number c = c.me.ensures ∙ ap (λ (h : Handle). (process_of h).rank.me) c.handle.ensures.value
