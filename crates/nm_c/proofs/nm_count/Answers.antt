-- The handle behind the rank tells.
use Rattle.std.proofs.Common.{ap, ◌∙◌}
use Rattle.nm_handle.specs.declared.handles.Handle.{Handle}
use Rattle.nm_handle.specs.Standing.{calls_of}
use Rattle.nm_c.proofs.nm_count.Goals as goal

pub returns-clause-count : goal.returns-clause-count
returns-clause-count c = c.ranks.ensures ∙ ap (λ (h : Handle). (calls_of h).ranks) c.handle.ensures.value
