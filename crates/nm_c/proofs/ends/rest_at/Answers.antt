-- The handle behind the rank made the turn.
use Rattle.std.proofs.Common.{subst}
use Rattle.std.specs.Prelude.{IfErr, IfOk}
use Rattle.nm_handle.specs.declared.handles.Handle.{Handle}
use Rattle.nm_handle.specs.Ends.{IsRestless}
use Rattle.nm_handle.specs.Standing.{HasTurned}
use Rattle.nm_c.proofs.ends.rest_at.Goals as goal

pub returns-clause-turned : goal.returns-clause-turned
returns-clause-turned c = subst (λ (h : Handle). IfOk c.rest.result (λ _. HasTurned h c.rest.new.handle))
    c.handle.ensures.value c.rest.ensures.turned

pub returns-clause-why : goal.returns-clause-why
returns-clause-why c = subst (λ (h : Handle). IfErr c.rest.result (IsRestless h c.rest.new.handle))
    c.handle.ensures.value c.rest.ensures.why
