-- New ranks are open, and stand.
use Rattle.std.proofs.Common.{◌≡◌, subst, sym}
use Rattle.std.specs.List.{All}
use Rattle.std.proofs.lemmas.List.Elements.{All-from_recursion}
use Rattle.nm_handle.specs.declared.handles.Handle.{Handle}
use Rattle.nm_handle.specs.declared.states.State.TheVariants as state_is
use Rattle.nm_handle.specs.Standing.{Stands}
use Rattle.nm_c.proofs.Taken.{new_open, new_stand}
use Rattle.nm_c.proofs.ends.handles_of.Goals as goal

pub take_all-requires-clause-opened : goal.take_all-requires-clause-opened
take_all-requires-clause-opened c =
    subst (All (λ (h : Handle). h.state ≡ state_is.Open)) (sym c.as_mut_slice.ensures.value)
    (All-from_recursion (λ (h : Handle). h.state ≡ state_is.Open) c.in_ok-handles.handles.items
    (new_open c.least_of.result 0 c.in_ok-handles.handles.items c.in_ok-handles.ensures.new))

pub take_all-requires-clause-others : goal.take_all-requires-clause-others
take_all-requires-clause-others c =
    subst (All Stands) (sym c.as_mut_slice.ensures.value)
    (All-from_recursion Stands c.in_ok-handles.handles.items
    (new_stand c.least_of.result 0 c.in_ok-handles.handles.items c.in_ok-handles.ensures.new))
