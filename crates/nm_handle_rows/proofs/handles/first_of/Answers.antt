-- The first of new ranks stands.
use Rattle.std.proofs.Common.{◌≡◌, ◌∷◌, ◌∙◌, List, subst, sym}
use Rattle.std.specs.Vec.Iter.{into_iter_items}
use Rattle.nm_handle.specs.declared.handles.Handle.{Handle}
use Rattle.nm_handle.specs.Standing.{AreNew}
use Rattle.nm_handle_rows.proofs.handles.first_of.Goals as goal

pub returns : goal.returns
returns c =
    let handle = c.in-Some.handle in
    let all : c.args.handles.items ≡ handle ∷ into_iter_items c.next.new.self =
    sym c.into_iter-handles.ensures.rest ∙ c.in-Some.ensures.items in
    (subst (λ (hs : List Handle). AreNew c.args.shape 0 hs) all c.requires).0.stands
