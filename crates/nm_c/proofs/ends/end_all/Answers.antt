-- The handles that were taken are those of the ranks that rest.
use Rattle.std.proofs.Common.{List, subst, sym}
use Rattle.nm_handle.specs.declared.handles.Handle.{Handle}
use Rattle.nm_handle.specs.Worlds.{AreWorld}
use Rattle.nm_c.proofs.ends.end_all.Goals as goal

pub end_of-requires-clause-world : goal.end_of-requires-clause-world
end_of-requires-clause-world c =
    subst (λ (hs : List Handle). AreWorld c.in_ok-shape.shape hs) (sym c.in_ok-handles.ensures.taken)
    (c.in_ok-shape.ensures.world c.requires.world)
