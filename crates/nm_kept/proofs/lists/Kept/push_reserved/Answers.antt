use Rattle.std.proofs.Common.{◌∷◌, [], arith, append_assoc, length-append, refl}
use Rattle.nm_kept.proofs.lists.Kept.push_reserved.Goals as goal

pub push_back_reserved-requires : goal.push_back_reserved-requires
push_back_reserved-requires g c =
    let a = c.self.inside in
    omega (
      arith,
      a.window.ok.0,
      length-append a.past.items a.window.items,
      rw (← c.self.view_is) at c.requires,
    )

pub returns : goal.returns
returns g c =
    let a = c.self.inside in
    rw (
      ← c.self.view_is,
      c.push_back_reserved.ensures.items,
      c.push_back_reserved.ensures.capacity,
      append_assoc a.past.items a.window.items (c.args.item ∷ []),
    ) refl
