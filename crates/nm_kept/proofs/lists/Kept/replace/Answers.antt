use Rattle.std.proofs.Common.{◌≡◌, ◌≤◌, arith, length, refl}
use Rattle.std.proofs.lemmas.List.{set-append_right}
use Rattle.nm_kept.proofs.lists.Kept.replace.Goals as goal

pub returns-clause-after : goal.returns-clause-after
returns-clause-after g c =
    let a = c.self.inside in
    let held : length a.past.items ≤ c.args.n = rw (← c.self.view_is) at c.requires.behind in
    let same : a.forgotten ≡ length a.past.items = omega (arith, c.self.invariant, held, c.ranges.n.fits) in
    rw (
      ← c.self.view_is,
      c.replace.ensures.after,
      same,
      set-append_right a.past.items a.window.items (length a.past.items) c.args.n c.args.item refl held,
    ) refl
