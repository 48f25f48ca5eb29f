-- The part at a place.
use Rattle.std.proofs.Common.{sym, ◌∙◌}
use Rattle.nm_explored.proofs.PackLemmas.{part_at}
use Rattle.nm_explored.proofs.packs.Parts.is_at.Goals as goal

pub returns-in-Some : goal.returns-in-Some
returns-in-Some c so =
    part_at c.as_slice.result.now c.args.self.now c.args.number c.in-Some.own.now c.args.part.now
    (c.as_slice.ensures.keys ∙ c.self.view_is) c.in-Some.ensures.lookup.3.0 c.in-Some.ensures.lookup.3.1
    (sym c.eq.ensures ∙ so)
