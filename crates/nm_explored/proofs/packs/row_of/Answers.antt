-- One number more.
use Rattle.std.proofs.Common.{◌≡◌, List, map, Some, refl, sym, ◌∙◌, ap, subst, arith}
use Rattle.nm_outcomes.specs.declared.spots.deeds.Part.{Part}
use Rattle.nm_search.proofs.ListLemmas.{keeps_all, keeps_then}
use Rattle.nm_explored.specs.Packs.{AreNumbers}
use Rattle.nm_explored.proofs.PackLemmas.{numbers_next}
use Rattle.nm_explored.proofs.packs.row_of.Goals as goal

pub loop-part-preserved : goal.loop-part-preserved
loop-part-preserved c =
    record {
      named = numbers_next c.loop-part.parts c.number_near.new.parts c.loop-part.row.items c.push.new.self.items
          c.in_ok-number.number c.deref-part-items.result.now c.loop-part.part-index _ c.loop-part-test.true
          c.in_ok-number.ensures.kept c.loop-part.invariant.named c.in_ok-number.ensures.there
          c.in_ok-push.ensures.items;
      kept = keeps_then c.args.parts.now c.loop-part.parts c.number_near.new.parts c.loop-part.invariant.kept
          c.in_ok-number.ensures.kept;
    }
