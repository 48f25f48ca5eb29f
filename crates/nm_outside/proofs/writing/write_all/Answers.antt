use Rattle.std.proofs.Common.{◌∙◌}
use Rattle.nm_outside.proofs.WritingLemmas.{more_written}
use Rattle.nm_outside.proofs.writing.write_all.Goals as goal

pub loop-rest-preserved : goal.loop-rest-preserved
loop-rest-preserved g c =
    let piece = c.in_ok-count.ensures in
    record {
      written =
          more_written _ _ _ _ _ c.in_ok-count.count c.loop-rest.invariant.written piece.within
          piece.taken;
      quiet = piece.quiet ∙ c.loop-rest.invariant.quiet;
    }
