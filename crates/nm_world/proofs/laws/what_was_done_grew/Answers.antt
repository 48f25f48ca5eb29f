-- By the sums.
use Rattle.nm_world.proofs.Did.{did_any_iff, did_iff}
use Rattle.nm_world.proofs.laws.what_was_done_grew.Goals as goal

pub returns : goal.returns
returns g c =
    record {
      one = λ n a b up. did_iff n a b up;
      any = λ n f r old new kept. did_any_iff n g.S.Source.shows g.S.Source.gives f r old new kept;
    }
