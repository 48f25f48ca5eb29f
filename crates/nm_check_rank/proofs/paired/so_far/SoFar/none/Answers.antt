use Rattle.std.proofs.Common.{refl}
use Rattle.nm_check_rank.proofs.paired.so_far.SoFar.none.Goals as goal

pub returns : goal.returns
returns c = λ h. record {
  stamp = refl;
  ran = refl;
  claims = refl;
  starts = refl;
  cancels = refl;
}
