use Rattle.std.proofs.Common.{refl}
use Rattle.std.proofs.lemmas.List.{get_or-replicate}
use Rattle.nm_check_rank.proofs.numbers.Counts.none.Goals as goal

pub returns : goal.returns
returns c = record {
  sent = λ to few. get_or-replicate 256 to 0 0 few;
  came = λ from few. get_or-replicate 256 from 0 0 few;
  received = refl;
}
