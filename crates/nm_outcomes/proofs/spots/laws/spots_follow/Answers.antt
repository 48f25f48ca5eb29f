-- The state of a rank follows its history.
use Rattle.nm_outcomes.proofs.StepLemmas.{acts, arrives, withdraws}
use Rattle.nm_outcomes.proofs.spots.laws.spots_follow.Goals as goal

pub returns : goal.returns
returns c = record {
  acts = λ lines h spot stamp is. acts lines h spot is stamp;
  arrives = λ lines h spot stamp is. arrives lines h spot is stamp;
  withdraws = λ lines h spot stamp is. withdraws lines h spot is stamp;
}
