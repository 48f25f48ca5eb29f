-- What may come next is a move.
use Rattle.nm_explored.proofs.ChoiceLemmas.{events_are_choices}
use Rattle.nm_explored.proofs.choices.laws.events_are_choices.Goals as goal

pub returns : goal.returns
returns c = events_are_choices
