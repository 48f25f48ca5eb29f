-- What stays is what the test keeps.
use Rattle.std.proofs.Common.{not, ◌==◌, rules}
use Rattle.std.proofs.lemmas.Fn.{filter_same}
use Rattle.nm_lawful.specs.declared.messages.Message.{Message}
use Rattle.nm_lawful.proofs.ranks.keep_others.Goals as goal

pub returns : goal.returns
returns c = filter_same _ (λ (x : Message). not (x.place == c.args.place)) _ (λ x b q k. search rules) _ _ c.retain.ensures.filtered
