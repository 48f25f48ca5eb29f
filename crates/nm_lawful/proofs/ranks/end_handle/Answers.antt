-- What stays is what the test keeps.
use Rattle.std.proofs.Common.{not, ◌==◌, rules}
use Rattle.std.proofs.lemmas.Fn.{filter_same}
use Rattle.nm_lawful.specs.declared.messages.Claim.{Claim}
use Rattle.nm_lawful.proofs.ranks.end_handle.Goals as goal

pub returns : goal.returns
returns c = filter_same _ (λ (x : Claim). not (x.m == c.args.m)) _ (λ x b q k. search rules) _ _ c.retain.ensures.filtered
