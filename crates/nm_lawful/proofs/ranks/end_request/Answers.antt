-- What stays is what the test keeps.
use Rattle.std.proofs.Common.{not, ◌==◌, rules}
use Rattle.std.proofs.lemmas.Fn.{filter_same}
use Rattle.nm_lawful.specs.declared.messages.Request.{Request}
use Rattle.nm_lawful.proofs.ranks.end_request.Goals as goal

pub returns : goal.returns
returns c = filter_same _ (λ (x : Request). not (x.q == c.args.q)) _ (λ x b q k. search rules) _ _ c.retain.ensures.filtered
