-- What is found, without its number.
use Rattle.std.proofs.Common.{◌∙◌, Some, None}
use Rattle.nm_match.proofs.OldestLemmas.{arrival_found}
use Rattle.nm_match.proofs.unexpected.Unexpected.oldest.Goals as goal

pub returns-in_err-a : goal.returns-in_err-a
returns-in_err-a c = λ arrivals claimed next is.
    c.from_residual.ensures ∙ arrival_found is.named.is c.args.from c.args.tag c.args.ctx None
    (c.in_err-a.ensures is.named.is.queue next is.named.is.are is.wildcards)

pub returns : goal.returns
returns c = λ arrivals claimed next is.
    arrival_found is.named.is c.args.from c.args.tag c.args.ctx (Some (c.in_ok-a.field-0-0, c.in_ok-a.a))
    (c.in_ok-a.ensures is.named.is.queue next is.named.is.are is.wildcards)
