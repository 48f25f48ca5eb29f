-- What is selected is found under the wildcard that is named.
use Rattle.std.proofs.Common.{◌∙◌}
use Rattle.nm_match.specs.Buckets.{bucket_of}
use Rattle.nm_match.specs.Wildcards.{with_any_message, with_any_source, with_any_tag}
use Rattle.nm_match.proofs.WildcardLemmas.{fits_any_message, fits_any_source, fits_any_tag, front_under}
use Rattle.nm_match.proofs.wildcards.Wildcards.front.Goals as goal

pub returns-in-One-default : goal.returns-in-One-default
returns-in-One-default c = λ queue wild held.
    let k = c.args.wanted in
    c.front.ensures ∙ front_under queue with_any_tag (bucket_of c.args.self.now.any_tag.map) held.any_tag k
    (fits_any_tag k.from k.tag k.ctx c.in-One-default.field-0-0 c.in-One-default.is-0 wild)

pub returns-in-Any-One : goal.returns-in-Any-One
returns-in-Any-One c = λ queue wild held.
    let k = c.args.wanted in
    c.front-in-Any-One.ensures
    ∙ front_under queue with_any_source (bucket_of c.args.self.now.any_source.map) held.any_source k
    (fits_any_source k.from k.tag k.ctx c.in-Any-One.field-0-1 c.in-Any-One.is-0 c.in-Any-One.is-1)

pub returns-in-Any-Any : goal.returns-in-Any-Any
returns-in-Any-Any c = λ queue wild held.
    let k = c.args.wanted in
    c.front-in-Any-Any.ensures
    ∙ front_under queue with_any_message (bucket_of c.args.self.now.any_message.map) held.any_message k
    (fits_any_message k.from k.tag k.ctx c.in-Any-Any.is-0 c.in-Any-Any.is-1)
