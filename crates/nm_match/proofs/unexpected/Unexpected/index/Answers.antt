-- The messages wait in the same buckets.
use Rattle.std.proofs.Common.{ap, refl}
use Rattle.nm_types.specs.declared.messages.Arrival.{Arrival}
use Rattle.indexmap.specs.IndexMap.{get}
use Rattle.nm_match.specs.declared.buckets.Buckets.{Buckets}
use Rattle.nm_match.specs.Buckets.{bucket_of}
use Rattle.nm_match.specs.Names.{same_message}
use Rattle.nm_match.proofs.NameLemmas.{named_kept}
use Rattle.nm_match.proofs.WildcardLemmas.{unexpected_in}
use Rattle.nm_match.proofs.unexpected.Unexpected.index.Goals as goal

pub returns : goal.returns
returns c = λ arrivals claimed next is. unexpected_in (named_kept is.named (bucket_of c.index.new.self.named.map) (get same_message c.args.self.now.standings)
    (λ k. ap (λ (b : Buckets Arrival). bucket_of b.map k) c.index.ensures.named) (λ id. refl))
    (c.index.ensures.wildcards is.named.is.queue next is.named.is.are is.wildcards)
