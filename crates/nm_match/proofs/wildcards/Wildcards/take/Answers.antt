-- It leaves each wildcard.
use Rattle.nm_match.specs.Buckets.{bucket_of}
use Rattle.nm_match.specs.Wildcards.{with_any_message, with_any_source, with_any_tag}
use Rattle.nm_match.proofs.WildcardLemmas.{taken_under}
use Rattle.nm_match.proofs.wildcards.Wildcards.take.Goals as goal

pub returns : goal.returns
returns c = λ queue next bucket test x are found of_order of_key held.
    let w = c.args.self.now in
    let first = rw (c.with_any_tag.ensures, ← of_order, ← of_key) at c.take.ensures in
    let second = rw (c.with_any_source.ensures, ← of_order, ← of_key) at c.take-2.ensures in
    let third = rw (c.with_any_message.ensures, ← of_order, ← of_key) at c.take-3.ensures in
    record {
      any_tag = taken_under are with_any_tag (bucket_of w.any_tag.map) (bucket_of c.take.new.self.map) held.any_tag
          test x found first;
      any_source = taken_under are with_any_source (bucket_of w.any_source.map) (bucket_of c.take-2.new.self.map)
          held.any_source test x found second;
      any_message = taken_under are with_any_message (bucket_of w.any_message.map)
          (bucket_of c.take-3.new.self.map) held.any_message test x found third;
    }
