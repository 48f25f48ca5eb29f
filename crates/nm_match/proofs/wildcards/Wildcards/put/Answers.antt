-- It is last under each wildcard.
use Rattle.std.proofs.lemmas.Result.{on_ok_weaker}
use Rattle.nm_match.specs.Buckets.{bucket_of}
use Rattle.nm_match.specs.Wildcards.{with_any_message, with_any_source, with_any_tag}
use Rattle.nm_match.proofs.WildcardLemmas.{put_under}
use Rattle.nm_match.proofs.wildcards.Wildcards.put.Goals as goal

pub returns : goal.returns
returns c =
    let w = c.args.self.now in
    let first = rw (c.with_any_tag.ensures, c.of_arrival-key.ensures) at c.in_ok-put.ensures in
    let second = rw (c.with_any_source.ensures, c.of_arrival-key.ensures) at c.in_ok-put-2.ensures in
    let third = rw (c.with_any_message.ensures, c.of_arrival-key.ensures) at c.put-3.ensures in
    on_ok_weaker c.put-3.result (λ own queue bucket are held. record {
      any_tag = put_under are with_any_tag (bucket_of w.any_tag.map) (bucket_of c.put.new.self.map) held.any_tag
          c.args.a first.own first.others;
      any_source = put_under are with_any_source (bucket_of w.any_source.map) (bucket_of c.put-2.new.self.map)
          held.any_source c.args.a second.own second.others;
      any_message = put_under are with_any_message (bucket_of w.any_message.map) (bucket_of c.put-3.new.self.map)
          held.any_message c.args.a own third.others;
    }) third.own
