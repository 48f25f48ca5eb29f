-- Nothing happened yet.
use Rattle.std.proofs.Common.{[]}
use Rattle.nm_match.proofs.DeedLemmas.{queues-none}
use Rattle.nm_match.proofs.SeenLemmas.{names_none}
use Rattle.nm_match.proofs.matching.Matcher.new.Goals as goal

pub invariant_of-result : goal.invariant_of-result
invariant_of-result c =
    rw c.new.ensures (record {
      posted = [];
      unexpected = [];
      claimed = [];
      cancelled = [];
      receives = c.new-2.ensures.none 0;
      messages = c.new-3.ensures.none 0;
      queues = queues-none;
      names = names_none c.new-4.result c.new-5.result c.new-4.ensures.none
          c.new-5.ensures.none c.new-4.ensures.few c.new-5.ensures.few;
    })
