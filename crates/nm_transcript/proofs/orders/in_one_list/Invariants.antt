use Rattle.std.proofs.Common.{◌≡◌, length}
use Rattle.nm_transcript.specs.Orders.{AreFirst}
use Rattle.nm_transcript.proofs.orders.in_one_list.Given as goal

-- the first commands of each rank have lines
abbrev pub invariant-loop-placed : goal.invariant-loop-placed
invariant-loop-placed l =
    record {
      first : AreFirst l.lines l.rest.items l.fn.given.items;
      ranks : length l.rest.items ≡ length l.fn.given.items;
      many : length l.lines ≡ l._placed;
    }
