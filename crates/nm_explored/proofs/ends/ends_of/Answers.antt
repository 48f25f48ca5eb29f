-- One state more, and all of them.
use Rattle.std.proofs.Common.{◌≡◌, ℕ, Some, List, map}
use Rattle.std.specs.List.{slice_get}
use Rattle.nm_explored.specs.Successors.{spot_in}
use Rattle.nm_search.specs.Lists.{Has}
use Rattle.nm_search.proofs.ListLemmas.{each_next, has_kept, or_more}
use Rattle.nm_explored.specs.Ends.{IsEndAmong, IsToldAmong, all_told, told_at_end}
use Rattle.nm_explored.specs.Rests.{AreAtRest}
use Rattle.nm_explored.proofs.ends.ends_of.Goals as goal

pub loop-k-preserved : goal.loop-k-preserved
loop-k-preserved c =
    record {
      all = each_next
          (λ (k : ℕ). (ids : List ℕ) → slice_get c.args.search.now.states k ≡ Some ids →
          AreAtRest c.args.of.ranks c.args.of.lines.now (spot_in c.args.search.now.table ids) →
          Has (map told_at_end c.push_state.new.ends.items)
          (all_told c.args.of.lines.now (spot_in c.args.search.now.table ids) c.args.of.ranks)) c.loop-k.k
          (λ k low ids here rest.
          has_kept (map told_at_end c.loop-k.ends.items) (map told_at_end c.push_state.new.ends.items) _
          c.in_ok-push_state.ensures.kept (c.loop-k.invariant.all k low ids here rest))
          c.in_ok-push_state.ensures.added;
      only = or_more (IsToldAmong c.args.of.ranks c.args.of.lines.now c.args.search.now)
          (map told_at_end c.loop-k.ends.items) (map told_at_end c.push_state.new.ends.items)
          c.loop-k.invariant.only c.in_ok-push_state.ensures.only;
      ways = or_more (IsEndAmong c.args.of.eager c.args.of.ranks c.args.of.lines.now c.args.search.now)
          c.loop-k.ends.items c.push_state.new.ends.items c.loop-k.invariant.ways c.in_ok-push_state.ensures.ways;
    }
