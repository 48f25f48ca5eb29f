-- One state more is there.
use Rattle.std.proofs.Common.{◌≡◌, ℕ, ◌<◌, List, Some, arith}
use Rattle.std.specs.List.{slice_get}
use Rattle.nm_types.proofs.ListLemmas.{place_below}
use Rattle.nm_search.specs.Lists.{Has}
use Rattle.nm_lawful.specs.Ranks.{RankState}
use Rattle.nm_search.proofs.SetLemmas.{kept_in}
use Rattle.nm_search.proofs.ListLemmas.{added_only, each_next, has_kept, item_added, keeps_then, only_then}
use Rattle.nm_lawful.proofs.searches.States.add_all.Goals as goal

pub loop-state-preserved : goal.loop-state-preserved
loop-state-preserved c =
    let kept = kept_in c.loop-state.self c.add.new.self c.in_ok-copy.copy c.in_ok-add.ensures.added in
    record {
      kept = keeps_then c.args.self.now c.loop-state.self c.add.new.self c.loop-state.invariant.kept kept;
      there = each_next
          (λ (k : ℕ). (t : List RankState) → slice_get c.args.states.now k ≡ Some t → Has c.add.new.self t)
          c.loop-state.state-index
          (λ k low t at. has_kept c.loop-state.self c.add.new.self t kept (c.loop-state.invariant.there k low t at))
          (λ t at. item_added c.loop-state.state-index c.state-item.result c.in_ok-copy.copy t c.args.states.now
          c.add.new.self c.state-item.is c.in_ok-copy.ensures at c.in_ok-add.ensures.there);
      only = only_then (Has c.args.states.now) c.args.self.now c.loop-state.self c.add.new.self
          c.loop-state.invariant.only
          (added_only c.loop-state.state-index c.state-item.result c.in_ok-copy.copy c.args.states.now
          c.loop-state.self c.add.new.self c.state-item.is c.loop-state-test.true c.in_ok-copy.ensures
          c.in_ok-add.ensures.added);
    }

pub returns-clause-there : goal.returns-clause-there
returns-clause-there c t at =
    let below = place_below c.args.states.now at.0 t at.1 in
    let past = c.loop-state-test.false in
    let low : at.0 < c.loop-state.state-index = omega (arith, below, past) in
    c.loop-state.invariant.there at.0 low t at.1
