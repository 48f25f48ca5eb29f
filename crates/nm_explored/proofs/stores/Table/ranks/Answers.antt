-- One state more.
use Rattle.std.proofs.Common.{◌≡◌, ◌++◌, [], List, Option, take, sym, ◌∙◌, ap}
use Rattle.std.specs.List.{cons_option, filter_map, slice_get}
use Rattle.nm_outcomes.specs.RankStates.{Spot}
use Rattle.nm_explored.proofs.PackLemmas.{found_next}
use Rattle.nm_explored.proofs.stores.Table.ranks.Goals as goal

pub loop-id-preserved : goal.loop-id-preserved
loop-id-preserved c =
    c.in_ok-push_rank.ensures
    ∙ ap (λ (xs : List Spot). xs ++ cons_option c.in_ok-rank.rank []) c.loop-id.invariant
    ∙ ap (λ (o : Option Spot). filter_map (λ id. slice_get c.args.self.now id) (take c.loop-id.id-index c.args.ids.now)
    ++ cons_option o []) c.in_ok-rank.ensures
    ∙ sym (found_next c.args.self.now c.args.ids.now c.loop-id.id-index _ c.loop-id-test.true)
