-- The moves of one rank more.
use Rattle.std.proofs.Common.{◌≡◌, ℕ, Some, List, ◌∙◌, ap, arith}
use Rattle.std.specs.List.{slice_get}
use Rattle.nm_types.proofs.ListLemmas.{place_below}
use Rattle.nm_lawful.specs.Ranks.{RankState}
use Rattle.nm_lawful.specs.Searches.{HasMovesOf}
use Rattle.nm_search.proofs.ListLemmas.{each_next}
use Rattle.nm_lawful.proofs.SearchLemmas.{moved_rank, rank_kept}
use Rattle.nm_lawful.proofs.searches.all_moves.Goals as goal

pub loop-i-preserved : goal.loop-i-preserved
loop-i-preserved c =
    each_next
    (λ (i : ℕ). (rank : RankState) → slice_get c.as_slice-ranks.result.now i ≡ Some rank →
    HasMovesOf i rank c.push_rank.new.moves.items) c.loop-i.i
    (λ i low rank here. rank_kept i rank c.loop-i.moves.items c.push_rank.new.moves.items
    c.in_ok-push_rank.ensures.kept (c.loop-i.invariant i low rank here))
    (λ rank here. moved_rank c.loop-i.i c.index-ranks-i.result rank c.as_slice-ranks.result.now
    c.push_rank.new.moves.items c.index-ranks-i.is here c.in_ok-push_rank.ensures.added)

pub returns : goal.returns
returns c i rank here =
    let there = ap (λ (xs : List RankState). slice_get xs i) c.as_slice-ranks.ensures.value ∙ here in
    let low = place_below c.as_slice-ranks.result.now i rank there in
    c.loop-i.invariant i (omega (arith, low)) rank there
