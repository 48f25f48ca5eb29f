-- The moves at one place more.
use Rattle.std.proofs.Common.{ℕ}
use Rattle.nm_lawful.specs.Searches.{HasMoves}
use Rattle.nm_search.proofs.ListLemmas.{each_next, keeps_then}
use Rattle.nm_lawful.proofs.SearchLemmas.{moves_kept}
use Rattle.nm_lawful.proofs.searches.push_places.Goals as goal

pub loop-j-preserved : goal.loop-j-preserved
loop-j-preserved c =
    record {
      kept = keeps_then c.args.moves.now.items c.loop-j.moves.items c.push_at.new.moves.items c.loop-j.invariant.kept
          c.in_ok-push_at.ensures.kept;
      added = each_next (λ (m : ℕ). HasMoves c.args.i m c.push_at.new.moves.items) c.loop-j.j
          (λ m low. moves_kept c.args.i m c.loop-j.moves.items c.push_at.new.moves.items c.in_ok-push_at.ensures.kept
          (c.loop-j.invariant.added m low))
          c.in_ok-push_at.ensures.added;
    }
