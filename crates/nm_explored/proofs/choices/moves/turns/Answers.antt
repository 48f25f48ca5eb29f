-- The moves of one rank more.
use Rattle.std.proofs.Common.{ℕ}
use Rattle.nm_explored.specs.Successors.{spot_in}
use Rattle.nm_explored.specs.Moves.{AreMovesOf, IsTurn}
use Rattle.nm_search.proofs.ListLemmas.{each_next, has_kept, or_more}
use Rattle.nm_explored.proofs.choices.moves.turns.Goals as goal

pub loop-i-preserved : goal.loop-i-preserved
loop-i-preserved c =
    record {
      all = λ few j low spot at by choice.
          each_next
          (λ (j : ℕ). AreMovesOf c.args.view.eager c.args.ranks c.args.view.lines.now
          (spot_in c.args.view.table.now c.args.view.ids.now) j c.push_rank.new.turns.items) c.loop-i.i
          (λ j low spot at by choice.
          has_kept c.loop-i.turns.items c.push_rank.new.turns.items _ c.in_ok-push_rank.ensures.kept
          (c.loop-i.invariant.all few j low spot at by choice)) (c.in_ok-push_rank.ensures.added few) j low spot at by
          choice;
      only = λ few short.
          or_more
          (IsTurn c.args.view.eager c.args.ranks c.args.view.lines.now
          (spot_in c.args.view.table.now c.args.view.ids.now)) c.loop-i.turns.items c.push_rank.new.turns.items
          (c.loop-i.invariant.only few short) (c.in_ok-push_rank.ensures.only few short);
    }
