-- The moves of one rank more of the group.
use Rattle.std.proofs.Common.{◌≡◌, ℕ, inr, ◌∙◌, arith}
use Rattle.nm_types.proofs.NumberLemmas.{eq_true}
use Rattle.nm_explored.specs.Successors.{spot_in}
use Rattle.nm_explored.specs.Apart.{group_of}
use Rattle.nm_explored.specs.Moves.{AreMovesOf, IsTurn}
use Rattle.nm_search.proofs.ListLemmas.{each_next, has_kept, or_more}
use Rattle.nm_explored.proofs.apart.group_turns.Goals as goal

pub loop-i-preserved : goal.loop-i-preserved
loop-i-preserved c =
    record {
      all = λ few j low own spot at by choice.
          each_next
          (λ (j : ℕ). group_of c.args.groups.now j ≡ group_of c.args.groups.now c.args.rank →
          AreMovesOf c.args.view.eager c.args.ranks c.args.view.lines.now
          (spot_in c.args.view.table.now c.args.view.ids.now) j c.push_if.new.turns.items) c.loop-i.i
          (λ j low own spot at by choice.
          has_kept c.loop-i.turns.items c.push_if.new.turns.items _ c.in_ok-push_if.ensures.kept
          (c.loop-i.invariant.all few j low own spot at by choice))
          (λ own. c.in_ok-push_if.ensures.added
          (c.are_of_one.ensures
          ∙ eq_true (group_of c.args.groups.now c.loop-i.i) (group_of c.args.groups.now c.args.rank) own) few) j low own
          spot at by choice;
      only = λ few short.
          or_more
          (IsTurn c.args.view.eager c.args.ranks c.args.view.lines.now
          (spot_in c.args.view.table.now c.args.view.ids.now)) c.loop-i.turns.items c.push_if.new.turns.items
          (c.loop-i.invariant.only few short) (c.in_ok-push_if.ensures.only few short);
    }

pub returns-clause-enough : goal.returns-clause-enough
returns-clause-enough c few =
    inr (inr (inr (record {
      groups = c.args.groups.now;
      apart = c.requires.apart;
      rank = c.args.rank;
      low = c.requires.inside;
      moves = c.requires.moves;
      all = λ i low own.
          let end = c.loop-i-test.false in c.loop-i.invariant.all few i (omega (arith, low, end)) own;
    })))
