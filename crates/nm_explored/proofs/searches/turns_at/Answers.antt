-- The moves where the ranks are in these states.
use Rattle.std.proofs.Common.{◌≡◌, ℕ, Option, subst}
use Rattle.nm_outcomes.specs.RankStates.{Spot}
use Rattle.nm_explored.specs.Successors.{spot_in}
use Rattle.nm_explored.specs.Moves.{IsTurn}
use Rattle.nm_explored.specs.Coming.{AreEnoughTurns}
use Rattle.nm_explored.proofs.TellLemmas.{ok_weaker}
use Rattle.nm_explored.proofs.searches.turns_at.Goals as goal

pub returns-clause-enough : goal.returns-clause-enough
returns-clause-enough c few =
    ok_weaker _ _
    (λ turns are.
    subst (λ (v : ℕ → Option Spot). AreEnoughTurns c.args.of.eager c.args.of.ranks c.args.of.lines.now v turns.items)
    (λ k. spot_in (c.as_slice.ensures.value k) (c.as_slice-2.ensures.value k)) are)
    c.enough.result (c.enough.ensures.enough few)

pub returns-clause-only : goal.returns-clause-only
returns-clause-only c few short =
    ok_weaker _ _
    (λ turns are t at.
    subst (λ (v : ℕ → Option Spot). IsTurn c.args.of.eager c.args.of.ranks c.args.of.lines.now v t)
    (λ k. spot_in (c.as_slice.ensures.value k) (c.as_slice-2.ensures.value k)) (are t at))
    c.enough.result (c.enough.ensures.only few short)
