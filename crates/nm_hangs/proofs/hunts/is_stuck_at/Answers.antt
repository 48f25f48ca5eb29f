-- The ranks in these states.
use Rattle.std.proofs.Common.{◌≡◌, ℕ, Option, subst}
use Rattle.std.specs.Prelude.{IsTrue}
use Rattle.nm_outcomes.specs.RankStates.{Spot}
use Rattle.nm_explored.specs.Successors.{spot_in}
use Rattle.nm_hangs.specs.Hunts.{IsStuckAt}
use Rattle.nm_hangs.proofs.hunts.is_stuck_at.Goals as goal

pub returns-clause-stuck : goal.returns-clause-stuck
returns-clause-stuck c so =
    subst (λ (v : ℕ → Option Spot). IsStuckAt c.args.of.ranks c.args.of.lines.now v)
    (λ k. spot_in (c.as_slice.ensures.value k) (c.as_slice-2.ensures.value k)) (c.is_stuck.ensures.stuck so)

pub returns-clause-finds : goal.returns-clause-finds
returns-clause-finds c =
    subst (λ (v : ℕ → Option Spot). IsStuckAt c.args.of.ranks c.args.of.lines.now v → IsTrue c.is_stuck.result)
    (λ k. spot_in (c.as_slice.ensures.value k) (c.as_slice-2.ensures.value k)) c.is_stuck.ensures.finds
