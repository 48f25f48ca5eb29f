-- The ranks in these states.
use Rattle.std.proofs.Common.{◌≡◌, ℕ, Option, subst}
use Rattle.std.specs.Prelude.{IsTrue}
use Rattle.nm_outcomes.specs.RankStates.{Spot}
use Rattle.nm_explored.specs.Successors.{spot_in}
use Rattle.nm_why_top.specs.Seeking.{IsSought}
use Rattle.nm_why_top.proofs.seeking.is_sought_at.Goals as goal

pub returns-clause-sought : goal.returns-clause-sought
returns-clause-sought c so =
    subst (λ (v : ℕ → Option Spot). IsSought c.args.sought c.args.of.ranks c.args.of.lines.now v)
    (λ k. spot_in (c.as_slice.ensures.value k) (c.as_slice-2.ensures.value k)) (c.is_sought.ensures.sought so)

pub returns-clause-finds : goal.returns-clause-finds
returns-clause-finds c =
    subst
    (λ (v : ℕ → Option Spot). IsSought c.args.sought c.args.of.ranks c.args.of.lines.now v →
    IsTrue c.is_sought.result)
    (λ k. spot_in (c.as_slice.ensures.value k) (c.as_slice-2.ensures.value k)) c.is_sought.ensures.finds
