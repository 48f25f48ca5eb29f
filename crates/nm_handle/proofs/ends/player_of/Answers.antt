-- It stands where it has not failed.
use Rattle.std.proofs.Common.{subst, sym, ◌∙◌}
use Rattle.std.specs.Arc.{arc_value}
use Rattle.nm_rank.specs.declared.journal.erased.Erased.{Erased}
use Rattle.nm_world.specs.declared.players.Player.{Player}
use Rattle.nm_world.specs.Players.{PlayerInvariant}
use Rattle.nm_calls.specs.Calling.{CallsView, gave, shown}
use Rattle.nm_handle.specs.declared.states.State.{State}
use Rattle.nm_handle.specs.Standing.{StandsAt}
use Rattle.nm_handle.proofs.ends.player_of.Goals as goal

pub returns-in-Open-clause-stands : goal.returns-in-Open-clause-stands
returns-in-Open-clause-stands c =
    let h = c.args.handle in
    let same = c.into_player-player.ensures in
    subst (λ (x : Player CallsView Erased). PlayerInvariant shown gave (arc_value h.fabric) (arc_value h.rings) x)
    (sym same.0)
    (subst (λ (s : State). StandsAt s (arc_value h.fabric) (arc_value h.rings) h.player) (sym same.1 ∙ c.in-Open.is)
    c.requires.stands)

pub returns-in-Closed-clause-stands : goal.returns-in-Closed-clause-stands
returns-in-Closed-clause-stands c =
    let h = c.args.handle in
    let same = c.into_player-player.ensures in
    subst (λ (x : Player CallsView Erased). PlayerInvariant shown gave (arc_value h.fabric) (arc_value h.rings) x)
    (sym same.0)
    (subst (λ (s : State). StandsAt s (arc_value h.fabric) (arc_value h.rings) h.player) (sym same.1 ∙ c.in-Closed.is)
    c.requires.stands)
