-- A new actor, and a source of which no command ran.
use Rattle.std.proofs.Common.{List, sym, ap, ◌∙◌, subst}
use Rattle.nm_history.specs.declared.events.Event.{Event}
use Rattle.nm_history.specs.Totals.{answers_given}
use Rattle.nm_world.specs.Actors.{Seat}
use Rattle.nm_world.specs.Players.{WasTold}
use Rattle.nm_world.proofs.players.Player.new.Goals as goal

pub returns-clause-stands : goal.returns-clause-stands
returns-clause-stands g c f r sizes fresh ring_fresh =
    let e = c.in_ok-actor.ensures in
    record {
      ports = e.ports f r sizes fresh ring_fresh;
      at = c.requires.begins.0 ∙ sym e.begins.2;
      told = subst (λ (h : List Event). WasTold (g.S.Source.shows c.args.source) (answers_given h)) (sym e.begins.1)
          c.requires.told;
      ranks = c.requires.begins.1 ∙ sym (ap (λ (s : Seat). s.sizes.ranks) e.seat);
      stands = λ commands last given. e.stands f r sizes fresh ring_fresh commands last;
    }
