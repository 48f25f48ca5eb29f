use Rattle.std.proofs.Common.{List, [], Option, sym, ap, subst}
use Rattle.std.specs.Prelude.{option_map, slice_get}
use Rattle.std.specs.Option.{option_map_or}
use Rattle.nm_history.specs.declared.events.Event.{Event}
use Rattle.nm_history.specs.Quiescence.{Ended}
use Rattle.nm_history.specs.Sends.{sends}
use Rattle.nm_check.specs.Marked.{IsSendIn}
use Rattle.nm_check.proofs.looked.sent_at.Goals as goal

pub send_in-requires : goal.send_in-requires
send_in-requires c = record {
  numbered = (c.in-Some.ensures.many, c.in-Some.ensures.numbers);
  places = c.in-Some.ensures.tabled.places;
}

pub returns-in-Some : goal.returns-in-Some
returns-in-Some c =
    subst (λ (h : List Event). IsSendIn (sends h c.args.j) c.args.n (option_map (λ e. e.now) c.send_in.result))
    (sym c.in-Some.ensures.history) c.send_in.ensures

pub returns-in-None : goal.returns-in-None
returns-in-None c =
    ap (λ (o : Option Ended). slice_get (sends (option_map_or (λ rank. rank.events) o []) c.args.j) c.args.n)
    c.in-None.ensures
