use Rattle.std.proofs.Common.{sym, ◌∙◌}
use Rattle.nm_check.proofs.WasLemmas.{never_found, send_found}
use Rattle.nm_check.proofs.looked.send_in.Goals as goal

pub returns-in-Some : goal.returns-in-Some
returns-in-Some c =
    send_found c.requires.numbered.0 c.args.to c.args.n c.in-Some.place.now c.args.events.now _ c.requires.numbered.1
    (sym (c.in-Some.ensures.value ∙ c.requires.places.outgoing.gone.sends (record { rank = c.args.to; n = c.args.n })))
    c.event_in.ensures

pub returns-in-None : goal.returns-in-None
returns-in-None c =
    never_found c.requires.numbered.0 c.args.to c.args.n c.args.events.now c.requires.numbered.1
    (sym (c.in-None.ensures.value ∙ c.requires.places.outgoing.gone.sends (record { rank = c.args.to; n = c.args.n })))
