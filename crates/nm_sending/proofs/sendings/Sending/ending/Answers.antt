-- By what became of the message.
use Rattle.std.specs.Prelude.{option_and_then, option_map}
use Rattle.std.proofs.Common.{◌≡◌, sym, ◌∙◌, ap, subst, Option}
use Rattle.nm_sending.specs.declared.departures.Departure.{Departure}
use Rattle.nm_sending.specs.Departures.{SendingView, departure_of, ending_of}
use Rattle.nm_sending.specs.Rows.{fate}
use Rattle.nm_sending.proofs.AnswerLemmas.{ending_is, ending-told}
use Rattle.nm_sending.proofs.sendings.Sending.ending.Goals as goal

pub returns : goal.returns
returns c =
    let there = subst (λ (v : SendingView). option_map fate c.get.result
    ≡ option_map fate (departure_of v c.args.to c.args.n)) c.self.view_is c.get.ensures in
    λ h was. c.ending.ensures ∙ ap (λ (o : Option Departure). option_and_then ending_of o) (sym c.in_ok-get.was)
    ∙ ending-told c.get.result (departure_of c.args.self.now c.args.to c.args.n) there
    ∙ ending_is c.args.self.now h was c.args.to c.args.n
