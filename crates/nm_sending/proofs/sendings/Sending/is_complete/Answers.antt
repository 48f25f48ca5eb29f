-- By what became of the message.
use Rattle.std.proofs.Common.{◌≡◌, sym, ◌∙◌, ap, subst, Option}
use Rattle.std.specs.Prelude.{option_map}
use Rattle.nm_sending.specs.declared.departures.Departure.{Departure}
use Rattle.nm_sending.specs.Departures.{SendingView, departure_of, passes, is_over}
use Rattle.nm_sending.specs.Rows.{fate}
use Rattle.nm_sending.proofs.AnswerLemmas.{complete_is, over-told, passes-told}
use Rattle.nm_sending.proofs.sendings.Sending.is_complete.Goals as goal

pub returns-in-Some : goal.returns-in-Some
returns-in-Some c =
    let there = subst (λ (v : SendingView). option_map fate c.get.result
    ≡ option_map fate (departure_of v c.args.to c.args.n)) c.self.view_is c.get.ensures in
    λ h was. c.is_complete.ensures ∙ ap (λ (o : Option Departure). passes is_over o) (sym c.in-Some.is)
    ∙ passes-told c.get.result (departure_of c.args.self.now c.args.to c.args.n) there is_over over-told
    ∙ complete_is c.args.self.now h was c.args.to c.args.n
