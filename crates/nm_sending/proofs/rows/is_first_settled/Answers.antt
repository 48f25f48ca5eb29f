use Rattle.std.proofs.Common.{◌≡◌, ◌∙◌, ap, nat_eq, Option, Some, sym, ℕ}
use Rattle.std.specs.List.{slice_get}
use Rattle.std.specs.Map.{lookup}
use Rattle.std.specs.Option.{option_copied}
use Rattle.nm_sending.specs.declared.departures.Departure.{Departure}
use Rattle.nm_sending.specs.Departures.{passes}
use Rattle.nm_sending.specs.Rows.{is_settled, with_recalled}
use Rattle.nm_sending.proofs.RecalledLemmas.{get-at, none-at}
use Rattle.nm_sending.proofs.rows.is_first_settled.Goals as goal

pub returns-in-Some : goal.returns-in-Some
returns-in-Some c =
    let recalls = c.args.recalls.now.entries in
    let sent = c.args.sent.now in
    let d = c.in-Some.departure.now in
    let there : slice_get sent.items sent.forgotten ≡ Some d =
    sym c.first.ensures ∙ ap option_copied c.in-Some.is in
    c.is_settled.ensures
    ∙ ap (λ (k : ℕ). is_settled (with_recalled d (lookup (nat_eq k) recalls))) c.forgotten.ensures
    ∙ sym (ap (λ (o : Option Departure). passes is_settled o) (get-at recalls sent.items sent.forgotten d there))

pub returns-in-None : goal.returns-in-None
returns-in-None c =
    let sent = c.args.sent.now in
    sym (ap (λ (o : Option Departure). passes is_settled o)
    (none-at c.args.recalls.now.entries sent.items sent.forgotten (sym c.first.ensures
    ∙ ap option_copied c.in-None.is)))
