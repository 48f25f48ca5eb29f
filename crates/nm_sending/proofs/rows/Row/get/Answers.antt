use Rattle.std.proofs.Common.{◌<◌, ◌≤◌, ◌∙◌, ap, arith, length, Option, Some, Bool, sym, true≢false}
use Rattle.std.specs.Option.{option_map}
use Rattle.std.proofs.lemmas.Option.{slice_get_past}
use Rattle.nm_sending.specs.declared.departures.Departure.{Departure}
use Rattle.nm_sending.specs.Rows.{all_recalled, fate, gone, with_recalled}
use Rattle.nm_sending.proofs.GoneLemmas.{gone-told, there-within}
use Rattle.nm_sending.proofs.RecalledLemmas.{get-at, length-all}
use Rattle.nm_sending.proofs.rows.Row.get.Goals as goal

pub returns-then-n-len : goal.returns-then-n-len
returns-then-n-len c =
    let a = c.self.inside in
    let past : length (all_recalled a.recalls.entries 0 a.sent.items) ≤ c.args.n =
    omega (arith, c.if-n-len.true, c.len.ensures, length-all a.recalls.entries 0 a.sent.items) in
    rw (← c.self.view_is) (sym (ap (option_map fate)
    (slice_get_past (all_recalled a.recalls.entries 0 a.sent.items) c.args.n past)))

pub returns-in-Some : goal.returns-in-Some
returns-in-Some c =
    let a = c.self.inside in
    let b = c.in-Some.departure.now in
    rw (← c.self.view_is)
    (ap (λ (x : Departure). Some (fate x)) c.with_recalled.ensures
    ∙ ap (λ (r : Option (Option Bool)). Some (fate (with_recalled b r))) c.get-recall.ensures
    ∙ sym (ap (option_map fate)
    (get-at a.recalls.entries a.sent.items c.args.n b c.in-Some.ensures.item)))

pub returns-in-None : goal.returns-in-None
returns-in-None c =
    let a = c.self.inside in
    let within : c.args.n < length a.sent.items = omega (arith, c.if-n-len.false, c.len.ensures) in
    let at = there-within a.sent.items c.args.n within in
    let behind : a.sent.forgotten ≤ c.args.n → ⊥ = λ h. true≢false (sym (c.in-None.ensures.held.1
    (record { behind = h; within = within }))) in
    let low : c.args.n < gone (all_recalled a.recalls.entries 0 a.sent.items) =
    omega (arith, c.self.invariant.first, behind) in
    rw (← c.self.view_is)
    (ap (λ (x : Departure). Some (fate x)) c.with_recalled-in-None.ensures
    ∙ ap (λ (r : Option (Option Bool)). Some (fate (with_recalled c.gone.result r))) c.get-recall.ensures
    ∙ ap (λ (x : Departure). Some x)
    (gone-told a.recalls.entries a.sent.items c.args.n at.0 c.gone.result at.1 low c.gone.ensures)
    ∙ sym (ap (option_map fate) (get-at a.recalls.entries a.sent.items c.args.n at.0 at.1)))
