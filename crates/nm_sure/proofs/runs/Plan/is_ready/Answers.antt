-- A start is ready at once where it is an eager send, and else where its partner ran.
use Rattle.std.proofs.Common.{◌≡◌, ◌-◌, ◌<◌, ℕ, false, None, Some, ap, arith, length, refl, subst, sym, ◌∙◌}
use Rattle.std.specs.List.{slice_get}
use Rattle.std.proofs.lemmas.List.FromFn.{length-map-range_with_len}
use Rattle.std.proofs.lemmas.Option.{slice_get_read}
use Rattle.nm_types.specs.declared.scripts.Line.{Line}
use Rattle.nm_types.specs.Limits.{sent_len}
use Rattle.nm_sure.specs.Planned.{is_eager}
use Rattle.nm_sure.specs.Ways.{partner_at}
use Rattle.nm_sure.proofs.Readiness.{IsPartnerRun, ready_asked, ready_eager}
use Rattle.nm_sure.proofs.Running.{line_read, partner_number, partner_read, short_body, start_number}
use Rattle.nm_sure.proofs.runs.Plan.is_ready.Goals as goal

pub is_eager-requires : goal.is_eager-requires
is_eager-requires c =
    let s = c.requires.line.1 in
    subst (λ (l : Line). sent_len l.command < 4294967296)
    (sym (line_read c.args.self.now.lines.now _ c.args.start c.place_of-place.result c.index-self-place.result s
    c.place_of-place.ensures))
    (short_body (length c.args.self.now.ranks.items) c.args.self.now.lines.now s.place s.line
    c.args.self.now.right.limits s.here)

pub returns-then-is_eager : goal.returns-then-is_eager
returns-then-is_eager c rank s =
    sym (ready_eager c.args.self.now.eager c.args.self.now.lines.now c.args.reached.now.at.items rank c.args.start
    c.commands_stand_at_their_lines.ensures.place s
    (ap (λ (l : Line). is_eager c.args.self.now.eager l.command)
    (sym (line_read c.args.self.now.lines.now rank c.args.start c.place_of-place.result c.index-self-place.result s
    c.place_of-place.ensures))
    ∙ sym c.if-is_eager.ensures))

pub index-requires : goal.index-requires
index-requires c =
    let low = (start_number c.args.self.now.lines.now _ c.args.start c.requires.line.1).1 in
    let count = length-map-range_with_len (partner_at c.args.self.now.lines.now) 0 (length c.args.self.now.lines.now) in
    let same = ap (λ xs. length xs) c.args.self.now.right.pairs in
    let place = c.place_of-place.ensures in
    omega (arith, low, count, same, place)

pub place_of-requires : goal.place_of-requires
place_of-requires c =
    let low = (start_number c.args.self.now.lines.now _ c.args.start c.requires.line.1).1 in
    let place = c.place_of-place.ensures in
    (partner_number c.args.self.now.lines.now c.place_of-place.result c.in-Some.partner
    (partner_read c.args.self.now.lines.now c.args.self.now.partners.items c.place_of-place.result c.index.result.now _
    c.args.self.now.right.pairs (omega (arith, low, place)) c.index.ensures c.in-Some.is)).0

pub index-requires-in-Some : goal.index-requires-in-Some
index-requires-in-Some c =
    let low = (start_number c.args.self.now.lines.now _ c.args.start c.requires.line.1).1 in
    let place = c.place_of-place.ensures in
    let there = (partner_number c.args.self.now.lines.now c.place_of-place.result c.in-Some.partner
    (partner_read c.args.self.now.lines.now c.args.self.now.partners.items c.place_of-place.result c.index.result.now _
    c.args.self.now.right.pairs (omega (arith, low, place)) c.index.ensures c.in-Some.is)).1 in
    let partner = c.place_of.ensures in
    let count = c.requires.ran.count in
    omega (arith, there, partner, count)

pub returns-in-Some : goal.returns-in-Some
returns-in-Some c rank s =
    let low = (start_number c.args.self.now.lines.now _ c.args.start s).1 in
    let place = c.place_of-place.ensures in
    let spot : c.place_of-place.result ≡ s.place = (let is = s.is in omega (arith, is, place)) in
    let partner : c.in-Some.partner - 2 ≡ c.place_of.result = (let is = c.place_of.ensures in omega (arith, is)) in
    let pair : partner_at c.args.self.now.lines.now s.place ≡ Some c.in-Some.partner =
    ap (λ (k : ℕ). partner_at c.args.self.now.lines.now k) (sym spot)
    ∙ partner_read c.args.self.now.lines.now c.args.self.now.partners.items c.place_of-place.result c.index.result.now _
    c.args.self.now.right.pairs (omega (arith, low, place)) c.index.ensures c.in-Some.is in
    let there = (partner_number c.args.self.now.lines.now s.place c.in-Some.partner pair).1 in
    let beyond = c.place_of.ensures in
    let count = c.requires.ran.count in
    let ran : slice_get c.args.reached.now.ran.items (c.in-Some.partner - 2) ≡ Some c.index-in-Some.result.now =
    ap (λ (k : ℕ). slice_get c.args.reached.now.ran.items k) partner
    ∙ slice_get_read c.args.reached.now.ran.items (length c.args.reached.now.ran.items) c.place_of.result
    c.index-in-Some.result.now refl
    (omega (arith, there, beyond, count)) c.index-in-Some.ensures in
    ready_asked c.args.self.now.eager c.args.self.now.lines.now c.args.reached.now.at.items rank c.args.start
    c.commands_stand_at_their_lines.ensures.place s c.args.reached.now.ran.items c.index-in-Some.result.now
    c.requires.ran
    (ap (λ (l : Line). is_eager c.args.self.now.eager l.command)
    (sym (line_read c.args.self.now.lines.now rank c.args.start c.place_of-place.result c.index-self-place.result s
    c.place_of-place.ensures))
    ∙ sym c.if-is_eager.ensures)
    (subst (λ o. IsPartnerRun c.args.reached.now.ran.items o c.index-in-Some.result.now) (sym pair) ran)

pub returns-in-None : goal.returns-in-None
returns-in-None c rank s =
    let low = (start_number c.args.self.now.lines.now _ c.args.start s).1 in
    let place = c.place_of-place.ensures in
    let spot : c.place_of-place.result ≡ s.place = (let is = s.is in omega (arith, is, place)) in
    let pair : partner_at c.args.self.now.lines.now s.place ≡ None =
    ap (λ (k : ℕ). partner_at c.args.self.now.lines.now k) (sym spot)
    ∙ partner_read c.args.self.now.lines.now c.args.self.now.partners.items c.place_of-place.result c.index.result.now _
    c.args.self.now.right.pairs (omega (arith, low, place)) c.index.ensures c.in-None.is in
    ready_asked c.args.self.now.eager c.args.self.now.lines.now c.args.reached.now.at.items rank c.args.start
    c.commands_stand_at_their_lines.ensures.place s c.args.reached.now.ran.items false c.requires.ran
    (ap (λ (l : Line). is_eager c.args.self.now.eager l.command)
    (sym (line_read c.args.self.now.lines.now rank c.args.start c.place_of-place.result c.index-self-place.result s
    c.place_of-place.ensures))
    ∙ sym c.if-is_eager.ensures)
    (subst (λ o. IsPartnerRun c.args.reached.now.ran.items o false) (sym pair) refl)
