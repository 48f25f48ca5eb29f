-- A receive shows its send.
use Rattle.std.proofs.Common.{◌≡◌, ◌<◌, ◌-◌, ℕ, ap, arith, get_or, length, sym, ◌∙◌}
use Rattle.std.specs.List.{slice_get}
use Rattle.std.proofs.lemmas.List.FromFn.{length-map-range_with_len}
use Rattle.std.proofs.lemmas.Option.{slice_get-get_or}
use Rattle.nm_types.specs.declared.scripts.Line.{Line}
use Rattle.nm_sure.specs.Planned.{IsLine}
use Rattle.nm_sure.specs.Ways.{partner_at, receive_way}
use Rattle.nm_sure.proofs.Running.{line_read, partner_number, partner_of, short_body, start_number}
use Rattle.nm_sure.proofs.Telling.{if_ok, result_got, result_none}
use Rattle.nm_sure.proofs.records.result.Goals as goal
use Rattle.nm_sure.proofs.records.result.Goals.{In-Some-index}

-- the partner is a line of the script
partner_in : (c : In-Some-index) → IsLine c.args.plan.now.lines.now c.in-Some-index.partner
partner_in c =
    let s = c.requires.line.1 in
    partner_number c.args.plan.now.lines.now s.place c.in-Some-index.partner
    (partner_of c.args.plan.now.lines.now c.args.plan.now.partners.items _ c.args.start c.place_of-place.result
    c.index.result.now _ s
    c.place_of-place.ensures c.args.plan.now.right.pairs c.index.ensures c.in-Some-index.is)

pub index-requires : goal.index-requires
index-requires c =
    let low = (start_number c.args.plan.now.lines.now _ c.args.start c.requires.line.1).1 in
    let count = length-map-range_with_len (partner_at c.args.plan.now.lines.now) 0 (length c.args.plan.now.lines.now) in
    let same = ap (λ xs. length xs) c.args.plan.now.right.pairs in
    let place = c.place_of-place.ensures in
    omega (arith, low, count, same, place)

pub place_of-requires : goal.place_of-requires
place_of-requires c = (partner_in (goal.at.place_of-requires c).In-Some-index).0

pub bounds-plan-place_of : goal.bounds-plan-place_of
bounds-plan-place_of c =
    let low = (partner_in (goal.at.bounds-plan-place_of c).In-Some-index).1 in
    let place = c.place_of.ensures in
    omega (arith, low, place)

pub offset_bounds-plan-place_of : goal.offset_bounds-plan-place_of
offset_bounds-plan-place_of c =
    let low = (partner_in (goal.at.offset_bounds-plan-place_of c).In-Some-index).1 in
    let place = c.place_of.ensures in
    let few : length c.args.plan.now.lines.now < 65536 = c.args.plan.now.right.limits.few_lines in
    omega (arith, low, place, few)

pub shown-requires : goal.shown-requires
shown-requires c =
    let low = (partner_in (goal.at.shown-requires c).In-Some-index).1 in
    let place = c.place_of.ensures in
    short_body (length c.args.plan.now.ranks.items) c.args.plan.now.lines.now c.place_of.result
    (get_or c.args.plan.now.lines.now c.place_of.result c.index-plan-place_of.result) c.args.plan.now.right.limits
    (slice_get-get_or c.args.plan.now.lines.now c.place_of.result c.index-plan-place_of.result
    (omega (arith, low, place)))

pub returns-in-Some-index : goal.returns-in-Some-index
returns-in-Some-index c =
    let low = (partner_in (goal.at.returns-in-Some-index c).In-Some-index).1 in
    let place = c.place_of.ensures in
    let spot : c.in-Some-index.partner - 2 ≡ c.place_of.result = omega (arith, place) in
    if_ok _ _ c.shown.result
    (λ a is rank s. is
    ∙ result_got c.args.plan.now.lines.now rank c.args.start c.commands_stand_at_their_lines.ensures.place s
    c.in-Some.way
    c.in-Recv.q c.in-Recv.from c.in-Recv.tag c.in-Recv.ctx c.in-Recv.cap
    (ap (λ (l : Line). l.command) (sym (line_read c.args.plan.now.lines.now rank c.args.start c.place_of-place.result
    c.index-plan-place.result s c.place_of-place.ensures)) ∙ c.in-Recv.is)
    (ap receive_way (sym (line_read c.args.plan.now.lines.now rank c.args.start c.place_of-place.result
    c.index-plan-place.result s c.place_of-place.ensures)) ∙ sym c.receive_way.ensures ∙ c.in-Some.is)
    c.in-Some-index.partner (get_or c.args.plan.now.lines.now c.place_of.result c.index-plan-place_of.result)
    (partner_of c.args.plan.now.lines.now c.args.plan.now.partners.items rank c.args.start c.place_of-place.result
    c.index.result.now _ s
    c.place_of-place.ensures c.args.plan.now.right.pairs c.index.ensures c.in-Some-index.is)
    (ap (λ (k : ℕ). slice_get c.args.plan.now.lines.now k) spot
    ∙ slice_get-get_or c.args.plan.now.lines.now c.place_of.result c.index-plan-place_of.result
    (omega (arith, low, place))))
    c.shown.ensures

pub returns-in-None : goal.returns-in-None
returns-in-None c rank s =
    result_none c.args.plan.now.lines.now rank c.args.start c.commands_stand_at_their_lines.ensures.place s
    c.in-Some.way
    c.in-Recv.q c.in-Recv.from c.in-Recv.tag c.in-Recv.ctx c.in-Recv.cap
    (ap (λ (l : Line). l.command) (sym (line_read c.args.plan.now.lines.now rank c.args.start c.place_of-place.result
    c.index-plan-place.result s c.place_of-place.ensures)) ∙ c.in-Recv.is)
    (ap receive_way (sym (line_read c.args.plan.now.lines.now rank c.args.start c.place_of-place.result
    c.index-plan-place.result s c.place_of-place.ensures)) ∙ sym c.receive_way.ensures ∙ c.in-Some.is)
    (partner_of c.args.plan.now.lines.now c.args.plan.now.partners.items rank c.args.start c.place_of-place.result
    c.index.result.now _ s
    c.place_of-place.ensures c.args.plan.now.right.pairs c.index.ensures c.in-None.is)
