-- A wait hangs on the start that its name stands for.
use Rattle.std.proofs.Common.{◌≡◌, Some, ap, arith, get_or, length, sym, ◌∙◌}
use Rattle.std.specs.List.{slice_get}
use Rattle.std.proofs.lemmas.List.FromFn.{length-map-range_with_len}
use Rattle.std.proofs.lemmas.Option.{slice_get-get_or}
use Rattle.nm_sure.specs.Held.{held_at}
use Rattle.nm_sure.proofs.Running.{goes_other, goes_start, goes_wait, held_number, held_read}
use Rattle.nm_sure.proofs.runs.Plan.goes_on.Goals as goal

pub returns-in_default : goal.returns-in_default
returns-in_default c rank d next line =
    let low = c.requires.line.1 in
    let place = c.place_of-place.ensures in
    sym (goes_other c.args.self.now.eager c.args.self.now.lines.now c.args.reached.now.at.items rank d
    c.place_of-place.result
    (get_or c.args.self.now.lines.now c.place_of-place.result c.index-self-place.result) next (line ∙ sym place)
    (slice_get-get_or c.args.self.now.lines.now c.place_of-place.result c.index-self-place.result
    (omega (arith, low, place)))
    (λ q wait. absurd (c.in_default.not-Wait q wait)))

pub index-requires : goal.index-requires
index-requires c =
    let low = c.requires.line.1 in
    let count = length-map-range_with_len (held_at c.args.self.now.lines.now) 0 (length c.args.self.now.lines.now) in
    let same = ap (λ xs. length xs) c.args.self.now.right.names in
    let place = c.place_of-place.ensures in
    omega (arith, low, count, same, place)

pub is_ready-requires-clause-line : goal.is_ready-requires-clause-line
is_ready-requires-clause-line c =
    let low = c.requires.line.1 in
    let place = c.place_of-place.ensures in
    held_number c.args.self.now.lines.now c.place_of-place.result
    (get_or c.args.self.now.lines.now c.place_of-place.result c.index-self-place.result) c.in-Some.start
    (slice_get-get_or c.args.self.now.lines.now c.place_of-place.result c.index-self-place.result
    (omega (arith, low, place)))
    (held_read c.args.self.now.lines.now c.args.self.now.held.items c.place_of-place.result c.index.result.now _
    c.args.self.now.right.names (omega (arith, low, place)) c.index.ensures c.in-Some.is)

pub returns-in-Some : goal.returns-in-Some
returns-in-Some c rank d next line =
    let low = c.requires.line.1 in
    let place = c.place_of-place.ensures in
    let here : slice_get c.args.self.now.lines.now c.place_of-place.result
    ≡ Some (get_or c.args.self.now.lines.now c.place_of-place.result c.index-self-place.result) =
    slice_get-get_or c.args.self.now.lines.now c.place_of-place.result c.index-self-place.result
    (omega (arith, low, place)) in
    let held : held_at c.args.self.now.lines.now c.place_of-place.result ≡ Some c.in-Some.start =
    held_read c.args.self.now.lines.now c.args.self.now.held.items c.place_of-place.result c.index.result.now _
    c.args.self.now.right.names (omega (arith, low, place)) c.index.ensures c.in-Some.is in
    c.is_ready.ensures rank
    (goes_start c.args.self.now.eager c.args.self.now.lines.now c.args.reached.now.at.items rank d
    c.place_of-place.result _ next
    (line ∙ sym place) here c.in-Some.start held)
    ∙ sym (goes_wait c.args.self.now.eager c.args.self.now.lines.now c.args.reached.now.at.items rank d
    c.place_of-place.result _ next
    (line ∙ sym place) here c.in-Wait.q c.in-Some.start c.in-Wait.is held)

pub returns-in-None : goal.returns-in-None
returns-in-None c rank d next line =
    let low = c.requires.line.1 in
    let place = c.place_of-place.ensures in
    sym (goes_other c.args.self.now.eager c.args.self.now.lines.now c.args.reached.now.at.items rank d
    c.place_of-place.result
    (get_or c.args.self.now.lines.now c.place_of-place.result c.index-self-place.result) next (line ∙ sym place)
    (slice_get-get_or c.args.self.now.lines.now c.place_of-place.result c.index-self-place.result
    (omega (arith, low, place)))
    (λ q wait. held_read c.args.self.now.lines.now c.args.self.now.held.items c.place_of-place.result
    c.index.result.now _
    c.args.self.now.right.names (omega (arith, low, place)) c.index.ensures c.in-None.is))
