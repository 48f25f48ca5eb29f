-- A start is answered by what its name stands for, and a wait by the request of that.
use Rattle.std.proofs.Common.{◌≡◌, ℕ, Option, None, Some, ap, arith, get_or, length, sym, ◌∙◌}
use Rattle.std.specs.List.{slice_get}
use Rattle.std.specs.Option.{option_map_or}
use Rattle.std.proofs.lemmas.List.FromFn.{length-map-range_with_len}
use Rattle.std.proofs.lemmas.Option.{slice_get-get_or}
use Rattle.nm_types.specs.declared.answers.Answer.TheVariants as answer
use Rattle.nm_sure.specs.Held.{held_at}
use Rattle.nm_sure.specs.PlainText.{result_at, start_answer}
use Rattle.nm_sure.proofs.Partnered.{given_read}
use Rattle.nm_sure.proofs.Running.{held_number, held_own, held_read}
use Rattle.nm_sure.proofs.Telling.{answer_other, answer_start, if_ok}
use Rattle.nm_sure.proofs.records.answer.Goals as goal

pub index-held-requires : goal.index-held-requires
index-held-requires c =
    let low = c.requires.line.1 in
    let count = length-map-range_with_len (held_at c.args.plan.now.lines.now) 0 (length c.args.plan.now.lines.now) in
    let same = ap (λ xs. length xs) c.args.plan.now.right.names in
    let place = c.place_of-place.ensures in
    omega (arith, low, count, same, place)

pub returns-then-is_start : goal.returns-then-is_start
returns-then-is_start c rank n d own line =
    let low = c.requires.line.1 in
    let place = c.place_of-place.ensures in
    c.started.ensures
    ∙ ap start_answer (given_read (held_at c.args.plan.now.lines.now) (length c.args.plan.now.lines.now)
    c.place_of-place.result
    c.args.plan.now.held.items c.index-held.result.now c.args.plan.now.right.names (omega (arith, low, place))
    c.index-held.ensures)
    ∙ answer_start c.args.plan.now.lines.now rank n d c.place_of-place.result
    (get_or c.args.plan.now.lines.now c.place_of-place.result c.index-plan-place.result) own (line ∙ sym place)
    (slice_get-get_or c.args.plan.now.lines.now c.place_of-place.result c.index-plan-place.result
    (omega (arith, low, place)))
    (sym c.if-is_start.ensures)

pub result-requires : goal.result-requires
result-requires c =
    let low = c.requires.line.1 in
    let place = c.place_of-place.ensures in
    record {
      line = held_number c.args.plan.now.lines.now c.place_of-place.result
          (get_or c.args.plan.now.lines.now c.place_of-place.result c.index-plan-place.result) c.in-Some.start
          (slice_get-get_or c.args.plan.now.lines.now c.place_of-place.result c.index-plan-place.result
          (omega (arith, low, place)))
          (held_read c.args.plan.now.lines.now c.args.plan.now.held.items c.place_of-place.result
          c.index-held.result.now _
          c.args.plan.now.right.names (omega (arith, low, place)) c.index-held.ensures c.in-Some.is);
    }

pub returns-in-Some : goal.returns-in-Some
returns-in-Some c =
    let low = c.requires.line.1 in
    let place = c.place_of-place.ensures in
    let here : slice_get c.args.plan.now.lines.now c.place_of-place.result
    ≡ Some (get_or c.args.plan.now.lines.now c.place_of-place.result c.index-plan-place.result) =
    slice_get-get_or c.args.plan.now.lines.now c.place_of-place.result c.index-plan-place.result
    (omega (arith, low, place)) in
    let held : held_at c.args.plan.now.lines.now c.place_of-place.result ≡ Some c.in-Some.start =
    held_read c.args.plan.now.lines.now c.args.plan.now.held.items c.place_of-place.result c.index-held.result.now _
    c.args.plan.now.right.names (omega (arith, low, place)) c.index-held.ensures c.in-Some.is in
    if_ok _ _ c.result.result
    (λ a is rank n d own line.
    is rank (held_own c.args.plan.now.lines.now rank n d c.place_of-place.result _ own
    (line ∙ sym place) here c.in-Some.start held)
    ∙ ap (λ (o : Option ℕ). option_map_or (result_at c.args.plan.now.lines.now rank) o answer.Null) (sym held)
    ∙ answer_other c.args.plan.now.lines.now rank n d c.place_of-place.result _ own (line ∙ sym place) here
    (sym c.if-is_start.ensures))
    c.result.ensures

pub returns-in-None : goal.returns-in-None
returns-in-None c rank n d own line =
    let low = c.requires.line.1 in
    let place = c.place_of-place.ensures in
    let held : held_at c.args.plan.now.lines.now c.place_of-place.result ≡ None =
    held_read c.args.plan.now.lines.now c.args.plan.now.held.items c.place_of-place.result c.index-held.result.now _
    c.args.plan.now.right.names (omega (arith, low, place)) c.index-held.ensures c.in-None.is in
    ap (λ (o : Option ℕ). option_map_or (result_at c.args.plan.now.lines.now rank) o answer.Null) (sym held)
    ∙ answer_other c.args.plan.now.lines.now rank n d c.place_of-place.result
    (get_or c.args.plan.now.lines.now c.place_of-place.result c.index-plan-place.result) own (line ∙ sym place)
    (slice_get-get_or c.args.plan.now.lines.now c.place_of-place.result c.index-plan-place.result
    (omega (arith, low, place)))
    (sym c.if-is_start.ensures)
