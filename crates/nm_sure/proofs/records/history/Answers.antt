-- One answer more.
use Rattle.std.proofs.Common.{◌≡◌, ℕ, List, [], ap, arith, get_or, length, refl, sym, take, ◌∙◌}
use Rattle.std.specs.List.{filter_map}
use Rattle.std.proofs.lemmas.List.{length-take-le}
use Rattle.std.proofs.lemmas.Option.{slice_get_read}
use Rattle.nm_types.specs.Commands.{commands_of}
use Rattle.nm_history.specs.declared.events.Event.{Event}
use Rattle.nm_report.specs.Told.{told_by}
use Rattle.nm_sure.specs.Held.{own_lines}
use Rattle.nm_sure.specs.PlainText.{told_after}
use Rattle.nm_sure.proofs.Running.{own_is}
use Rattle.nm_sure.proofs.Telling.{own_count, own_item, own_number, told_more}
use Rattle.nm_sure.proofs.records.history.Goals as goal
use Rattle.nm_sure.proofs.records.history.Goals.{After-as_slice-own}

own_here : (c : After-as_slice-own) → c.as_slice-own.result.now ≡ own_lines c.args.plan.now.lines.now c.args.rank
own_here c =
    c.as_slice-own.ensures.value
    ∙ own_is c.args.plan.now.lines.now c.args.plan.now.ranks.items _ _ c.args.plan.now.right c.args.rank
    c.index.result.now
    (slice_get_read c.args.plan.now.ranks.items (length c.args.plan.now.ranks.items) c.args.rank c.index.result.now
    refl c.requires.rank
    c.index.ensures)

all_taken : (c : After-as_slice-own) → length (take c.args.at c.as_slice-own.result.now) ≡ c.args.at
all_taken c =
    let many = own_count c.args.plan.now.lines.now c.args.rank c.as_slice-own.result.now (own_here c) in
    let within = c.requires.within in
    length-take-le c.args.at c.as_slice-own.result.now (omega (arith, within, many))

pub slice_bounds-line-items-end : goal.slice_bounds-line-items-end
slice_bounds-line-items-end c = sym (all_taken (goal.at.slice_bounds-line-items-end c).After-as_slice-own)

pub answer-requires : goal.answer-requires
answer-requires c =
    let item = own_item c.args.plan.now.lines.now c.args.rank c.args.at c.loop-line.line-index c.as_slice-own.result.now
    (own_here (goal.at.answer-requires c).After-as_slice-own) c.requires.within c.loop-line-test.true in
    record { line = own_number c.args.plan.now.lines.now c.args.rank c.loop-line.line-index item.0 _ item.1 item.2 }

pub loop-line-preserved : goal.loop-line-preserved
loop-line-preserved c =
    let item = own_item c.args.plan.now.lines.now c.args.rank c.args.at c.loop-line.line-index c.as_slice-own.result.now
    (own_here (goal.at.loop-line-preserved c).After-as_slice-own) c.requires.within c.loop-line-test.true in
    told_more c.args.plan.now.lines.now c.args.rank c.loop-line.line-index
    (get_or (take c.args.at c.as_slice-own.result.now) c.loop-line.line-index 0)
    0 c.in_ok-answer.answer item.0 c.loop-line.events.items c.push.new.self.items item.1 item.2
    (c.in_ok-answer.ensures c.args.rank c.loop-line.line-index item.0 item.1 item.2) c.loop-line.invariant
    c.in_ok-push.ensures.items

pub returns : goal.returns
returns c =
    let taken = all_taken (goal.at.returns c).After-as_slice-own in
    let past = c.loop-line-test.false in
    let top = c.loop-line.auto.line-index-end in
    let last : c.loop-line.line-index ≡ c.args.at = omega (arith, taken, past, top) in
    ap (λ (es : List Event). filter_map (λ (e : Event). told_by e.what) es) c.from_vec.ensures
    ∙ c.loop-line.invariant
    ∙ ap (λ (n : ℕ). told_after c.args.plan.now.lines.now c.args.rank []
    (take n (commands_of c.args.rank c.args.plan.now.lines.now))) last
