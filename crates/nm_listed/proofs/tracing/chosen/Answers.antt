-- The trace of the run by the way to the end whose report has the number.
use Rattle.std.proofs.Common.{◌≡◌, ◌-◌, ◌≤◌, List, ap, sym, subst, ◌∙◌}
use Rattle.std.specs.Prelude.{IfSome, Some, map, slice_get}
use Rattle.nm_explored.specs.declared.choices.moves.Turn.{Turn}
use Rattle.nm_listed.specs.Texts.{bytes_of}
use Rattle.nm_listed.specs.Tracing.{IsReportByWay, turns_of}
use Rattle.nm_listed.proofs.TraceLemmas.{is_found, report_there, some_found, text_there, way_at}
use Rattle.nm_listed.proofs.tracing.chosen.Goals as goal
use Rattle.nm_listed.proofs.tracing.chosen.Goals.{After-as_slice, After-as_slice-path}

-- the text with the number
there : (c : After-as_slice) →
    slice_get c.args.list.now (c.args.number - 1) ≡ Some c.as_slice.result.now
there c =
    text_there bytes_of c.as_slice-all.result.now c.args.list.now _ c.index-all-place.result
    c.as_slice-all.ensures c.if-place-all.false c.index-all-place.is
    ∙ ap (λ b. Some b) (sym c.as_slice.ensures.value)

pub unwrap-at-requires : goal.unwrap-at-requires
unwrap-at-requires c =
    some_found c.number.result
    (is_found c.args.found.now.texts c.args.list.now _ c.as_slice.result.now c.number.result c.requires.same
    (there (goal.at.unwrap-at-requires c).After-as_slice) c.number.ensures.none)

-- the way to the end with this text
by_way : (c : After-as_slice-path) →
    IsReportByWay c.args.shape c.args.script.now.lines c.as_slice.result.now c.as_slice-path.result.now
by_way c =
    let shape = c.args.shape in
    let lines = c.args.script.now.lines in
    let text = c.as_slice.result.now in
    let texts = c.args.found.now.texts in
    let paths = c.args.found.now.paths.items in
    let number = subst (λ o. IfSome o (λ n. (1 ≤ n) × (slice_get texts (n - 1) ≡ Some text))) c.unwrap-at.ensures
    c.number.ensures.some in
    let at = report_there shape lines texts (map turns_of paths) _ text c.requires.reported number.1 in
    subst (λ (ts : List Turn). IsReportByWay shape lines text ts)
    (sym (c.as_slice-path.ensures.value ∙ way_at paths _ c.index.result.now at.0 at.1 c.index.ensures)) at.2

pub trace_by-requires-clause-way : goal.trace_by-requires-clause-way
trace_by-requires-clause-way c =
    let by = by_way (goal.at.trace_by-requires-clause-way c).After-as_slice-path in
    (by.state, by.way, by.rest)

pub returns : goal.returns
returns c =
    record {
      text = c.as_slice.result.now;
      there = there (goal.at.returns c).After-as_slice;
      traced = c.in_ok-trace_by.ensures c.as_slice.result.now (by_way (goal.at.returns c).After-as_slice-path);
    }
