-- The row of a line's rank has what it asks behind what is there.
use Rattle.std.proofs.Common.{◌≡◌, ◌+◌, ◌∙◌, sym, ap, subst, List, [], ◌∷◌, ◌++◌, take, length, arith}
use Rattle.std.proofs.lemmas.List.{length-take-le}
use Rattle.nm_plans.specs.declared.lines.PlanLine.{PlanLine}
use Rattle.nm_plans.specs.PlanRequests.{owner_of, request_at, request_behind}
use Rattle.nm_plans.proofs.RequestLemmas.{request_at-more}
use Rattle.nm_persist.specs.declared.asked.Asked.{Asked}
use Rattle.nm_persist.specs.Report.{asked_behind, asked_by}
use Rattle.nm_persist.specs.Results.{AreRows}
use Rattle.nm_persist.proofs.ReadyLemmas.{ready_at}
use Rattle.nm_persist.proofs.ReportLemmas.{asked-more, first_small}
use Rattle.nm_persist.proofs.asked.asked_of.Goals as goal
use Rattle.nm_types.proofs.ListLemmas.{take_next}

pub loop-place-init : goal.loop-place-init
unfolding request_at
loop-place-init c = record {
  rows = c.in_ok-all.ensures.rows;
  len = c.in_ok-all.ensures.len;
  requests = record { each = λ owner. c.new-requests.ensures owner };
}

pub asked_by-requires : goal.asked_by-requires
asked_by-requires c =
    let line = c.index-lines-place.result in
    let ready = ready_at c.args.ranks c.args.lines.now c.loop-place.place line c.requires.ready (omega arith)
    c.index-lines-place.is in
    first_small c.args.ranks line.command ready.range

pub loop-place-preserved : goal.loop-place-preserved
loop-place-preserved c =
    let i = c.loop-place.place in
    let lines = c.args.lines.now in
    let line = c.index-lines-place.result in
    let before = take i lines in
    let more : take (i + 1) lines ≡ before ++ line ∷ [] =
    take_next lines i line (omega arith) c.index-lines-place.is in
    let each = c.loop-place.invariant.requests.each in
    let number : i + 2 ≡ length before + 2 = omega (arith, length-take-le i lines (omega arith)) in
    let here : c.asked_by.result ≡ asked_by (i + 2) line (request_at before (owner_of line)) =
    c.asked_by.ensures ∙ ap (asked_by (i + 2) line) (c.of_line.ensures ∙ each (owner_of line)) in
    let all : asked_behind [] (take (i + 1) lines) ≡ asked_behind [] before ++ c.asked_by.result ∷ [] =
    ap (asked_behind []) more ∙ asked-more before line (i + 2) number
    ∙ ap (λ (a : Asked). asked_behind [] before ++ a ∷ []) (sym here) in
    record {
      rows = subst (λ (xs : List Asked). AreRows xs c.put.new.all.items) (sym all)
          (c.in_ok-put.ensures.rows (asked_behind [] before) c.loop-place.invariant.rows);
      len = c.in_ok-put.ensures.len ∙ c.loop-place.invariant.len;
      requests = record {
        each = λ owner. c.in_ok-note.ensures owner ∙ ap (λ r. request_behind owner r line) (each owner)
            ∙ sym (request_at-more before line owner) ∙ ap (λ (ls : List PlanLine). request_at ls owner) (sym more);
      };
    }
