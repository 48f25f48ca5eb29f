-- Each line is ready at its place, and its lines go behind those before.
use Rattle.std.proofs.Common.{◌≡◌, ◌∙◌, sym, ap, subst, true, Option, List, ◌++◌, take, arith}
use Rattle.std.specs.Prelude.{IfSome}
use Rattle.nm_plans.specs.declared.lines.PlanLine.{PlanLine}
use Rattle.nm_plans.specs.declared.requests.requests.Request.{Request}
use Rattle.nm_plans.specs.Expansion.{expand, lines_for}
use Rattle.nm_plans.specs.PlanRequests.{IsSmall, owner_of, request_at, request_behind}
use Rattle.nm_plans.specs.States.{allows}
use Rattle.nm_plans.proofs.RequestLemmas.{expand-more, request_at-more}
use Rattle.nm_persist.proofs.ReadyLemmas.{name_small, ready_allows, ready_at, requests_small}
use Rattle.nm_persist.proofs.plans.expand_lines.Goals as goal
use Rattle.nm_types.proofs.ListLemmas.{take_next}

pub loop-line-init : goal.loop-line-init
unfolding expand request_at
loop-line-init c = record {
  script = c.new-out.ensures.items;
  requests = record { each = λ owner. c.new-requests.ensures owner };
}

pub push_lines_for-requires-clause-small : goal.push_lines_for-requires-clause-small
push_lines_for-requires-clause-small c =
    let i = c.loop-line.line-index in
    let line = c.line-item.result in
    let ready = ready_at c.args.ranks c.args.lines.now i line c.requires (omega arith) c.line-item.is in
    let owner = owner_of line in
    subst (λ (o : Option Request). IfSome o IsSmall) (sym (c.loop-line.invariant.requests.each owner))
    (requests_small c.args.ranks (take i c.args.lines.now) owner ready.before_in_range)

pub push_lines_for-requires-clause-name : goal.push_lines_for-requires-clause-name
push_lines_for-requires-clause-name c =
    let i = c.loop-line.line-index in
    let line = c.line-item.result in
    let ready = ready_at c.args.ranks c.args.lines.now i line c.requires (omega arith) c.line-item.is in
    name_small c.args.ranks line.command ready.range

pub push_lines_for-requires-clause-allowed : goal.push_lines_for-requires-clause-allowed
push_lines_for-requires-clause-allowed c =
    let i = c.loop-line.line-index in
    let line = c.line-item.result in
    let ready = ready_at c.args.ranks c.args.lines.now i line c.requires (omega arith) c.line-item.is in
    subst (λ (o : Option Request). IfSome o (λ r. allows line.command r ≡ true))
    (sym (c.loop-line.invariant.requests.each (owner_of line)))
    (ready_allows c.args.ranks (take i c.args.lines.now) line ready.sound)

pub loop-line-preserved : goal.loop-line-preserved
loop-line-preserved c =
    let i = c.loop-line.line-index in
    let lines = c.args.lines.now in
    let line = c.line-item.result in
    let more = take_next lines i line (omega arith) c.line-item.is in
    let before = take i lines in
    let each = c.loop-line.invariant.requests.each in
    record {
      script = c.in_ok-push_lines_for.ensures
          ∙ ap (λ ls. c.loop-line.out.items ++ lines_for line ls) (each (owner_of line))
          ∙ ap (λ ls. ls ++ lines_for line (request_at before (owner_of line))) c.loop-line.invariant.script
          ∙ sym (expand-more before line) ∙ ap expand (sym more);
      requests = record {
        each = λ owner. c.in_ok-note.ensures owner ∙ ap (λ r. request_behind owner r line) (each owner)
            ∙ sym (request_at-more before line owner) ∙ ap (λ (ls : List PlanLine). request_at ls owner) (sym more);
      };
    }
