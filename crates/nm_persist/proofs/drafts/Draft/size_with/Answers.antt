use Rattle.std.proofs.Common.{◌≡◌, ◌∙◌, sym, ap, ◌++◌, ◌∷◌, [], List, Option, subst}
use Rattle.std.specs.Prelude.{IfSome}
use Rattle.std.specs.List.{list_all}
use Rattle.nm_types.specs.declared.scripts.Line.{Line}
use Rattle.nm_plans.specs.declared.requests.requests.Request.{Request}
use Rattle.nm_plans.specs.Expansion.{expand, lines_for}
use Rattle.indexmap.specs.IndexMap.{get}
use Rattle.nm_plans.specs.PlanRequests.{IsSmall, owner_of, request_at, same_owner}
use Rattle.nm_plans.proofs.RequestLemmas.{expand-more}
use Rattle.nm_persist.proofs.RangeLemmas.{OkLine}
use Rattle.nm_persist.proofs.ReadyLemmas.{lines_short, order_lines, requests_small}
use Rattle.nm_persist.proofs.SizeLemmas.{size_said}
use Rattle.nm_persist.proofs.drafts.Draft.size_with.Goals as goal

pub push_lines_for-requires-clause-small : goal.push_lines_for-requires-clause-small
push_lines_for-requires-clause-small c =
    let d = c.args.self.now in
    let owner = owner_of c.args.line.now in
    subst (λ (o : Option Request). IfSome o IsSmall) (sym (c.requires.draft.requests.each owner))
    (requests_small d.ranks d.lines owner c.requires.draft.in_range)

pub with_lines-requires : goal.with_lines-requires
with_lines-requires c =
    let d = c.args.self.now in
    let line = c.args.line.now in
    let items : c.deref.result.now ≡ lines_for line (request_at d.lines (owner_of line)) =
    c.deref.ensures.value ∙ c.in_ok-push_lines_for.ensures
    ∙ ap (λ (ls : List Line). ls ++ lines_for line (get same_owner d.requests.map (owner_of line)))
    c.new-lines.ensures.items
    ∙ ap (lines_for line) (c.requires.draft.requests.each (owner_of line)) in
    lines_short d.ranks c.deref.result.now
    (ap (list_all (OkLine d.ranks)) items
    ∙ order_lines d.ranks d.lines line c.requires.draft.in_range c.requires.in_range c.requires.in_order)

pub returns : goal.returns
returns c =
    let d = c.args.self.now in
    let line = c.args.line.now in
    let items : c.deref.result.now ≡ lines_for line (request_at d.lines (owner_of line)) =
    c.deref.ensures.value ∙ c.in_ok-push_lines_for.ensures
    ∙ ap (λ (ls : List Line). ls ++ lines_for line (get same_owner d.requests.map (owner_of line)))
    c.new-lines.ensures.items
    ∙ ap (lines_for line) (c.requires.draft.requests.each (owner_of line)) in
    size_said c.with_lines.result d.ranks (expand d.lines ++ c.deref.result.now) (expand (d.lines ++ line ∷ []))
    (ap (λ (ls : List Line). expand d.lines ++ ls) items ∙ sym (expand-more d.lines line))
    (c.with_lines.ensures d.ranks (expand d.lines) c.requires.draft.size)
