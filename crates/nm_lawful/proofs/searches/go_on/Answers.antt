-- The state is an end, or all that its moves lead to was added.
use Rattle.std.proofs.Common.{◌≡◌, List, Some, refl, sym, ◌∙◌, subst}
use Rattle.std.specs.List.{slice_get}
use Rattle.std.proofs.lemmas.Bool.{false≢true}
use Rattle.nm_types.proofs.ListLemmas.{place_below}
use Rattle.nm_types.proofs.OptionLemmas.{same_some}
use Rattle.nm_search.specs.Lists.{Has}
use Rattle.nm_lawful.specs.Moves.{Goes, report_lem}
use Rattle.nm_lawful.specs.Ranks.{RankState}
use Rattle.nm_lawful.specs.Searches.{IsExpanded}
use Rattle.nm_search.proofs.ListLemmas.{none_behind, only_weaker}
use Rattle.nm_lawful.proofs.searches.go_on.Goals as goal

pub returns-in_default : goal.returns-in_default
returns-in_default c = (none_behind c.args.met.now c.args.k c.in_default.ensures, refl)

pub returns-then-end : goal.returns-then-end
returns-then-end c = (
  c.in-Some.state.now,
  sym c.in-Some.ensures,
  c.is_end-end.ensures.yes c.if-end.true
      (λ t goes. subst (λ (xs : List (List RankState)). Has xs t) (sym c.as_slice-found.ensures.value)
      (c.in_ok-states.ensures.all t goes)),
)

pub returns : goal.returns
returns c =
    let lines = c.args.report.lines.now in
    let told = (report_lem c.args.report.told.now c.args.report.waits.now) in
    let until = c.args.report.until in
    let old = c.args.met.now in
    let new = c.add_all.new.self in
    let state = c.in-Some.state.now in
    let here : slice_get old c.args.k ≡ Some state = sym c.in-Some.ensures in
    let only : (t : List RankState) → Has c.as_slice-found.result.now t → Goes lines told until state t =
    λ t at. c.in_ok-states.ensures.only t
    (subst (λ (xs : List (List RankState)). Has xs t) c.as_slice-found.ensures.value at) in (
      place_below old c.args.k state here,
      c.in_ok-add_all.ensures.kept,
      only_weaker (Has c.as_slice-found.result.now)
          (λ (t : List RankState). (s : List RankState) × (slice_get old c.args.k ≡ Some s)
          × Goes lines told until s t)
          old new (λ t at. (state, here, only t at)) c.in_ok-add_all.ensures.only,
      λ s at. subst (λ (x : List RankState). IsExpanded lines told until new x)
          (same_some state s (sym here ∙ at))
          (record {
            no_end = λ end. false≢true (sym c.if-end.false ∙ c.is_end-end.ensures.no only end);
            leads = λ t goes. c.in_ok-add_all.ensures.there t
                (subst (λ (xs : List (List RankState)). Has xs t) (sym c.as_slice-found.ensures.value)
                (c.in_ok-states.ensures.all t goes));
          }),
    )
