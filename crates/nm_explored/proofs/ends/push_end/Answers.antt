-- One end more.
use Rattle.std.proofs.Common.{◌≡◌, ℕ, Some, List, [], ◌∷◌, ◌++◌, map, sym, ◌∙◌, ap, subst}
use Rattle.std.proofs.lemmas.List.{map-append}
use Rattle.nm_report.specs.Told.{RankTold}
use Rattle.nm_search.specs.Lists.{Has}
use Rattle.nm_types.proofs.OptionLemmas.{same_some}
use Rattle.nm_explored.specs.Successors.{spot_in}
use Rattle.nm_search.proofs.ListLemmas.{has_push, keeps_push}
use Rattle.nm_explored.proofs.KeptLemmas.{only_option}
use Rattle.nm_explored.specs.declared.ends.End.{End}
use Rattle.std.specs.List.{slice_get}
use Rattle.nm_types.specs.declared.scripts.Line.{Line}
use Rattle.nm_explored.specs.Ends.{IsToldIn, told_at_end}
use Rattle.nm_explored.specs.Met.{AreBack, IsWay}
use Rattle.nm_explored.specs.Stores.{states_in}
use Rattle.nm_explored.proofs.ends.push_end.Goals as goal
use Rattle.nm_explored.proofs.ends.push_end.Goals.{In_ok-push}

pushed : (c : In_ok-push) → map told_at_end c.push.new.self.items
    ≡ map told_at_end c.args.ends.now.items ++ told_at_end c.in_ok-end_at.field-0 ∷ []
pushed c =
    ap (λ (es : List End). map told_at_end es) c.in_ok-push.ensures.items
    ∙ map-append told_at_end c.args.ends.now.items (c.in_ok-end_at.field-0 ∷ [])

pub returns-in_ok-push-clause-kept : goal.returns-in_ok-push-clause-kept
returns-in_ok-push-clause-kept c =
    keeps_push (map told_at_end c.args.ends.now.items) (map told_at_end c.push.new.self.items)
    (told_at_end c.in_ok-end_at.field-0) (pushed (goal.at.returns-in_ok-push-clause-kept c).In_ok-push)

pub returns-in_ok-push-clause-added : goal.returns-in_ok-push-clause-added
returns-in_ok-push-clause-added c rest =
    subst (λ (t : List RankTold). Has (map told_at_end c.push.new.self.items) t) c.in_ok-end_at.ensures.told
    (has_push (map told_at_end c.args.ends.now.items) (map told_at_end c.push.new.self.items)
    (told_at_end c.in_ok-end_at.field-0) (pushed (goal.at.returns-in_ok-push-clause-added c).In_ok-push))

pub returns-in_ok-push-clause-only : goal.returns-in_ok-push-clause-only
returns-in_ok-push-clause-only c =
    only_option
    (IsToldIn c.args.ranks c.args.view.lines.now (spot_in c.args.view.table.now c.args.view.ids.now))
    (map told_at_end c.args.ends.now.items) (map told_at_end c.push.new.self.items)
    (Some (told_at_end c.in_ok-end_at.field-0)) (pushed (goal.at.returns-in_ok-push-clause-only c).In_ok-push)
    (λ t is. (c.is_end.ensures.only c.if-is_end.true, sym (same_some _ t is) ∙ c.in_ok-end_at.ensures.told))

-- its moves lead there
pub returns-in_ok-push-clause-ways : goal.returns-in_ok-push-clause-ways
returns-in_ok-push-clause-ways c =
    only_option _ c.args.ends.now.items c.push.new.self.items (Some c.in_ok-end_at.field-0) c.in_ok-push.ensures.items
    (λ end is.
    let same : c.in_ok-end_at.field-0 ≡ end = same_some c.in_ok-end_at.field-0 end is in
    subst (λ (e : End). IsToldIn c.args.ranks c.args.view.lines.now
    (spot_in c.args.view.table.now c.args.view.ids.now) (told_at_end e)
    × ((eager : ℕ) (lines : List Line) → AreBack eager c.args.ranks lines c.args.search.now → (ids : List ℕ) →
    slice_get c.args.search.now.states c.args.k ≡ Some ids →
    IsWay eager c.args.ranks lines e.path.items (states_in c.args.search.now.table ids))) same (
      (c.is_end.ensures.only c.if-is_end.true, c.in_ok-end_at.ensures.told),
      λ eager lines back ids here. c.in_ok-end_at.ensures.way eager c.args.ranks lines back ids here,
    ))
