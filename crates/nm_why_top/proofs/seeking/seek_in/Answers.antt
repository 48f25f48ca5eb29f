-- One state more was looked at, and what was found.
use Rattle.std.proofs.Common.{◌≡◌, ℕ, [], ◌∷◌, ◌++◌, List, Option, Some, ◌∙◌, ap, sym, subst, option_to_list}
use Rattle.std.specs.List.{slice_get}
use Rattle.std.proofs.lemmas.Bool.{false≢true}
use Rattle.nm_types.proofs.ListLemmas.{get_some, no_items}
use Rattle.nm_types.proofs.NumberLemmas.{same_number}
use Rattle.nm_search.proofs.ListLemmas.{has_push}
use Rattle.nm_outcomes.specs.RankStates.{Spot}
use Rattle.nm_explored.specs.Successors.{spot_in}
use Rattle.nm_explored.proofs.StoreLemmas.{grows_all, grows_then}
use Rattle.nm_why_top.specs.Seeking.{AreAhead, IsSought}
use Rattle.nm_why_top.proofs.SeekLemmas.{all_passed, first_ahead}
use Rattle.nm_why_top.proofs.seeking.seek_in.Goals as goal

pub loop-state-init : goal.loop-state-init
loop-state-init c = record {
  grows = grows_all c.args.search.now;
  made = c.requires.made;
  back = c.requires.back;
  ahead = first_ahead c.args.sought c.args.of.eager c.args.of.ranks c.args.of.lines.now c.args.search.now
      c.requires.first c.push.new.self.items
      (c.in_ok-push.ensures.items ∙ ap (λ (xs : List ℕ). xs ++ 0 ∷ []) c.new-ahead.ensures.items);
}

pub look-requires-clause-low : goal.look-requires-clause-low
look-requires-clause-low c =
    c.loop-state.invariant.ahead.low c.in-Some.state
    (has_push c.pop.new.self.items c.loop-state.ahead.items c.in-Some.state
    (c.pop.ensures.items ∙ ap (λ r. c.pop.new.self.items ++ option_to_list r) c.in-Some.is))

pub loop-state-preserved : goal.loop-state-preserved
loop-state-preserved c =
    let before = c.loop-state.invariant in
    let state = c.in-Some.state in
    let is : c.loop-state.ahead.items ≡ c.pop.new.self.items ++ state ∷ [] =
    c.pop.ensures.items ∙ ap (λ r. c.pop.new.self.items ++ option_to_list r) c.in-Some.is in
    let other : (ids : List ℕ) → slice_get c.loop-state.search.states state ≡ Some ids →
    IsSought c.args.sought c.args.of.ranks c.args.of.lines.now (spot_in c.loop-state.search.table ids) → ⊥ =
    λ ids here is.
    let shown = c.in_ok-all.ensures.shows (λ k ids here. (before.made.sound k ids here).low) in
    false≢true
    (sym c.if-is_sought_at.false
    ∙ c.is_sought_at.ensures.finds
    (subst (λ (v : ℕ → Option Spot). IsSought c.args.sought c.args.of.ranks c.args.of.lines.now v)
    (sym (shown ids here)) is)) in
    let looked = c.in_ok-look.ensures in
    record {
      grows = grows_then c.args.search.now c.loop-state.search c.look.new.search before.grows looked.grows;
      made = looked.made;
      back = looked.back;
      ahead = looked.ahead c.args.sought other
          (subst (λ (xs : List ℕ). AreAhead c.args.sought c.args.of.eager c.args.of.ranks c.args.of.lines.now
          c.loop-state.search xs) is before.ahead);
    }

pub returns-then-is_sought_at-clause-sight : goal.returns-then-is_sought_at-clause-sight
returns-then-is_sought_at-clause-sight c =
    let shown = c.in_ok-all.ensures.shows (λ k ids here. (c.loop-state.invariant.made.sound k ids here).low) in
    let low = c.loop-state.invariant.ahead.low c.in-Some.state
    (has_push c.pop.new.self.items c.loop-state.ahead.items c.in-Some.state
    (c.pop.ensures.items ∙ ap (λ r. c.pop.new.self.items ++ option_to_list r) c.in-Some.is)) in
    let ids = get_some c.loop-state.search.states c.in-Some.state low in (
      ids.0,
      ids.1,
      subst (λ (v : ℕ → Option Spot). IsSought c.args.sought c.args.of.ranks c.args.of.lines.now v)
          (shown ids.0 ids.1) (c.is_sought_at.ensures.sought c.if-is_sought_at.true),
    )

pub returns-in_default-clause-sight : goal.returns-in_default-clause-sight
returns-in_default-clause-sight c =
    all_passed c.args.sought c.args.of.eager c.args.of.ranks c.args.of.lines.now c.loop-state.search
    c.loop-state.ahead.items
    (no_items c.loop-state.ahead.items (sym c.loop-state.ahead.ok.0 ∙ c.in_default.ensures.cases.0))
    c.loop-state.invariant.ahead

pub returns-then-is_empty-clause-sight : goal.returns-then-is_empty-clause-sight
returns-then-is_empty-clause-sight c =
    all_passed c.args.sought c.args.of.eager c.args.of.ranks c.args.of.lines.now c.loop-state.search
    c.loop-state.ahead.items
    (no_items c.loop-state.ahead.items
    (sym c.loop-state.ahead.ok.0 ∙ same_number c.loop-state.ahead.len 0 (sym c.is_empty.ensures ∙ c.if-is_empty.true)))
    c.loop-state.invariant.ahead

pub returns-then-as_slice-limit-clause-grows : goal.returns-then-as_slice-limit-clause-grows
returns-then-as_slice-limit-clause-grows c =
    grows_then c.args.search.now c.loop-state.search c.look.new.search c.loop-state.invariant.grows
    c.in_ok-look.ensures.grows
