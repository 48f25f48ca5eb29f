-- One state more was looked at, and what was found.
use Rattle.std.proofs.Common.{◌≡◌, ℕ, ◌+◌, Some, [], ◌∷◌, ◌++◌, List, length, ◌∙◌, ap, sym, subst, arith, length-append}
use Rattle.std.proofs.Common.{Option, option_to_list}
use Rattle.std.proofs.lemmas.Bool.{false≢true}
use Rattle.std.specs.List.{slice_get}
use Rattle.nm_types.proofs.ListLemmas.{no_item, no_items}
use Rattle.nm_types.proofs.NumberLemmas.{same_number}
use Rattle.nm_outcomes.specs.RankStates.{Spot}
use Rattle.nm_search.proofs.ListLemmas.{has_push}
use Rattle.nm_explored.proofs.PackLemmas.{of_kept}
use Rattle.nm_explored.proofs.StoreLemmas.{grows_all, grows_then}
use Rattle.nm_hangs.specs.Hunts.{AreOpen, IsStuckAt}
use Rattle.nm_hangs.specs.declared.hunts.Ahead.{Ahead}
use Rattle.nm_hangs.proofs.HuntLemmas.{all_looked, few_more, none_open, open_noted}
use Rattle.nm_hangs.proofs.hunts.hunt.Goals as goal

pub push_state-requires-clause-near : goal.push_state-requires-clause-near
push_state-requires-clause-near c ids own here there =
    absurd (no_item 0 own (ap (λ (met : List (List ℕ)). slice_get met 0) (sym c.new-classes.ensures) ∙ there))

pub loop-state-init : goal.loop-state-init
loop-state-init c =
    let store = c.args.search.now in
    let one : length store.states ≡ 1 = ap (λ (ss : List (List ℕ)). length ss) c.requires.first.only in
    let here : slice_get store.states 0 ≡ Some c.requires.first.ids =
    ap (λ (ss : List (List ℕ)). slice_get ss 0) c.requires.first.only in
    let noted = c.in_ok-push_state.ensures c.requires.first.ids here in
    let none : c.new-ahead.result.items ≡ [] = c.new-ahead.ensures.items in
    let empty = ap (λ (xs : List Ahead). length xs) none in
    let few = few_more c.args.of.lines.now store.table c.requires.first.ids 0 c.new-classes.result
    c.push_state.new.classes c.new-ahead.result.items c.push_state.new.ahead.items noted in
    record {
      grows = grows_all store;
      made = c.requires.made;
      back = c.requires.back;
      ahead = subst (λ (n : ℕ). AreOpen c.args.of.eager c.args.of.ranks c.args.of.lines.now store
          c.push_state.new.classes c.push_state.new.ahead.items n) (sym one)
          (open_noted c.args.of.eager c.args.of.ranks c.args.of.lines.now store c.new-classes.result
          c.push_state.new.classes c.new-ahead.result.items c.push_state.new.ahead.items 0 c.requires.first.ids here
          (subst (λ (met : List (List ℕ)). AreOpen c.args.of.eager c.args.of.ranks c.args.of.lines.now store met
          c.new-ahead.result.items 0) (sym c.new-classes.ensures)
          (subst (λ (xs : List Ahead). AreOpen c.args.of.eager c.args.of.ranks c.args.of.lines.now store [] xs 0)
          (sym none) (none_open c.args.of.eager c.args.of.ranks c.args.of.lines.now store))) noted);
      shown = c.none-all.ensures store.table;
      count = omega (arith, one, empty, few);
    }

pub look-requires-clause-shown : goal.look-requires-clause-shown
look-requires-clause-shown c =
    c.in_ok-show.ensures.shows (λ k ids here. (c.loop-state.invariant.made.sound k ids here).low)
    c.loop-state.invariant.shown

pub look-requires-clause-free : goal.look-requires-clause-free
look-requires-clause-free c ids here stuck =
    let shown = c.in_ok-show.ensures.shows (λ k ids here. (c.loop-state.invariant.made.sound k ids here).low)
    c.loop-state.invariant.shown in
    false≢true
    (sym c.if-is_stuck_at.false
    ∙ c.is_stuck_at.ensures.finds
    (subst (λ (v : ℕ → Option Spot). IsStuckAt c.args.of.ranks c.args.of.lines.now v) (sym (shown ids here)) stuck))

pub returns-then-is_stuck_at-clause-hunted : goal.returns-then-is_stuck_at-clause-hunted
returns-then-is_stuck_at-clause-hunted c =
    let shown = c.in_ok-show.ensures.shows (λ k ids here. (c.loop-state.invariant.made.sound k ids here).low)
    c.loop-state.invariant.shown in
    let near = c.loop-state.invariant.ahead.near c.in-Some.next
    (has_push c.pop.new.self.items c.loop-state.ahead.items c.in-Some.next
    (c.pop.ensures.items ∙ ap (λ r. c.pop.new.self.items ++ option_to_list r) c.in-Some.is)) in (
      near.0,
      near.2,
      subst (λ (v : ℕ → Option Spot). IsStuckAt c.args.of.ranks c.args.of.lines.now v) (shown near.0 near.2)
          (c.is_stuck_at.ensures.stuck c.if-is_stuck_at.true),
    )

pub look-requires-clause-ahead : goal.look-requires-clause-ahead
look-requires-clause-ahead c =
    subst (λ (xs : List Ahead). AreOpen c.args.of.eager c.args.of.ranks c.args.of.lines.now c.loop-state.search
    c.loop-state.classes xs (length c.loop-state.search.states))
    (c.pop.ensures.items ∙ ap (λ r. c.pop.new.self.items ++ option_to_list r) c.in-Some.is)
    c.loop-state.invariant.ahead

pub loop-state-preserved : goal.loop-state-preserved
loop-state-preserved c =
    let before = c.loop-state.invariant in
    let left = c.pop.new.self.items in
    let is : c.loop-state.ahead.items ≡ left ++ c.in-Some.next ∷ [] =
    c.pop.ensures.items ∙ ap (λ r. left ++ option_to_list r) c.in-Some.is in
    let looked = c.in_ok-look.ensures in
    let long = ap (λ (xs : List Ahead). length xs) is ∙ length-append left (c.in-Some.next ∷ []) in
    let was = before.count in
    let more = looked.count in
    record {
      grows = grows_then c.args.search.now c.loop-state.search c.look.new.search before.grows looked.grows;
      made = looked.made;
      back = looked.back;
      ahead = looked.ahead;
      shown = of_kept c.loop-state.search.table c.look.new.search.table c.show.new.all looked.grows.table
          (c.in_ok-show.ensures.are (λ k ids here. (before.made.sound k ids here).low) before.shown);
      count = omega (arith, long, was, more);
    }

pub returns-in_default-clause-hunted : goal.returns-in_default-clause-hunted
returns-in_default-clause-hunted c =
    all_looked c.args.of.eager c.args.of.ranks c.args.of.lines.now c.loop-state.search c.loop-state.classes
    c.loop-state.ahead.items (no_items c.loop-state.ahead.items
    (sym c.loop-state.ahead.ok.0 ∙ c.in_default.ensures.cases.0))
    c.loop-state.invariant.ahead

pub returns-then-is_empty-clause-hunted : goal.returns-then-is_empty-clause-hunted
returns-then-is_empty-clause-hunted c =
    all_looked c.args.of.eager c.args.of.ranks c.args.of.lines.now c.loop-state.search c.loop-state.classes
    c.loop-state.ahead.items
    (no_items c.loop-state.ahead.items
    (sym c.loop-state.ahead.ok.0 ∙ same_number c.loop-state.ahead.len 0 (sym c.is_empty.ensures ∙ c.if-is_empty.true)))
    c.loop-state.invariant.ahead

pub returns-then-as_slice-limit-clause-grows : goal.returns-then-as_slice-limit-clause-grows
returns-then-as_slice-limit-clause-grows c =
    grows_then c.args.search.now c.loop-state.search c.look.new.search c.loop-state.invariant.grows
    c.in_ok-look.ensures.grows
