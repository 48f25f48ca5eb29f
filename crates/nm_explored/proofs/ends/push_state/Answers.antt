-- A state that is there, if it is an end.
use Rattle.std.proofs.Common.{◌≡◌, ℕ, List, Option, map, ◌∙◌, ap, subst, arith}
use Rattle.std.specs.Prelude.{OnOk, Result, Ok, Err}
use Rattle.std.specs.List.{slice_get}
use Rattle.nm_types.proofs.ListLemmas.{place_below}
use Rattle.nm_outcomes.specs.RankStates.{Spot}
use Rattle.nm_explored.specs.Successors.{spot_in}
use Rattle.nm_search.specs.Lists.{Has}
use Rattle.nm_explored.specs.Ends.{IsEndAmong, IsToldAmong, IsToldIn, all_told, told_at_end}
use Rattle.nm_explored.specs.Rests.{AreAtRest}
use Rattle.nm_search.proofs.ListLemmas.{only_weaker}
use Rattle.nm_explored.specs.Stores.{Store}
use Rattle.nm_explored.proofs.PackLemmas.{shown_at, viewed}
use Rattle.nm_explored.proofs.RestedLemmas.{state_there}
use Rattle.nm_explored.proofs.StoreLemmas.{looked_up}
use Rattle.nm_explored.proofs.ends.push_state.Goals as goal

on_ok : {X E P Q : Type 0} → (P → Q) → (r : Result X E) → OnOk r P → OnOk r Q
on_ok follows (Ok x) right = follows right
on_ok follows (Err e) right = tt

pub returns-in_ok-all-in-Some-clause-added : goal.returns-in_ok-all-in-Some-clause-added
returns-in_ok-all-in-Some-clause-added c =
    on_ok
    (λ added ids here rest.
    let states : c.as_slice.result.now ≡ c.args.search.now.states =
    c.as_slice.ensures ∙ ap (λ (s : Store). s.states) c.search.view_is in
    let same : c.in-Some.state.now ≡ ids =
    looked_up c.as_slice.result.now c.args.k c.in-Some.state.now ids c.in-Some.ensures.lookup.3.0
    c.in-Some.ensures.lookup.3.1 (ap (λ (ss : List (List ℕ)). slice_get ss c.args.k) states ∙ here) in
    let view : spot_in c.as_slice-in-Some-2.result.now c.as_slice-in-Some-3.result.now
    ≡ spot_in c.args.search.now.table ids =
    viewed c.search.inside.table c.args.search.now.table c.in_ok-all-in-Some.all.ranks.items
    c.as_slice-in-Some-2.result.now c.as_slice-in-Some.result.now ids
    c.in_ok-all-in-Some.all.places.items c.as_slice-in-Some-3.result.now
    c.as_slice-in-Some-2.ensures.value c.as_slice-in-Some-3.ensures.value
    (λ low. shown_at c.search.inside.table c.as_slice-in-Some.result.now c.in_ok-all-in-Some.all
    (c.in_ok-all-in-Some.ensures low))
    (ap (λ (s : Store). s.table) c.search.view_is) (c.as_slice-in-Some.ensures ∙ same)
    (c.requires.low c.args.k ids here) in
    subst (λ (v : ℕ → Option Spot). AreAtRest c.args.of.ranks c.args.of.lines.now v →
    Has (map told_at_end c.push_end.new.ends.items) (all_told c.args.of.lines.now v c.args.of.ranks)) view added rest)
    c.push_end.result c.push_end.ensures.added

pub returns-in-None-clause-added : goal.returns-in-None-clause-added
returns-in-None-clause-added c ids here rest =
    let states : c.as_slice.result.now ≡ c.args.search.now.states =
    c.as_slice.ensures ∙ ap (λ (s : Store). s.states) c.search.view_is in
    let past = c.in-None.ensures.lookup.3 in
    let below = place_below c.as_slice.result.now c.args.k ids
    (ap (λ (ss : List (List ℕ)). slice_get ss c.args.k) states ∙ here) in
    absurd (omega (arith, past, below))

pub returns-in_ok-all-in-Some-clause-only : goal.returns-in_ok-all-in-Some-clause-only
returns-in_ok-all-in-Some-clause-only c =
    on_ok
    (only_weaker
    (IsToldIn c.args.of.ranks c.args.of.lines.now
    (spot_in c.as_slice-in-Some-2.result.now c.as_slice-in-Some-3.result.now))
    (IsToldAmong c.args.of.ranks c.args.of.lines.now c.args.search.now)
    (map told_at_end c.args.ends.now.items) (map told_at_end c.push_end.new.ends.items)
    (λ told is.
    let states : c.as_slice.result.now ≡ c.args.search.now.states =
    c.as_slice.ensures ∙ ap (λ (s : Store). s.states) c.search.view_is in
    let there = state_there c.as_slice.result.now c.args.search.now.states c.args.k c.in-Some.state.now states
    c.in-Some.ensures.lookup.3.0 c.in-Some.ensures.lookup.3.1 in
    let view : spot_in c.as_slice-in-Some-2.result.now c.as_slice-in-Some-3.result.now
    ≡ spot_in c.args.search.now.table c.in-Some.state.now =
    viewed c.search.inside.table c.args.search.now.table c.in_ok-all-in-Some.all.ranks.items
    c.as_slice-in-Some-2.result.now c.as_slice-in-Some.result.now c.in-Some.state.now
    c.in_ok-all-in-Some.all.places.items c.as_slice-in-Some-3.result.now
    c.as_slice-in-Some-2.ensures.value c.as_slice-in-Some-3.ensures.value
    (λ low. shown_at c.search.inside.table c.as_slice-in-Some.result.now c.in_ok-all-in-Some.all
    (c.in_ok-all-in-Some.ensures low))
    (ap (λ (s : Store). s.table) c.search.view_is) c.as_slice-in-Some.ensures
    (c.requires.low c.args.k c.in-Some.state.now there) in (
      c.args.k,
      c.in-Some.state.now,
      there,
      subst (λ (v : ℕ → Option Spot). IsToldIn c.args.of.ranks c.args.of.lines.now v told) view is,
    )))
    c.push_end.result c.push_end.ensures.only

pub returns-in_ok-all-in-Some-clause-ways : goal.returns-in_ok-all-in-Some-clause-ways
returns-in_ok-all-in-Some-clause-ways c =
    on_ok
    (only_weaker _ (IsEndAmong c.args.of.eager c.args.of.ranks c.args.of.lines.now c.args.search.now)
    c.args.ends.now.items c.push_end.new.ends.items
    (λ end is.
    let states : c.as_slice.result.now ≡ c.args.search.now.states =
    c.as_slice.ensures ∙ ap (λ (s : Store). s.states) c.search.view_is in
    let there = state_there c.as_slice.result.now c.args.search.now.states c.args.k c.in-Some.state.now states
    c.in-Some.ensures.lookup.3.0 c.in-Some.ensures.lookup.3.1 in
    let view : spot_in c.as_slice-in-Some-2.result.now c.as_slice-in-Some-3.result.now
    ≡ spot_in c.args.search.now.table c.in-Some.state.now =
    viewed c.search.inside.table c.args.search.now.table c.in_ok-all-in-Some.all.ranks.items
    c.as_slice-in-Some-2.result.now c.as_slice-in-Some.result.now c.in-Some.state.now
    c.in_ok-all-in-Some.all.places.items c.as_slice-in-Some-3.result.now
    c.as_slice-in-Some-2.ensures.value c.as_slice-in-Some-3.ensures.value
    (λ low. shown_at c.search.inside.table c.as_slice-in-Some.result.now c.in_ok-all-in-Some.all
    (c.in_ok-all-in-Some.ensures low))
    (ap (λ (s : Store). s.table) c.search.view_is) c.as_slice-in-Some.ensures
    (c.requires.low c.args.k c.in-Some.state.now there) in
    record {
      number = c.args.k;
      ids = c.in-Some.state.now;
      here = there;
      told = subst (λ (v : ℕ → Option Spot). IsToldIn c.args.of.ranks c.args.of.lines.now v (told_at_end end)) view
          is.0;
      way = λ back. is.1 c.args.of.eager c.args.of.lines.now back c.in-Some.state.now there;
    }))
    c.push_end.result c.push_end.ensures.ways
