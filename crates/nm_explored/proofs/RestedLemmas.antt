-- Where none of the messages that came may be withdrawn, none may; and what is told among the states of a store is told
-- at rest.
use Rattle.std.proofs.Common.{◌≡◌, ℕ, ◌<◌, ◌==◌, ◌&&◌, Bool, true, false, Option, Some, None, List, get_or, length}
use Rattle.std.proofs.Common.{refl, sym, ◌∙◌, ap, subst}
use Rattle.std.specs.Prelude.{count_by, is_some, option_and_then}
use Rattle.std.specs.List.{filter, list_any, slice_get}
use Rattle.std.specs.Option.{option_map_or}
use Rattle.std.proofs.lemmas.Bool.{false≢true}
use Rattle.std.proofs.lemmas.Option.{slice_get-get_or}
use Rattle.nm_types.specs.declared.messages.Arrival.{Arrival}
use Rattle.nm_types.specs.declared.scripts.Line.{Line}
use Rattle.nm_types.specs.Sizes.{Sizes}
use Rattle.nm_types.proofs.NumberLemmas.{same_number}
use Rattle.nm_types.proofs.OptionLemmas.{no_some}
use Rattle.nm_types.proofs.TruthLemmas.{and_left, and_right, not_true}
use Rattle.nm_match.specs.Deeds.{is_message}
use Rattle.nm_sure.proofs.Lists.{any_at}
use Rattle.nm_outcomes.specs.Looks.{is_recall_by, is_send_by}
use Rattle.nm_outcomes.specs.RankStates.{Spot, free_lem}
use Rattle.nm_explored.specs.declared.ends.End.{End}
use Rattle.nm_explored.specs.Ends.{AreEndsAmong, AreEndsByWay, AreOnlyEnds, IsToldAtRest}
use Rattle.nm_explored.specs.Rests.{AreAtRest, IsAtRest}
use Rattle.nm_explored.specs.Ends.{TellsOnly, all_told}
use Rattle.nm_explored.specs.Met.{AreBack, IsMade, IsWay}
use Rattle.nm_explored.specs.Stores.{Store, states_in}
use Rattle.nm_explored.specs.Successors.{arrival_by, is_withdrawn_next, spot_in}
use Rattle.nm_explored.proofs.MetLemmas.{state_at}

-- there is none, by a test that failed
pub none_is : {X : Type 0} (o : Option X) (test : Bool) → is_some o ≡ test → test ≡ false → o ≡ None
none_is None test is none = refl
none_is (Some x) test is none = absurd (false≢true (sym none ∙ sym is))

-- where none of the messages of a rank may be withdrawn, none may
pub none_withdrawn : (v : ℕ → Option Spot) (i : ℕ) (spot : Spot) → v i ≡ Some spot →
    ((k : ℕ) (a : Arrival) → slice_get spot.came k ≡ Some a → is_withdrawn_next v i a.env.from a.n ≡ false) →
    (from n : ℕ) → is_withdrawn_next v i from n ≡ false
none_withdrawn v i spot here none from n = not_true _ (λ may. by_other (v from) (sym own ∙ may) may)
  where
    own : is_withdrawn_next v i from n
        ≡ option_map_or (λ (other : Spot). list_any (is_message from n) spot.came
        && (free_lem spot from n && list_any (is_recall_by i n) other.deeds)) (v from) false
    own =
        ap (λ (o : Option Spot). option_map_or (λ (spot : Spot). option_map_or (λ (other : Spot).
        list_any (is_message from n) spot.came
        && (free_lem spot from n && list_any (is_recall_by i n) other.deeds)) (v from) false) o false) here

    by_other : (o : Option Spot) → option_map_or (λ (other : Spot). list_any (is_message from n) spot.came
        && (free_lem spot from n && list_any (is_recall_by i n) other.deeds)) o false ≡ true →
        is_withdrawn_next v i from n ≡ true → ⊥
    by_other None some may = false≢true some
    by_other (Some other) some may =
        let a = any_at (is_message from n) spot.came (and_left (list_any (is_message from n) spot.came) _ some) in
        let sender = same_number a.1.env.from from (and_left (a.1.env.from == from) (a.1.n == n) a.3) in
        let number = same_number a.1.n n (and_right (a.1.env.from == from) (a.1.n == n) a.3) in
        false≢true
        (sym (none a.0 a.1 a.2)
        ∙ ap (λ (x : ℕ). is_withdrawn_next v i x a.1.n) sender ∙ ap (λ (y : ℕ). is_withdrawn_next v i from y) number
        ∙ may)

-- the element at a place, in the same list
pub state_there : (xs ys : List (List ℕ)) (k : ℕ) (x : List ℕ) → xs ≡ ys → k < length xs →
    ((d : List ℕ) → x ≡ get_or xs k d) → slice_get ys k ≡ Some x
state_there xs ys k x same below is =
    ap (λ (zs : List (List ℕ)). slice_get zs k) (sym same) ∙ slice_get-get_or xs k x below
    ∙ ap (λ (y : List ℕ). Some y) (sym (is x))

-- a rank that is not there is at rest
pub nothing_rests : (ranks : ℕ) (lines : List Line) (v : ℕ → Option Spot) (i : ℕ) → v i ≡ None →
    IsAtRest ranks lines v i
nothing_rests ranks lines v i none = record {
  held = λ spot here. absurd (no_some spot (sym none ∙ here));
  messages = λ from low.
      ap (λ (o : Option Spot). option_and_then (λ (spot : Spot). option_and_then (λ (other : Spot).
      let n = count_by (λ (a : Arrival). a.env.from == from) spot.came in
      option_and_then (arrival_by from n) (slice_get (filter (is_send_by i) other.deeds) n)) (v from)) o) none;
  free = λ from n.
      ap (λ (o : Option Spot). option_map_or (λ (spot : Spot). option_map_or (λ (other : Spot).
      list_any (is_message from n) spot.came
      && (free_lem spot from n && list_any (is_recall_by i n) other.deeds)) (v from) false) o false) none;
}

-- what is told among states that moves lead to is told at rest
pub tells_only : (shape : Sizes) (lines : List Line) (eager ranks : ℕ) (own : List Line) (store : Store) →
    eager ≡ shape.eager → ranks ≡ shape.ranks → own ≡ lines → IsMade eager ranks own store → (ends : List End) →
    AreOnlyEnds ranks own store ends → TellsOnly shape lines ends
tells_only shape lines eager ranks own store a b c made ends are told has =
    subst (λ (x : ℕ). IsToldAtRest x shape.ranks lines told) a
    (subst (λ (x : ℕ). IsToldAtRest eager x lines told) b
    (subst (λ (x : List Line). IsToldAtRest eager ranks x told) c
    (let at = are told has in
    let sound = made.sound at.0 at.1 at.2 in
    let same : (i : ℕ) → spot_in store.table at.1 i ≡ slice_get (states_in store.table at.1) i =
    λ i. sym (state_at store.table at.1 sound.low i) in
    record {
      state = states_in store.table at.1;
      met = sound.met;
      rest = subst (λ (v : ℕ → Option Spot). AreAtRest ranks own v) (λ k i. same i k) at.3.0;
      told_is = at.3.1 ∙ ap (λ (v : ℕ → Option Spot). all_told own v ranks) (λ k i. same i k);
    })))

-- the moves of ends among the states of a store lead to rest
pub ends_by_way : (shape : Sizes) (lines : List Line) (eager ranks : ℕ) (own : List Line) (store : Store) →
    eager ≡ shape.eager → ranks ≡ shape.ranks → own ≡ lines → IsMade eager ranks own store →
    AreBack eager ranks own store → (ends : List End) → AreEndsAmong eager ranks own store ends →
    AreEndsByWay shape lines ends
ends_by_way shape lines eager ranks own store a b c made back ends are end has =
    let at = are end has in
    let low = (made.sound at.number at.ids at.here).low in
    let same : (i : ℕ) → spot_in store.table at.ids i ≡ slice_get (states_in store.table at.ids) i =
    λ i. sym (state_at store.table at.ids low i) in
    record {
      state = states_in store.table at.ids;
      way = subst (λ (x : ℕ). IsWay x shape.ranks lines end.path.items (states_in store.table at.ids)) a
          (subst (λ (x : ℕ). IsWay eager x lines end.path.items (states_in store.table at.ids)) b
          (subst (λ (x : List Line). IsWay eager ranks x end.path.items (states_in store.table at.ids)) c
          (at.way back)));
      rest = subst (λ (x : ℕ). AreAtRest x lines (λ i. slice_get (states_in store.table at.ids) i)) b
          (subst (λ (x : List Line). AreAtRest ranks x (λ i. slice_get (states_in store.table at.ids) i)) c
          (subst (λ (v : ℕ → Option Spot). AreAtRest ranks own v) (λ k i. same i k) at.told.0));
      told = at.told.1 ∙ ap (λ (v : ℕ → Option Spot). all_told own v ranks) (λ k i. same i k)
          ∙ ap (λ (x : List Line). all_told x (λ i. slice_get (states_in store.table at.ids) i) ranks) c
          ∙ ap (λ (x : ℕ). all_told lines (λ i. slice_get (states_in store.table at.ids) i) x) b;
    }
