-- How the states of a store were found.
use Rattle.std.proofs.Common.{◌≡◌, ◌⊎◌, inl, inr, ℕ, ◌+◌, ◌≤◌, true, Option, Some, None, List, [], ◌∷◌, ◌++◌}
use Rattle.std.proofs.Common.{length, get_or, replicate, refl, sym, ◌∙◌, ap, subst, arith, length-append, append_assoc, append-nil}
use Rattle.std.specs.Prelude.{option_and_then}
use Rattle.std.specs.List.{slice_get, slice_set}
use Rattle.std.proofs.lemmas.List.{map-set}
use Rattle.std.proofs.lemmas.Option.{get_or_from_slice_get}
use Rattle.nm_types.specs.declared.scripts.Line.{Line}
use Rattle.nm_types.proofs.ListLemmas.{get_some, place_below}
use Rattle.nm_types.proofs.OptionLemmas.{no_some}
use Rattle.nm_outcomes.specs.RankStates.{Spot, first_spot}
use Rattle.nm_outcomes.proofs.SentLemmas.{get_more}
use Rattle.nm_explored.specs.declared.choices.moves.Turn.{Turn}
use Rattle.nm_explored.specs.declared.stores.Way.{Way}
use Rattle.nm_explored.specs.Successors.{spot_in}
use Rattle.nm_explored.specs.Moves.{IsTurn, moved_at}
use Rattle.nm_explored.specs.Met.{AreBack, IsBack, IsMade, IsStep, IsWay}
use Rattle.nm_explored.specs.Stores.{Grows, Store, states_in}
use Rattle.nm_explored.proofs.MetLemmas.{state_at, states_kept, turn_same}

-- the move of a way
abbrev pub turn_of : Way → Turn
turn_of way = record { rank = way.rank; by = way.by }

module _ (eager ranks : ℕ) (lines : List Line) where
  -- a store with more has them, too
  back_kept : (old new : Store) → Grows old new → IsMade eager ranks lines old → (k : ℕ) (ids : List ℕ)
      (way : Option Way) → slice_get old.states k ≡ Some ids → IsBack eager ranks lines old k ids way →
      IsBack eager ranks lines new k ids way
  back_kept old new grows made k ids None here was =
      states_kept old.table new.table ids grows.table (made.sound k ids here).low ∙ was
  back_kept old new grows made k ids (Some way) here was = record {
    before = was.before;
    here = grows.states way.before was.before was.here;
    low = was.low;
    turn = turn.0;
    state = states_kept old.table new.table ids grows.table (made.sound k ids here).low ∙ was.state
        ∙ ap (λ (ss : List Spot). slice_set ss way.rank (moved_at was.turn.spot way.by)) (sym same)
        ∙ ap (λ (s : Spot). slice_set (states_in new.table was.before) way.rank (moved_at s way.by)) (sym turn.1);
  }
    where
      same : states_in new.table was.before ≡ states_in old.table was.before
      same = states_kept old.table new.table was.before grows.table (made.sound way.before was.before was.here).low

      turn : (other : IsTurn eager ranks lines (λ i. slice_get (states_in new.table was.before) i) (turn_of way))
          × (other.spot ≡ was.turn.spot)
      turn =
          turn_same eager ranks lines (λ i. slice_get (states_in old.table was.before) i)
          (λ i. slice_get (states_in new.table was.before) i) (turn_of way)
          (λ i. ap (λ (ss : List Spot). slice_get ss i) (sym same)) was.turn

  -- one state more, or none
  pub back_next : (old new : Store) (k : ℕ) (t : Turn) (id : ℕ) (s : Spot) → IsMade eager ranks lines old →
      AreBack eager ranks lines old → Grows old new → slice_get new.table id ≡ Some s →
      ((ids : List ℕ) → slice_get old.states k ≡ Some ids → IsTurn eager ranks lines (spot_in old.table ids) t) →
      ((ids : List ℕ) (spot : Spot) → slice_get old.states k ≡ Some ids →
      spot_in old.table ids t.rank ≡ Some spot → s ≡ moved_at spot t.by) →
      ((new.states ≡ old.states) × (new.ways ≡ old.ways))
      ⊎ ((ids : List ℕ) × (slice_get old.states k ≡ Some ids)
      × (new.states ≡ old.states ++ slice_set ids t.rank id ∷ [])
      × (new.ways ≡ old.ways ++ Some (record { before = k; rank = t.rank; by = t.by }) ∷ [])) →
      AreBack eager ranks lines new
  back_next old new k t id s made back grows there turns after (inl same) = record {
    as_many = ap (λ (ws : List (Option Way)). length ws) same.1 ∙ back.as_many
        ∙ ap (λ (ss : List (List ℕ)). length ss) (sym same.0);
    back = λ m ids way here at.
        let was = ap (λ (ss : List (List ℕ)). slice_get ss m) (sym same.0) ∙ here in
        back_kept old new grows made m ids way was
        (back.back m ids way was (ap (λ (ws : List (Option Way)). slice_get ws m) (sym same.1) ∙ at));
  }
  back_next old new k t id s made back grows there turns after (inr more) = record {
    as_many =
        (let one = ap (λ (ws : List (Option Way)). length ws) more.3 ∙ length-append old.ways (Some new_way ∷ []) in
        let two = ap (λ (ss : List (List ℕ)). length ss) more.2 ∙ length-append old.states (new_ids ∷ []) in
        let same = back.as_many in
        omega (arith, one, two, same));
    back = λ m ids way here at.
        by_place m ids way
        (get_more old.states new_ids true m ids (ap (λ (ss : List (List ℕ)). slice_get ss m) (sym more.2) ∙ here))
        (get_more old.ways (Some new_way) true m way
        (ap (λ (ws : List (Option Way)). slice_get ws m) (sym more.3) ∙ at));
  }
    where
      ids0 : List ℕ
      ids0 = more.0

      new_ids : List ℕ
      new_ids = slice_set ids0 t.rank id

      new_way : Way
      new_way = record { before = k; rank = t.rank; by = t.by }

      here0 : slice_get old.states k ≡ Some ids0
      here0 = more.1

      same : states_in new.table ids0 ≡ states_in old.table ids0
      same = states_kept old.table new.table ids0 grows.table (made.sound k ids0 here0).low

      turn0 : IsTurn eager ranks lines (spot_in old.table ids0) t
      turn0 = turns ids0 here0

      turn : (other : IsTurn eager ranks lines (λ i. slice_get (states_in new.table ids0) i) t)
          × (other.spot ≡ turn0.spot)
      turn =
          turn_same eager ranks lines (spot_in old.table ids0) (λ i. slice_get (states_in new.table ids0) i) t
          (λ i. sym (state_at old.table ids0 (made.sound k ids0 here0).low i)
          ∙ ap (λ (ss : List Spot). slice_get ss i) (sym same)) turn0

      last : (m : ℕ) → m ≡ length old.states → IsStep eager ranks lines new m new_ids new_way
      last m place = record {
        before = ids0;
        here = grows.states k ids0 here0;
        low = (let low = place_below old.states k ids0 here0 in omega (arith, low, place));
        turn = turn.0;
        state = map-set (λ (n : ℕ). get_or new.table n first_spot) ids0 t.rank id
            ∙ ap (λ (x : Spot). slice_set (states_in new.table ids0) t.rank x)
            (get_or_from_slice_get new.table id s first_spot there
            ∙ after ids0 turn0.spot here0 turn0.here ∙ ap (λ (x : Spot). moved_at x t.by) (sym turn.1));
      }

      by_place : (m : ℕ) (ids : List ℕ) (way : Option Way) →
          (slice_get old.states m ≡ Some ids) ⊎ ((m ≡ length old.states) × (new_ids ≡ ids) × (true ≡ true)) →
          (slice_get old.ways m ≡ Some way) ⊎ ((m ≡ length old.ways) × (Some new_way ≡ way) × (true ≡ true)) →
          IsBack eager ranks lines new m ids way
      by_place m ids way (inl was) (inl at) =
          back_kept old new grows made m ids way was (back.back m ids way was at)
      by_place m ids way (inl was) (inr at) =
          let low = place_below old.states m ids was in
          let same = back.as_many in
          let place = at.0 in
          absurd (omega (arith, low, same, place))
      by_place m ids way (inr is) (inl at) =
          let low = place_below old.ways m way at in
          let same = back.as_many in
          let place = is.0 in
          absurd (omega (arith, low, same, place))
      by_place m ids way (inr is) (inr at) =
          subst (λ (w : Option Way). IsBack eager ranks lines new m ids w) at.1
          (subst (λ (xs : List ℕ). IsStep eager ranks lines new m xs new_way) is.1 (last m is.0))

  -- a state that was not found by a move is the first one
  pub first_at : (store : Store) → AreBack eager ranks lines store → (k : ℕ) (ids : List ℕ) →
      slice_get store.states k ≡ Some ids → option_and_then (λ w. w) (slice_get store.ways k) ≡ None →
      states_in store.table ids ≡ replicate ranks first_spot
  first_at store back k ids here none =
      let low = place_below store.states k ids here in
      let many = back.as_many in
      let way = get_some store.ways k (omega (arith, low, many)) in
      let is : way.0 ≡ None = sym (ap (λ (o : Option (Option Way)). option_and_then (λ w. w) o) way.1) ∙ none in
      subst (λ (w : Option Way). IsBack eager ranks lines store k ids w) is (back.back k ids way.0 here way.1)

  -- .. and one that was, comes of the state that is told
  pub step_at : (store : Store) → AreBack eager ranks lines store → (k : ℕ) (ids : List ℕ) (way : Way) →
      slice_get store.states k ≡ Some ids → option_and_then (λ w. w) (slice_get store.ways k) ≡ Some way →
      IsStep eager ranks lines store k ids way
  step_at store back k ids way here some = by_way (slice_get store.ways k) refl some
    where
      by_way : (o : Option (Option Way)) → slice_get store.ways k ≡ o → option_and_then (λ w. w) o ≡ Some way →
          IsStep eager ranks lines store k ids way
      by_way None at some = absurd (no_some way some)
      by_way (Some w) at some =
          back.back k ids (Some way) here (at ∙ ap (λ (w : Option Way). Some w) some)

  -- the moves lead on from the state with number k to the last one, of which these are the numbers
  pub record LeadsOn (store : Store) (last taken k : ℕ) (ids : List ℕ) (turns : List Turn) : Type 0 where
    pub low : k + taken ≤ last
    pub at : List ℕ
    pub here : slice_get store.states k ≡ Some at
    pub leads : (ts : List Turn) → IsWay eager ranks lines ts (states_in store.table at) →
        IsWay eager ranks lines (turns ++ ts) (states_in store.table ids)

  pub leads_zero : (store : Store) (last : ℕ) (ids : List ℕ) → slice_get store.states last ≡ Some ids →
      LeadsOn store last 0 last ids []
  leads_zero store last ids here = record {
    low = omega arith;
    at = ids;
    here = here;
    leads = λ ts way. way;
  }

  -- one move more
  pub leads_more : (store : Store) → AreBack eager ranks lines store → (last taken k : ℕ) (ids : List ℕ)
      (turns new : List Turn) (way : Way) → LeadsOn store last taken k ids turns →
      option_and_then (λ w. w) (slice_get store.ways k) ≡ Some way → new ≡ turns ++ turn_of way ∷ [] →
      LeadsOn store last (taken + 1) way.before ids new
  leads_more store back last taken k ids turns new way on some is =
      let step = step_at store back k on.at way on.here some in record {
        low = (let was = on.low in let less = step.low in omega (arith, was, less));
        at = step.before;
        here = step.here;
        leads = λ ts led.
            subst (λ (us : List Turn). IsWay eager ranks lines us (states_in store.table ids))
            (sym (ap (λ (us : List Turn). us ++ ts) is ∙ append_assoc turns (turn_of way ∷ []) ts))
            (on.leads (turn_of way ∷ ts) (states_in store.table step.before, led, step.turn, step.state));
      }

  -- from the first state
  pub leads_last : (store : Store) → AreBack eager ranks lines store → (last taken k : ℕ) (ids : List ℕ)
      (turns : List Turn) → LeadsOn store last taken k ids turns →
      option_and_then (λ w. w) (slice_get store.ways k) ≡ None →
      IsWay eager ranks lines turns (states_in store.table ids)
  leads_last store back last taken k ids turns on none =
      subst (λ (us : List Turn). IsWay eager ranks lines us (states_in store.table ids)) (append-nil turns)
      (on.leads [] (first_at store back k on.at on.here none))

  pub leads_first : (store : Store) → AreBack eager ranks lines store → (last taken k : ℕ) (ids : List ℕ)
      (turns : List Turn) → LeadsOn store last taken k ids turns → last ≤ taken →
      IsWay eager ranks lines turns (states_in store.table ids)
  leads_first store back last taken k ids turns on many =
      by_way (option_and_then (λ w. w) (slice_get store.ways k)) refl
    where
      by_way : (o : Option Way) → option_and_then (λ w. w) (slice_get store.ways k) ≡ o →
          IsWay eager ranks lines turns (states_in store.table ids)
      by_way None none = leads_last store back last taken k ids turns on none
      by_way (Some way) some =
          let step = step_at store back k on.at way on.here some in
          let low = on.low in
          let less = step.low in
          absurd (omega (arith, low, less, many))
