-- States whose moves lead to states that are there.
use Rattle.std.proofs.Common.{◌≡◌, inl, inr, ℕ, ◌+◌, ◌<◌, Some, List, sym, ◌∙◌, ap, subst, arith}
use Rattle.std.proofs.Common.{Option, get_or, length, refl}
use Rattle.std.specs.List.{slice_get, slice_set}
use Rattle.std.proofs.lemmas.List.{map-set}
use Rattle.std.proofs.lemmas.Option.{get_or_from_slice_get}
use Rattle.nm_types.specs.declared.messages.Arrival.{Arrival}
use Rattle.nm_types.specs.declared.scripts.Line.{Line}
use Rattle.nm_types.proofs.ListLemmas.{get_some, place_below}
use Rattle.nm_types.proofs.OptionLemmas.{same_some}
use Rattle.nm_outcomes.specs.Searches as searches
use Rattle.nm_outcomes.specs.RankStates.{Spot, arrived_at, first_spot, spot_after}
use Rattle.nm_explored.specs.declared.choices.moves.Move.{Move}
use Rattle.nm_explored.specs.declared.choices.moves.Move.TheVariants as move
use Rattle.nm_explored.specs.declared.choices.moves.Turn.{Turn}
use Rattle.nm_explored.specs.Successors.{message_next, spot_in}
use Rattle.nm_search.specs.Lists.{Has}
use Rattle.nm_explored.specs.Moves.{IsAct, moved_at}
use Rattle.nm_search.proofs.ListLemmas.{each_next, has_kept}
use Rattle.nm_explored.specs.Chosen.{Goes, IsSettled}
use Rattle.nm_explored.specs.Coming.{AreEnoughAt, AreEnoughTurns, IsNamed, Makes}
use Rattle.nm_explored.specs.Coming.Choice.{Acting, Arriving, Parting}
use Rattle.nm_explored.specs.Met.{IsMade}
use Rattle.nm_explored.specs.Stores.{AreExpanded, AreLow, Grows, IsExpanded, IsExplored, IsFirst, IsThere, Leads, Store}
use Rattle.nm_explored.specs.Stores.{states_in}
use Rattle.nm_explored.specs.Apart.{group_of}
use Rattle.nm_explored.specs.Rests.{IsAtRest}
use Rattle.nm_explored.proofs.ApartLemmas.{met_inside}
use Rattle.nm_explored.proofs.CalmLemmas.{met_calm}
use Rattle.nm_explored.proofs.MetLemmas.{low_kept, low_set, state_at, states_kept, turn_same}
use Rattle.nm_explored.proofs.OrderlyLemmas.{met_orderly}
use Rattle.nm_explored.proofs.StartedLemmas.{met_started}
use Rattle.nm_explored.proofs.StoreLemmas.{own_place, spot_kept}

pub there_kept : (a b : Store) → Grows a b → (u : List Spot) → IsThere a u → IsThere b u
there_kept a b grows u there = (
  there.0,
  has_kept a.states b.states there.0 grows.states there.1,
  low_kept a.table b.table there.0 grows.table there.2,
  states_kept a.table b.table there.0 grows.table there.2 ∙ there.3,
)

-- the state that a move leads to
leads_there : (store : Store) (ids : List ℕ) (i : ℕ) (x y : Spot) → AreLow store.table ids →
    spot_in store.table ids i ≡ Some x → Leads store ids i y → IsThere store (slice_set (states_in store.table ids) i y)
leads_there store ids i x y low here lead = (
  slice_set ids i lead.id,
  lead.state,
  low_set store.table ids i lead.id low (own_place store.table ids i x here)
      (place_below store.table lead.id y lead.spot),
  map-set (λ (n : ℕ). get_or store.table n first_spot) ids i lead.id
      ∙ ap (λ (s : Spot). slice_set (states_in store.table ids) i s)
      (get_or_from_slice_get store.table lead.id y first_spot lead.spot),
)

module _ (eager ranks : ℕ) (lines : List Line) where
  abbrev AreLed : Store → List Spot → Type 0
  AreLed store state =
      searches.IsExplored (Goes eager ranks lines) (AreEnoughAt ranks lines) (Makes eager ranks lines) (IsThere store)
      state

  led_kept : (a b : Store) → Grows a b → (state : List Spot) → AreLed a state → AreLed b state
  led_kept a b grows state (inl all) = inl (λ u go. there_kept a b grows u (all u go))
  led_kept a b grows state (inr some) = inr (some.0, some.1, λ u go. there_kept a b grows u (some.2 u go))

  pub expanded_kept : (a b : Store) → Grows a b → (ids : List ℕ) → IsExpanded eager ranks lines a ids →
      IsExpanded eager ranks lines b ids
  expanded_kept a b grows ids e =
      record {
        state = e.state;
        low = low_kept a.table b.table ids grows.table e.low;
        is = states_kept a.table b.table ids grows.table e.low ∙ e.is;
        leads = led_kept a b grows e.state e.leads;
      }

  -- where moves that are enough were made
  module _ (old new : Store) (grows : Grows old new) (made : IsMade eager ranks lines old) (k : ℕ) (ids : List ℕ)
      (here : slice_get old.states k ≡ Some ids) (turns : List Turn)
      (leads : (m : ℕ) (t : Turn) → slice_get turns m ≡ Some t → (spot : Spot) →
      spot_in old.table ids t.rank ≡ Some spot → Leads new ids t.rank (moved_at spot t.by))
    where
      abbrev state : List Spot
      state = states_in old.table ids

      abbrev low : AreLow old.table ids
      low = (made.sound k ids here).low

      same : states_in new.table ids ≡ state
      same = states_kept old.table new.table ids grows.table low

      at : (i : ℕ) → slice_get state i ≡ spot_in old.table ids i
      at i = state_at old.table ids low i

      -- a move that was made
      led : (t : Turn) (spot : Spot) → spot_in old.table ids t.rank ≡ Some spot → Has turns t → (u : List Spot) →
          u ≡ slice_set state t.rank (moved_at spot t.by) → IsThere new u
      led t spot is made_it u path =
          subst (λ (w : List Spot). IsThere new w)
          (ap (λ (s : List Spot). slice_set s t.rank (moved_at spot t.by)) same ∙ sym path)
          (leads_there new ids t.rank spot (moved_at spot t.by) (low_kept old.table new.table ids grows.table low)
          (spot_kept old.table new.table ids t.rank spot grows.table is)
          (leads made_it.0 t made_it.1 spot is))

      named : (i from : ℕ) (a : Arrival) → IsNamed ranks lines (spot_in old.table ids) i from a →
          IsNamed ranks lines (λ k. slice_get state k) i from a
      named i from a is = record {
        inside = is.inside;
        low = is.low;
        spot = is.spot;
        here = at i ∙ is.here;
        next = ap (λ (v : ℕ → Option Spot). message_next v i from) (λ j k. at k j) ∙ is.next;
        receive = is.receive;
        to = is.to;
        named = is.named;
      }

      by_turns : AreEnoughTurns eager ranks lines (spot_in old.table ids) turns → AreLed new state
      by_turns (inl all) =
          inl (λ u go.
          let turn = turn_same eager ranks lines (λ i. slice_get state i) (spot_in old.table ids) go.0 at go.2 in
          led go.0 go.2.spot (sym (at go.0.rank) ∙ go.2.here)
          (all go.0.rank go.1 turn.0.spot turn.0.here go.0.by turn.0.choice) u go.3)
      by_turns (inr (inl one)) =
          inr (
            Acting one.rank,
            record {
              no_recall = one.no_recall;
              started = met_started eager ranks lines state (made.sound k ids here).met;
              calm = met_calm eager ranks lines one.no_recall state (made.sound k ids here).met;
              orderly = λ none.
                  met_orderly eager ranks lines one.no_recall one.rank none state (made.sound k ids here).met;
              inside = one.inside;
              spot = one.spot;
              here = at one.rank ∙ one.here;
              settled = subst (λ (v : ℕ → Option Spot). IsSettled lines v one.rank one.spot)
                  (λ j i. sym (at i) j) one.settled;
            },
            λ u acts.
                let is : acts.0 ≡ one.spot = same_some acts.0 one.spot (sym acts.1 ∙ at one.rank ∙ one.here) in
                let act : IsAct eager lines (spot_in old.table ids) one.rank one.spot acts.2 =
                subst (λ (x : Spot). IsAct eager lines (spot_in old.table ids) one.rank x acts.2) is
                (subst (λ (v : ℕ → Option Spot). IsAct eager lines v one.rank acts.0 acts.2) (λ j i. at i j) acts.3) in
                led (record { rank = one.rank; by = move.Act acts.2 }) one.spot one.here (one.all acts.2 act) u
                (acts.4 ∙ ap (λ (x : Spot). slice_set state one.rank (spot_after x acts.2)) is),
          )
      by_turns (inr (inr (inl one))) =
          inr (
            Arriving one.turn.rank one.is.1,
            record {
              no_recall = one.no_recall;
              started = met_started eager ranks lines state (made.sound k ids here).met;
              calm = met_calm eager ranks lines one.no_recall state (made.sound k ids here).met;
              orderly = met_orderly eager ranks lines one.no_recall one.turn.rank one.is.2.named.no_claim state
                  (made.sound k ids here).met;
              arrival = one.is.0;
              is = named one.turn.rank one.is.1 one.is.0 one.is.2;
            },
            λ u comes.
                let spot_is : comes.0 ≡ one.is.2.spot = same_some comes.0 one.is.2.spot
                (sym comes.1 ∙ at one.turn.rank ∙ one.is.2.here) in
                let is : comes.2 ≡ one.is.0 = same_some comes.2 one.is.0
                (sym comes.3 ∙ ap (λ (v : ℕ → Option Spot). message_next v one.turn.rank one.is.1) (λ j i. at i j)
                ∙ one.is.2.next) in
                led one.turn one.is.2.spot one.is.2.here one.has u
                (comes.4 ∙ ap (λ (x : Spot). slice_set state one.turn.rank (arrived_at x comes.2)) spot_is
                ∙ ap (λ (a : Arrival). slice_set state one.turn.rank (arrived_at one.is.2.spot a)) is
                ∙ ap (λ (m : Move). slice_set state one.turn.rank (moved_at one.is.2.spot m)) (sym one.is.3)),
          )
      by_turns (inr (inr (inr one))) =
          inr (
            Parting one.groups (group_of one.groups one.rank),
            record {
              apart = one.apart;
              started = met_started eager ranks lines state (made.sound k ids here).met;
              inside = met_inside eager ranks lines one.groups one.apart state (made.sound k ids here).met;
              rank = one.rank;
              low = one.low;
              own = refl;
              moves = λ rest. one.moves
                  (subst (λ (v : ℕ → Option Spot). IsAtRest ranks lines v one.rank) (λ j i. at i j) rest);
            },
            λ u makes.
                let turn = turn_same eager ranks lines (λ i. slice_get state i) (spot_in old.table ids) makes.0 at
                makes.3 in
                led makes.0 makes.3.spot (sym (at makes.0.rank) ∙ makes.3.here)
                (one.all makes.0.rank makes.1 makes.2 turn.0.spot turn.0.here makes.0.by turn.0.choice) u makes.4,
          )

      pub expanded_now : AreEnoughTurns eager ranks lines (spot_in old.table ids) turns →
          IsExpanded eager ranks lines new ids
      expanded_now enough =
          record {
            state = state;
            low = low_kept old.table new.table ids grows.table low;
            is = same;
            leads = by_turns enough;
          }

  -- one state more is expanded
  pub run_next : (a b : Store) (k : ℕ) → Grows a b → k < length a.states → AreExpanded eager ranks lines a k →
      ((ids : List ℕ) → slice_get a.states k ≡ Some ids → IsExpanded eager ranks lines b ids) →
      AreExpanded eager ranks lines b (k + 1)
  run_next a b k grows below all now m ids low here =
      each_next (λ (m : ℕ). (ids : List ℕ) → slice_get b.states m ≡ Some ids → IsExpanded eager ranks lines b ids) k
      (λ m low ids here. expanded_kept a b grows ids (all m ids low (back m ids (before m low) here)))
      (λ ids here. now ids (back k ids below here)) m low ids here
    where
      before : (m : ℕ) → m < k → m < length a.states
      before m low = omega (arith, low, below)

      back : (m : ℕ) (ids : List ℕ) → m < length a.states → slice_get b.states m ≡ Some ids →
          slice_get a.states m ≡ Some ids
      back m ids inside here =
          let x = get_some a.states m inside in
          x.1 ∙ sym (grows.states m x.0 x.1) ∙ here

  pub explored_by : (old new : Store) → IsFirst ranks old → Grows old new →
      AreExpanded eager ranks lines new (length new.states) → IsExplored eager ranks lines new
  explored_by old new first grows all =
      record {
        first = first.ids;
        found = (0, grows.states 0 first.ids (ap (λ (xs : List (List ℕ)). slice_get xs 0) first.only));
        idle = λ j low. spot_kept old.table new.table first.ids j first_spot grows.table (first.idle j low);
        expanded = λ k ids here. all k ids (place_below new.states k ids here) here;
      }
