-- States that moves lead to, each once.
use Rattle.std.proofs.Common.{◌≡◌, ◌⊎◌, inl, inr, ℕ, zero, suc, ◌<◌, ◌==◌, Bool, true, false, Option, Some, None, List}
use Rattle.std.proofs.Common.{[], ◌∷◌, ◌++◌, length, map, get_or, replicate, refl, sym, ◌∙◌, ap, subst, arith}
use Rattle.std.specs.Prelude.{if◌then◌else◌, nat_eq, nat_lt, option_and_then, option_map}
use Rattle.std.specs.Cmp.Lexicographic.{pointwise}
use Rattle.std.specs.List.{IsDistinct, list_any, slice_get, slice_set}
use Rattle.std.proofs.lemmas.Bool.{false≢true}
use Rattle.std.proofs.lemmas.Bool.Decides.{nat_tests}
use Rattle.std.proofs.lemmas.List.{map-set}
use Rattle.std.proofs.lemmas.Map.Keys.{apart_from_distinct}
use Rattle.std.proofs.lemmas.Option.{get_or_from_slice_get, slice_get-get_or, slice_get-map}
use Rattle.indexmap.specs.IndexSet.{insert_key}
use Rattle.nm_types.specs.declared.scripts.Line.{Line}
use Rattle.nm_types.specs.Sizes.{Sizes}
use Rattle.nm_types.proofs.ListLemmas.{get_from_map, get_set_other, get_set_same, get_some, map_length, no_item}
use Rattle.nm_types.proofs.ListLemmas.{place_below}
use Rattle.nm_types.proofs.NumberLemmas.{differ, same_number}
use Rattle.nm_types.proofs.OptionLemmas.{same_some}
use Rattle.nm_types.proofs.TruthLemmas.{and_left, and_right}
use Rattle.nm_outcomes.proofs.SentLemmas.{get_more}
use Rattle.nm_outcomes.specs.RankStates.{Spot, first_spot}
use Rattle.nm_explored.specs.declared.choices.moves.Turn.{Turn}
use Rattle.nm_explored.specs.Successors.{spot_in}
use Rattle.nm_search.specs.Lists.{Has, Extends}
use Rattle.nm_explored.specs.Moves.{IsChoiceOf, IsTurn, moved_at}
use Rattle.nm_search.proofs.ListLemmas.{keeps_push}
use Rattle.nm_explored.specs.declared.ends.Explored.{Explored}
use Rattle.nm_explored.specs.declared.ends.Explored.TheVariants.{All, TooMany}
use Rattle.nm_explored.specs.Met.{AreTooMany, IfTooMany, IsAll, IsMade, IsMet, IsSound}
use Rattle.nm_search.specs.Lists.{StandOnce}
use Rattle.nm_explored.specs.Stores.{AreLow, Grows, Store, states_in}
use Rattle.nm_explored.proofs.StoreLemmas.{own_place}

-- two lists of numbers that a test finds the same are the same
pub same_lists : (xs ys : List ℕ) → pointwise nat_eq xs ys ≡ true → xs ≡ ys
same_lists [] [] so = refl
same_lists [] (y ∷ ys) so = absurd (false≢true so)
same_lists (x ∷ xs) [] so = absurd (false≢true so)
same_lists (x ∷ xs) (y ∷ ys) so =
    λ i. same_number x y (and_left (nat_eq x y) (pointwise nat_eq xs ys) so) i
    ∷ same_lists xs ys (and_right (nat_eq x y) (pointwise nat_eq xs ys) so) i

low_tail : (table : List Spot) (id : ℕ) (ids : List ℕ) → AreLow table (id ∷ ids) → AreLow table ids
low_tail table id ids low j x here = low (suc j) x here

-- the states of the ranks, as a list and by rank
pub state_at : (table : List Spot) (ids : List ℕ) → AreLow table ids → (i : ℕ) →
    slice_get (states_in table ids) i ≡ spot_in table ids i
state_at table ids low i =
    slice_get-map (λ (id : ℕ). get_or table id first_spot) ids i ∙ by_id (slice_get ids i) refl
  where
    by_id : (o : Option ℕ) → slice_get ids i ≡ o →
        option_map (λ (id : ℕ). get_or table id first_spot) (slice_get ids i) ≡ spot_in table ids i
    by_id None is =
        ap (λ (o : Option ℕ). option_map (λ (id : ℕ). get_or table id first_spot) o) is
        ∙ sym (ap (λ (o : Option ℕ). option_and_then (λ id. slice_get table id) o) is)
    by_id (Some id) is =
        ap (λ (o : Option ℕ). option_map (λ (id : ℕ). get_or table id first_spot) o) is
        ∙ sym (slice_get-get_or table id first_spot (low i id is))
        ∙ sym (ap (λ (o : Option ℕ). option_and_then (λ id. slice_get table id) o) is)

-- .. in a table with more
id_kept : (old new : List Spot) (id : ℕ) → Extends old new → id < length old →
    get_or new id first_spot ≡ get_or old id first_spot
id_kept old new id kept low =
    get_or_from_slice_get new id (get_or old id first_spot) first_spot
    (kept id (get_or old id first_spot) (slice_get-get_or old id first_spot low))

pub states_kept : (old new : List Spot) (ids : List ℕ) → Extends old new → AreLow old ids →
    states_in new ids ≡ states_in old ids
states_kept old new [] kept low = refl
states_kept old new (id ∷ ids) kept low =
    λ i. id_kept old new id kept (low 0 id refl) i ∷ states_kept old new ids kept (low_tail old id ids low) i

pub spots_kept : (old new : List Spot) (ids : List ℕ) → Extends old new → AreLow old ids → (j : ℕ) →
    spot_in new ids j ≡ spot_in old ids j
spots_kept old new ids kept low j = by_id (slice_get ids j) refl
  where
    by_id : (o : Option ℕ) → slice_get ids j ≡ o → spot_in new ids j ≡ spot_in old ids j
    by_id None is =
        ap (λ (o : Option ℕ). option_and_then (λ id. slice_get new id) o) is
        ∙ sym (ap (λ (o : Option ℕ). option_and_then (λ id. slice_get old id) o) is)
    by_id (Some id) is =
        let x = get_some old id (low j id is) in
        ap (λ (o : Option ℕ). option_and_then (λ id. slice_get new id) o) is
        ∙ kept id x.0 x.1 ∙ sym x.1
        ∙ sym (ap (λ (o : Option ℕ). option_and_then (λ id. slice_get old id) o) is)

pub low_kept : (old new : List Spot) (ids : List ℕ) → Extends old new → AreLow old ids → AreLow new ids
low_kept old new ids kept low j id here =
    let x = get_some old id (low j id here) in place_below new id x.0 (kept id x.0 x.1)

pub got_has : (xs ys : List Turn) (k : ℕ) (d : Turn) → xs ≡ ys → k < length xs → Has ys (get_or xs k d)
got_has xs ys k d same below =
    (k, ap (λ (ts : List Turn). slice_get ts k) (sym same) ∙ slice_get-get_or xs k d below)

abbrev behind_first : List Spot → List Spot
behind_first [] = []
behind_first (s ∷ ss) = ss

-- two lists of numbers of the same states are the same
same_ids : (table : List Spot) → StandOnce table → (a b : List ℕ) → AreLow table a → AreLow table b →
    states_in table a ≡ states_in table b → a ≡ b
same_ids table once [] [] low_a low_b same = refl
same_ids table once [] (y ∷ b) low_a low_b same =
    let long : 0 ≡ suc (length (states_in table b)) = ap (λ (ss : List Spot). length ss) same in
    absurd (omega (arith, long))
same_ids table once (x ∷ a) [] low_a low_b same =
    let long : suc (length (states_in table a)) ≡ 0 = ap (λ (ss : List Spot). length ss) same in
    absurd (omega (arith, long))
same_ids table once (x ∷ a) (y ∷ b) low_a low_b same =
    λ i. heads i ∷ same_ids table once a b (low_tail table x a low_a) (low_tail table y b low_b) tails i
  where
    first : get_or table x first_spot ≡ get_or table y first_spot
    first = same_some _ _ (ap (λ (ss : List Spot). slice_get ss 0) same)

    heads : x ≡ y
    heads =
        once x y (get_or table y first_spot)
        (slice_get-get_or table x first_spot (low_a 0 x refl) ∙ ap (λ (s : Spot). Some s) first)
        (slice_get-get_or table y first_spot (low_b 0 y refl))

    tails : states_in table a ≡ states_in table b
    tails = ap (λ (ss : List Spot). behind_first ss) same

pub low_set : (table : List Spot) (ids : List ℕ) (i id : ℕ) → AreLow table ids → i < length ids → id < length table →
    AreLow table (slice_set ids i id)
low_set table ids i id low inside below j x here = by_rank (i == j) refl
  where
    by_rank : (b : Bool) → (i == j) ≡ b → x < length table
    by_rank true same =
        let e : i ≡ j = same_number i j same in
        let is : id ≡ x =
        same_some id x (sym (get_set_same ids i id inside) ∙ ap (λ (n : ℕ). slice_get (slice_set ids i id) n) e
        ∙ here) in
        subst (λ (n : ℕ). n < length table) is below
    by_rank false other = low j x (sym (get_set_other ids i j id (differ i j other)) ∙ here)

low_alike : (table : List Spot) (n id : ℕ) → id < length table → AreLow table (replicate n id)
low_alike table zero id below j x here = absurd (no_item j x here)
low_alike table (suc n) id below zero x here = subst (λ (k : ℕ). k < length table) (same_some id x here) below
low_alike table (suc n) id below (suc j) x here = low_alike table n id below j x here

pub states_alike : (table : List Spot) (n id : ℕ) → slice_get table id ≡ Some first_spot →
    states_in table (replicate n id) ≡ replicate n first_spot
states_alike table zero id here = refl
states_alike table (suc n) id here =
    λ i. get_or_from_slice_get table id first_spot first_spot here i ∷ states_alike table n id here i

module _ (eager ranks : ℕ) (lines : List Line) where
  -- a move that may be made where the ranks are in the same states
  pub turn_same : (v w : ℕ → Option Spot) (t : Turn) → ((i : ℕ) → v i ≡ w i) →
      (turn : IsTurn eager ranks lines v t) → (other : IsTurn eager ranks lines w t) × (other.spot ≡ turn.spot)
  turn_same v w t same turn = (
    record {
      spot = turn.spot;
      here = sym (same t.rank) ∙ turn.here;
      choice = subst (λ (u : ℕ → Option Spot). IsChoiceOf eager ranks lines u t.rank turn.spot t.by)
          (λ k i. same i k) turn.choice;
    },
    refl,
  )

  -- .. in states that are shown
  pub turn_shown : (v w : ℕ → Option Spot) (t : Turn) → v ≡ w → IsTurn eager ranks lines v t →
      IsTurn eager ranks lines w t
  turn_shown v w t same turn = subst (λ (u : ℕ → Option Spot). IsTurn eager ranks lines u t) same turn

  pub sound_kept : (old new : List Spot) (ids : List ℕ) → Extends old new → IsSound eager ranks lines old ids →
      IsSound eager ranks lines new ids
  sound_kept old new ids kept sound =
      record {
        low = low_kept old new ids kept sound.low;
        met = subst (λ (state : List Spot). IsMet eager ranks lines state)
            (sym (states_kept old new ids kept sound.low)) sound.met;
      }

  pub sound_first : (table : List Spot) (id : ℕ) → slice_get table id ≡ Some first_spot →
      IsSound eager ranks lines table (replicate ranks id)
  sound_first table id here =
      record {
        low = low_alike table ranks id (place_below table id first_spot here);
        met = ([], states_alike table ranks id here);
      }

  -- the state that a move leads to
  pub sound_next : (table : List Spot) (ids : List ℕ) (t : Turn) (id : ℕ) → IsSound eager ranks lines table ids →
      (turn : IsTurn eager ranks lines (spot_in table ids) t) → slice_get table id ≡ Some (moved_at turn.spot t.by) →
      IsSound eager ranks lines table (slice_set ids t.rank id)
  sound_next table ids t id sound turn there =
      record {
        low = low_set table ids t.rank id sound.low (own_place table ids t.rank turn.spot turn.here)
            (place_below table id (moved_at turn.spot t.by) there);
        met = (
          t ∷ sound.met.0,
          (
            states_in table ids,
            sound.met.1,
            same.0,
            map-set (λ (n : ℕ). get_or table n first_spot) ids t.rank id
                ∙ ap (λ (s : Spot). slice_set (states_in table ids) t.rank s)
                (get_or_from_slice_get table id (moved_at turn.spot t.by) first_spot there
                ∙ ap (λ (s : Spot). moved_at s t.by) (sym same.1)),
          ),
        );
      }
    where
      same : (other : IsTurn eager ranks lines (λ i. slice_get (states_in table ids) i) t) × (other.spot ≡ turn.spot)
      same =
          turn_same (spot_in table ids) (λ i. slice_get (states_in table ids) i) t
          (λ i. sym (state_at table ids sound.low i)) turn

  -- a move that may be made is one where the table has more
  pub turn_kept : (old new : Store) (ids : List ℕ) (t : Turn) → Extends old.table new.table →
      IsSound eager ranks lines old.table ids → IsTurn eager ranks lines (spot_in old.table ids) t →
      IsTurn eager ranks lines (spot_in new.table ids) t
  turn_kept old new ids t kept sound turn =
      (turn_same (spot_in old.table ids) (spot_in new.table ids) t
      (λ i. sym (spots_kept old.table new.table ids kept sound.low i)) turn).0

  pub turn_here : (old now : Store) (k : ℕ) (t : Turn) → Grows old now → IsMade eager ranks lines old →
      k < length old.states →
      ((ids : List ℕ) → slice_get old.states k ≡ Some ids → IsTurn eager ranks lines (spot_in old.table ids) t) →
      (ids : List ℕ) → slice_get now.states k ≡ Some ids → IsTurn eager ranks lines (spot_in now.table ids) t
  turn_here old now k t grows made inside turns ids here =
      let x = get_some old.states k inside in
      subst (λ (xs : List ℕ). IsTurn eager ranks lines (spot_in now.table xs) t)
      (same_some x.0 ids (sym (grows.states k x.0 x.1) ∙ here))
      (turn_kept old now x.0 t grows.table (made.sound k x.0 x.1) (turns x.0 x.1))

  -- one state more, or none
  pub made_more : (old new : Store) (ids : List ℕ) → IsMade eager ranks lines old → Extends old.table new.table →
      StandOnce new.table → StandOnce new.states → IsSound eager ranks lines new.table ids →
      (new.states ≡ old.states) ⊎ (new.states ≡ old.states ++ ids ∷ []) → IsMade eager ranks lines new
  made_more old new ids made kept table states sound is =
      record {
        table = table;
        states = states;
        sound = λ k other here. by_new is k other here;
      }
    where
      before : (k : ℕ) (other : List ℕ) → slice_get old.states k ≡ Some other →
          IsSound eager ranks lines new.table other
      before k other here = sound_kept old.table new.table other kept (made.sound k other here)

      by_new : (new.states ≡ old.states) ⊎ (new.states ≡ old.states ++ ids ∷ []) → (k : ℕ) (other : List ℕ) →
          slice_get new.states k ≡ Some other → IsSound eager ranks lines new.table other
      by_new (inl same) k other here =
          before k other (ap (λ (xs : List (List ℕ)). slice_get xs k) (sym same) ∙ here)
      by_new (inr more) k other here =
          by_place (get_more old.states ids true k other (ap (λ (xs : List (List ℕ)). slice_get xs k) (sym more)
          ∙ here))
        where
          by_place : (slice_get old.states k ≡ Some other) ⊎ ((k ≡ length old.states) × (ids ≡ other) × (true ≡ true)) →
              IsSound eager ranks lines new.table other
          by_place (inl at) = before k other at
          by_place (inr last) = subst (λ (xs : List ℕ). IsSound eager ranks lines new.table xs) last.1 sound

  -- the state of a move that was followed
  pub made_next : (old new : Store) (k : ℕ) (t : Turn) (id : ℕ) (s : Spot) → IsMade eager ranks lines old →
      Extends old.table new.table → StandOnce new.table → StandOnce new.states → slice_get new.table id ≡ Some s →
      ((ids : List ℕ) → slice_get old.states k ≡ Some ids → IsTurn eager ranks lines (spot_in old.table ids) t) →
      ((ids : List ℕ) (spot : Spot) → slice_get old.states k ≡ Some ids →
      spot_in old.table ids t.rank ≡ Some spot → s ≡ moved_at spot t.by) →
      (new.states ≡ old.states)
      ⊎ ((ids : List ℕ) × (slice_get old.states k ≡ Some ids)
      × (new.states ≡ old.states ++ slice_set ids t.rank id ∷ [])) → IsMade eager ranks lines new
  made_next old new k t id s made kept table states there turns after (inl same) =
      record {
        table = table;
        states = states;
        sound = λ m other here.
            sound_kept old.table new.table other kept
            (made.sound m other (ap (λ (xs : List (List ℕ)). slice_get xs m) (sym same) ∙ here));
      }
  made_next old new k t id s made kept table states there turns after (inr more) =
      let ids = more.0 in
      let sound = made.sound k ids more.1 in
      let turn = turns ids more.1 in
      let now = turn_same (spot_in old.table ids) (spot_in new.table ids) t
      (λ i. sym (spots_kept old.table new.table ids kept sound.low i)) turn in
      made_more old new (slice_set ids t.rank id) made kept table states
      (sound_next new.table ids t id (sound_kept old.table new.table ids kept sound) now.0
      (there ∙ ap (λ (x : Spot). Some x)
      (after ids turn.spot more.1 turn.here ∙ ap (λ (x : Spot). moved_at x t.by) (sym now.1))))
      (inr more.2)

  -- where each state is there once, the states differ
  pub too_many : (store : Store) (bound : ℕ) → IsMade eager ranks lines store → bound < length store.states →
      AreTooMany eager ranks lines bound
  too_many store bound made over =
      record {
        states = map (λ ids. states_in store.table ids) store.states;
        many = subst (λ (n : ℕ). bound < n)
            (sym (map_length (λ (ids : List ℕ). states_in store.table ids) store.states)) over;
        differ = λ j k state one two.
            let a = get_from_map (λ (ids : List ℕ). states_in store.table ids) store.states j state one in
            let b = get_from_map (λ (ids : List ℕ). states_in store.table ids) store.states k state two in
            made.states j k b.0
            (a.1 ∙ ap (λ (ids : List ℕ). Some ids)
            (same_ids store.table made.table a.0 b.0 (made.sound j a.0 a.1).low (made.sound k b.0 b.1).low
            (a.2 ∙ sym b.2)))
            b.1;
        met = λ k state here.
            let a = get_from_map (λ (ids : List ℕ). states_in store.table ids) store.states k state here in
            subst (λ (s : List Spot). IsMet eager ranks lines s) a.2 (made.sound k a.0 a.1).met;
      }

-- .. of the script and the sizes that a search was given
pub too_many_of : (shape : Sizes) (lines : List Line) (eager ranks : ℕ) (own : List Line) (store : Store) (bound : ℕ) →
    eager ≡ shape.eager → ranks ≡ shape.ranks → own ≡ lines → IsMade eager ranks own store →
    bound < length store.states → AreTooMany shape.eager shape.ranks lines bound
too_many_of shape lines eager ranks own store bound a b c made over =
    subst (λ (x : ℕ). AreTooMany x shape.ranks lines bound) a
    (subst (λ (x : ℕ). AreTooMany eager x lines bound) b
    (subst (λ (x : List Line). AreTooMany eager ranks x bound) c (too_many eager ranks own store bound made over)))

-- a search that found all does not answer that they are too many
pub all_not_many : (P : Type 0) (e : Explored) → IsAll e → IfTooMany P e
all_not_many P (All ends) all = tt
all_not_many P TooMany all = absurd all
