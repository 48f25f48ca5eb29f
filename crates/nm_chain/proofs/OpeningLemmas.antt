-- The rule holds at the start.
use Rattle.std.proofs.Common.{Bool, true, false, ◌≡◌, ◌≢◌, ℕ, zero, suc, ◌+◌, ◌*◌, ◌/◌, ◌%◌, ◌<◌}
use Rattle.std.proofs.Common.{◌≤◌, List, [], ◌∷◌, length, map, replicate, sym, refl, ap}
use Rattle.std.proofs.Common.{◌∙◌, subst, arith, Some, None}
use Rattle.std.proofs.lemmas.Nat.{mod_below}
use Rattle.std.proofs.lemmas.List.{length-replicate, get_or-replicate}
use Rattle.std.specs.Prelude.{slice_index_or}
use mathlib.Core.Option as maybe
use native.Mathlib.Decide.{ℕ_discrete, dec_le}
use Rattle.atomic_table.specs.Table.{Splits, opening}
use Rattle.nm_chain.specs.declared.seats.views.View.{View}
use Rattle.nm_chain.specs.Spoken.{view, others_of, first_of, Each as EachEntry, Apart}
use Rattle.nm_chain.proofs.SpokenLemmas.{spoken_first, spoken_splits}
use Rattle.nm_chain.specs.Sequence.{InSequence}
use Rattle.nm_chain.proofs.BoxLemmas.{slot_low, owner_below}
use Rattle.nm_chain.specs.Chain.{IsIn, loose, queued}
use Rattle.nm_types.specs.Sizes.{Sizes}
use Rattle.nm_chain.specs.declared.table.table.Hand.TheVariants.{Away, Loose}
use Rattle.nm_chain.specs.declared.table.table.Look.TheVariants.{Fresh, TailElsewhere}
use Rattle.nm_chain.specs.declared.table.table.Entry.{Entry}
use Rattle.nm_chain.specs.Rule.{Load, Place, no_heads, rank_of, World, Below, Agrees, NotOf, Shows}
use Rattle.nm_chain.specs.Rule.{HasHome, Handed, QueuesHold, box_slot, BoxesHold}
use Rattle.nm_chain.specs.Rule.{AllInSequence, Rule, beginner, beginners, first_hands, first_view}
use Rattle.nm_chain.specs.Rule.{Opens}
use Rattle.nm_chain.specs.Update.{pick}
use Rattle.nm_chain.proofs.ListLemmas.{at_replicate}

false_true : false ≡ true → ⊥
false_true e = cc

module _ {A : Type 0} where
  none_some : (y : Load A) → None ≡ Some y → ⊥
  none_some y e = cc

-- no parcel was sent
turn_none : InSequence 0 [] [] [] []
turn_none = record {
  numbered = record {
    box_rises = tt;
    cell_rises = tt;
    box_sent = tt;
    cell_sent = tt;
    all =
        λ k low. absurd (omega arith);
    once = λ k h _. h;
  };
  in_turn = λ k h _ _. absurd h;
}

-- the hands at the start, one by one
pub first_long : (A : Type 0) (each r c k : ℕ) → length (first_hands {A = A} each r c k) ≡ k
first_long A each r c zero = refl
first_long A each r c (suc k) = ap suc (first_long A each r (suc c) k)

pub first_at : {A : Type 0} (each r c k d : ℕ) → d < k → slice_index_or (first_hands {A = A} each r c k) d Away
    ≡ pick (ℕ_discrete ((c + d) / each) r) Loose Away
first_at each r c zero d low = absurd (omega arith)
first_at each r c (suc k) zero low = let e : c ≡ c + 0 = omega arith in
    ap (λ u. pick (ℕ_discrete (u / each) r) Loose Away) e
first_at each r c (suc k) (suc d) low = let e : suc c + d ≡ c + suc d = omega arith in
    first_at each r (suc c) k d (omega arith)
    ∙ ap (λ u. pick (ℕ_discrete (u / each) r) Loose Away) e

module _ (A : Type 0) (n each : ℕ) (words : List ℕ) (o : Opens n each words) where
  -- the place of the cell c, whose owner is one of the ranks or not
  stand : (c : ℕ) → Dec (suc (c / each) ≤ n) → Place A
  stand c (yes _) = loose (c / each)
  stand c (no _) = queued (n + c / each)

  place : ℕ → Place A
  place c = stand c (dec_le (suc (c / each)) n)

  owned : (c : ℕ) → c < n * each → place c ≡ loose (c / each)
  unfolding place stand
  owned c low = by_cases (dec_le (suc (c / each)) n) where
    by_cases : (d : Dec (suc (c / each) ≤ n)) → stand c d ≡ loose (c / each)
    by_cases (yes _) = refl
    by_cases (no far) = absurd (far (owner_below n each c low))

  nowhere : (q c : ℕ) → q < 2 * n → ¬ IsIn q (place c)
  unfolding place stand
  nowhere q c few = by_cases (dec_le (suc (c / each)) n) where
    by_cases : (d : Dec (suc (c / each) ≤ n)) → ¬ IsIn q (stand c d)
    by_cases (yes _) i = i
    by_cases (no far) i = let i' : q ≡ n + c / each = i in absurd (far (omega arith))

  world : World A
  world = record {
    place = place;
    chain = λ _. [];
    heads = λ _. no_heads;
    put = λ _. [];
    got = λ _. [];
    put_box = λ _. [];
    got_box = λ _. [];
    waits = λ _ _. [];
    filling = λ _ _. false;
    emptying = λ _ _. None;
  }

  module _ (homes : List (maybe.Option (Load A))) (vacant : (c : ℕ) → c < n * each + 4 * (n * n)
      → HasHome homes c None) where
    laid : length homes ≡ n * each + 4 * (n * n) → QueuesHold n each world words homes
    unfolding world
    laid long = record {
      long = o.0;
      slots = long;
      queues = λ q few. let l = o.0 in record {
        once = tt;
        begins = (refl, o.1 q (omega arith));
        linked = tt;
        ends = o.1 (2 * n + q) (omega arith);
        each = tt;
        whole = λ c i. nowhere q c few i;
      };
      seen = λ q few some_seen. absurd (omega arith);
      cells = λ c low. subst (Handed n words homes c) (sym (owned c low))
          (vacant c (omega arith));
      paths = λ i j li lj. refl;
    }

    below_all : (c : ℕ) → Below n (world.place c)
    unfolding world place stand
    below_all c = by_cases (dec_le (suc (c / each)) n) where
      by_cases : (d : Dec (suc (c / each) ≤ n)) → Below n (stand c d)
      by_cases (yes low) = low
      by_cases (no far) = tt

    -- what the rank r has of the cell c
    shows : (r c : ℕ) → c < n * each → (d : Dec (c / each ≡ r))
        → Shows r (place c) (pick d Loose Away)
    shows r c low (yes e) = owned c low ∙ ap loose e
    shows r c low (no ne) = subst (NotOf r) (sym (owned c low)) (λ e. ne (sym e))

    knows : (r : ℕ) → Agrees n each world r (beginner n each r)
    unfolding world
    knows r = record {
      rank = refl;
      ranks = refl;
      per = refl;
      long = first_long A each r 0 (n * each);
      hands = λ c low. let e : 0 + c ≡ c = omega arith in
          subst (Shows r (place c)) (ap (λ u. pick (ℕ_discrete (u / each) r) Loose Away) (sym e)
          ∙ sym (first_at each r 0 (n * each) c low)) (shows r c low (ℕ_discrete (c / each) r));
      receive = refl;
      free = refl;
      put = refl;
      got = refl;
      put_box = refl;
      got_box = refl;
      outs = length-replicate n false;
      ins = length-replicate n None;
      filling = λ j low. get_or-replicate n j false false low;
      emptying = λ i low. get_or-replicate n i None None low;
    }

    boxes : (boxable : A → Bool) → BoxesHold boxable n each world words homes
    unfolding world
    boxes boxable i j li lj = record {
      path = refl;
      few = omega arith;
      room = λ e. absurd (false_true e);
      first = λ y e. absurd (none_some y e);
      full = λ t y at. absurd (maybe.some-ne-none y (sym at));
      free = λ d l. let k : ℕ = (0 + d) % 4 in let lk : k < 4 = mod_below (0 + d) 4 (omega arith) in
          let s = slot_low n each i j k li lj lk in let s₀ = s.0 in let s₁ = s.1 in
          let long = o.0 in
          (o.1 (4 * n + box_slot n each i j k) (omega arith), vacant (box_slot n each i j k) s₁);
    }

    turns : AllInSequence n world
    unfolding world
    turns i j li lj = turn_none

long_homes : {A : Type 0} (x : A) (k : ℕ) → length (map maybe.some (replicate k x)) ≡ k
long_homes x zero = refl
long_homes x (suc k) = ap suc (long_homes x k)

known_all : (A : Type 0) (n m r k : ℕ) → EachEntry (λ (e : Entry A). beginner n m (rank_of e) ≡ e) (beginners {A = A} n m r k)
known_all A n m r zero = tt
known_all A n m r (suc k) = (refl, known_all A n m (suc r) k)

above : (A : Type 0) (n m r q k : ℕ) → r < q → EachEntry (λ (e : Entry A). rank_of e ≢ r) (beginners {A = A} n m q k)
above A n m r q zero h = tt
above A n m r q (suc k) h = ((λ e. omega arith), above A n m r (suc q) k (omega arith))

apart_all : (A : Type 0) (n m r k : ℕ) → Apart rank_of (beginners {A = A} n m r k)
apart_all A n m r zero = tt
apart_all A n m r (suc k) = (above A n m r (suc r) k (omega arith), apart_all A n m (suc r) k)

module _ {A : Type 0} {boxable : A → Bool} where
  -- the rule, where each cell is loose
  pub opened : (key : Sizes) (words : List ℕ) → Opens key.ranks key.cells words
      → Rule boxable key (opening words (replicate (key.ranks * key.cells + 4 * (key.ranks * key.ranks)) None)
      (first_view key))
  opened key words o = let none : Load A = None in let n = key.ranks in
      let homes : List (maybe.Option (Load A)) =
      map maybe.some (replicate (key.ranks * key.cells + 4 * (key.ranks * key.ranks)) None) in
      let vacant = at_replicate none (key.ranks * key.cells + 4 * (key.ranks * key.ranks)) in record {
        ledger = beginner key.ranks key.cells;
        world = world A key.ranks key.cells words o;
        spoken = spoken_first rank_of (beginner key.ranks key.cells)
            (beginners key.ranks key.cells 0 key.ranks) (known_all A key.ranks key.cells 0 key.ranks)
            (apart_all A key.ranks key.cells 0 key.ranks);
        knows = λ r low. knows A key.ranks key.cells words o homes vacant r;
        ranked = below_all A key.ranks key.cells words o homes vacant;
        laid = laid A key.ranks key.cells words o homes vacant
            (long_homes none (key.ranks * key.cells + 4 * (key.ranks * key.ranks)));
        boxes = boxes A key.ranks key.cells words o homes vacant boxable;
        turns = turns A key.ranks key.cells words o homes vacant;
        told = λ r low. (
          (λ z. absurd (let z' : Fresh ≡ TailElsewhere = z in cc)),
          (λ z. absurd (let z' : Fresh ≡ TailElsewhere = z in cc)),
        );
      }

  -- the seat of the lowest rank is cut off
  pub parted : (key : Sizes) (id : ℕ) (v : View (Entry A)) (e : Entry A) (es : List (Entry A))
      → v ≡ view (e ∷ es) → Splits (Rule boxable key) id v (others_of v) (first_of v)
  parted key id v e es is = subst (λ u. Splits (Rule boxable key) id u (others_of u) (first_of u)) (sym is)
      (λ s R at. record {
        ledger = R.ledger;
        world = R.world;
        spoken =
            spoken_splits rank_of R.ledger s.views R.spoken id e es at;
        knows = R.knows;
        ranked =
            R.ranked;
        laid = R.laid;
        boxes = R.boxes;
        turns = R.turns;
        told = R.told;
      })

-- the same by the numbers that the program has
pub starts : {A : Type 0} {boxable : A → Bool} (key : Sizes) (words : List ℕ) (n each : ℕ) → n ≡ key.ranks → each ≡ key.cells
    → Opens n each words
    → Rule boxable key (opening words (replicate (n * each + 4 * (n * n)) None) (first_view key))
starts {A} {boxable} key words n each en em = subst (λ r. Opens r each words
    → Rule boxable key (opening words (replicate (r * each + 4 * (r * r)) None) (first_view key))) (sym en)
    (subst (λ m. Opens key.ranks m words
    → Rule boxable key (opening words (replicate (key.ranks * m + 4 * (key.ranks * key.ranks)) None)
    (first_view key))) (sym em) (opened key words))
