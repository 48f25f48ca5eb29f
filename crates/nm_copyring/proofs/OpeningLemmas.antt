-- The rule holds at the start.
use Rattle.std.proofs.Common.{false, true, ◌≡◌, ◌≢◌, ℕ, zero, suc, ◌+◌, ◌*◌, ◌%◌, ◌<◌, List, []}
use Rattle.std.proofs.Common.{◌∷◌, map, replicate, Some, None, sym, refl, ap}
use Rattle.std.proofs.Common.{subst, arith}
use Rattle.std.proofs.lemmas.Nat.{mod_below}
use Rattle.std.proofs.lemmas.List.{length-replicate, get_or-replicate}
use mathlib.Core.Option as maybe
use Rattle.atomic_table.specs.Table.{Splits, opening}
use Rattle.nm_chain.specs.declared.seats.views.View.{View}
use Rattle.nm_chain.specs.Spoken.{view, others_of, first_of, Each, Apart}
use Rattle.nm_chain.proofs.ListLemmas.{at_replicate}
use Rattle.nm_chain.proofs.SpokenLemmas.{spoken_first, spoken_splits}
use Rattle.nm_copyring.specs.declared.table.Lane.{Lane}
use Rattle.nm_copyring.specs.declared.table.Entry.{Entry}
use Rattle.nm_copyring.specs.Rule.{Load, rank_of, new_lane, lane, place, AreOf, Ring, Rule}
use Rattle.nm_copyring.specs.Rule.{newcomer, newcomers, first_view}
use Rattle.nm_copyring.proofs.ListLemmas.{place_low}
use Rattle.nm_copyring.proofs.RingLemmas.{fresh_free, fresh_full}

pub false_true : false ≡ true → ⊥
false_true e = cc

none_some : (y : Load) → None ≡ Some y → ⊥
none_some y e = cc

lane_new : (n j : ℕ) (r : ℕ) → lane (newcomer n r) j ≡ new_lane
lane_new zero j r = refl
lane_new (suc n) zero r = refl
lane_new (suc n) (suc j) r = lane_new n j r

pub map_replicate : {A B : Type 0} (f : A → B) (n : ℕ) (x : A)
    → map f (replicate n x) ≡ replicate n (f x)
map_replicate f zero x = refl
map_replicate f (suc n) x = ap (λ xs. f x ∷ xs) (map_replicate f n x)

known_all : (n r k : ℕ) → Each (λ e. newcomer n (rank_of e) ≡ e) (newcomers n r k)
known_all n r zero = tt
known_all n r (suc k) = (refl, known_all n (suc r) k)

above : (n r q k : ℕ) → r < q → Each (λ e. rank_of e ≢ r) (newcomers n q k)
above n r q zero h = tt
above n r q (suc k) h = ((λ e. omega arith), above n r (suc q) k (omega arith))

apart_all : (n r k : ℕ) → Apart rank_of (newcomers n r k)
apart_all n r zero = tt
apart_all n r (suc k) = (above n r (suc r) k (omega arith), apart_all n (suc r) k)

-- no piece was pushed
module _ (n : ℕ) where
  abbrev count : ℕ
  count = 4 * (n * n)

  abbrev no_homes : List (maybe.Option Load)
  no_homes = map maybe.some (replicate count None)

  ring_new : (i j : ℕ) → i < n → j < n
      → Ring n (replicate count 0) no_homes i j (newcomer n i) (newcomer n j)
  ring_new i j li lj = let none : Load = None in record {
    waits = [];
    places = rw (
      ap (λ (l : Lane). l.pushed) (lane_new n j i),
      ap (λ (l : Lane). l.pulled)
          (lane_new n i j),
    ) record {
      path = refl;
      few = omega arith;
      room = λ e. absurd (false_true e);
      first = λ y e. absurd (none_some y e);
      full = λ t y at. absurd (maybe.some-ne-none y (sym at));
      free = λ d l. let low = place_low n i j ((0 + d) % 4) li lj (mod_below (0 + d) 4 (omega arith))
          in (
            get_or-replicate count (place n i j ((0 + d) % 4)) 0 0 low,
            at_replicate none count (place n i j ((0 + d) % 4)) low,
          );
    };
    numbered = subst (AreOf i) (sym (ap (λ (l : Lane). l.pushed) (lane_new n j i)))
        (λ k p at. absurd (maybe.some-ne-none p (sym at)));
  }

  pub opened : Rule n (opening (replicate count 0) (replicate count None) (first_view n))
  opened = record {
    ledger = newcomer n;
    spoken = spoken_first rank_of (newcomer n) (newcomers n 0 n) (known_all n 0 n)
        (apart_all n 0 n);
    knows = λ r low. (refl, refl, length-replicate n new_lane);
    long = length-replicate count 0;
    rings = ring_new;
    looks = λ r low j lj. ((λ is. absurd (fresh_free j is)), (λ is. absurd (fresh_full j is)));
  }

-- the seat of the lowest rank is cut off
pub parted : (n id : ℕ) (v : View Entry) (e : Entry) (es : List Entry) → v ≡ view (e ∷ es)
    → Splits (Rule n) id v (others_of v) (first_of v)
parted n id v e es is = subst (λ u. Splits (Rule n) id u (others_of u) (first_of u)) (sym is)
    (λ s R at. record {
      ledger = R.ledger;
      spoken = spoken_splits rank_of R.ledger s.views R.spoken id e es at;
      knows = R.knows;
      long = R.long;
      rings = R.rings;
      looks = R.looks;
    })
