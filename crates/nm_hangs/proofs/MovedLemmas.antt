-- States of a rank that go on alike do so after the same move.
use Rattle.std.proofs.Common.{◌≡◌, ℕ, ◌||◌, Bool, true, false, cond, Option, Some, None, List, [], ◌∷◌, ◌++◌, map}
use Rattle.std.proofs.Common.{refl, sym, ◌∙◌, ap, subst}
use Rattle.std.specs.List.{find, list_any}
use Rattle.std.proofs.lemmas.List.{map-append}
use Rattle.nm_types.specs.declared.messages.Arrival.{Arrival}
use Rattle.nm_types.specs.declared.scripts.Line.{Line}
use Rattle.nm_types.proofs.ListLemmas.{find_nothing}
use Rattle.nm_types.proofs.NumberLemmas.{same_number}
use Rattle.nm_history.specs.declared.plain.Pair.{Pair}
use Rattle.nm_history.specs.Matching.{is_of_message, is_of_receive}
use Rattle.nm_match.specs.Deeds.{is_message}
use Rattle.nm_lookups.specs.Queues.{without_message}
use Rattle.nm_outcomes.specs.Places.{or_else}
use Rattle.nm_outcomes.proofs.ListLemmas.{any-placed_new, find-placed_new}
use Rattle.nm_outcomes.specs.declared.spots.deeds.Deed.{Deed}
use Rattle.nm_outcomes.specs.declared.spots.deeds.Deed.TheVariants as deed
use Rattle.nm_outcomes.specs.declared.spots.deeds.Receive.{Receive}
use Rattle.nm_outcomes.specs.RankStates.{Spot, arrived_at, arrived_by, is_closed_at, is_gone_at, message_of_spot}
use Rattle.nm_outcomes.specs.RankStates.{posted_at, receive_of_spot, spot_after, taken_at, with_arrival, with_pair, without_number}
use Rattle.nm_explored.specs.declared.choices.moves.Move.{Move}
use Rattle.nm_explored.specs.declared.choices.moves.Move.TheVariants as move
use Rattle.nm_explored.specs.Moves.{IsChoiceOf, moved_at}
use Rattle.nm_hangs.specs.Alike.{IsAlike, IsAsked, plain}
use Rattle.nm_hangs.proofs.AlikeLemmas.{gone_same, off_same}
use Rattle.nm_hangs.proofs.AskedLemmas.{asked_before, next_deed}

-- a state that has other deeds and pairs
abbrev swapped : Spot → List Deed → List Pair → Spot
swapped x ds ps = record x { deeds = ds; pairs = ps }

-- one pair more
module _ (p : Pair) (number : ℕ) (xs : List Pair) where
  pub found_more : find (is_of_receive number) (with_pair p xs)
      ≡ or_else (find (is_of_receive number) xs) (find (is_of_receive number) (p ∷ []))
  found_more = find-placed_new (is_of_receive p.number) (is_of_receive number) _ p xs new
    where
      new : is_of_receive number p ≡ true → list_any (is_of_receive p.number) xs ≡ false →
          find (is_of_receive number) xs ≡ None
      new passes none =
          find_nothing (is_of_receive number) xs
          (subst (λ (k : ℕ). list_any (is_of_receive k) xs ≡ false) (same_number p.number number passes) none)

module _ (lines : List Line) (i : ℕ) (x : Spot) (ds : List Deed) (ps : List Pair)
    (is : IsAlike lines i x (swapped x ds ps))
  where
    abbrev y : Spot
    y = swapped x ds ps

    pairs_taken : (p : Pair) (from n : ℕ) →
        list_any (is_of_message from n) (with_pair p x.pairs) ≡ list_any (is_of_message from n) (with_pair p ps)
    pairs_taken p from n =
        any-placed_new (is_of_receive p.number) (is_of_message from n) _ p x.pairs
        ∙ ap (λ (b : Bool). b || list_any (is_of_message from n) (p ∷ [])) (is.taken from n)
        ∙ sym (any-placed_new (is_of_receive p.number) (is_of_message from n) _ p ps)

    pairs_paired : (p : Pair) (number : ℕ) →
        list_any (is_of_receive number) (with_pair p x.pairs) ≡ list_any (is_of_receive number) (with_pair p ps)
    pairs_paired p number =
        any-placed_new (is_of_receive p.number) (is_of_receive number) _ p x.pairs
        ∙ ap (λ (b : Bool). b || list_any (is_of_receive number) (p ∷ [])) (is.paired number)
        ∙ sym (any-placed_new (is_of_receive p.number) (is_of_receive number) _ p ps)

    pairs_asked : (p : Pair) (number : ℕ) → IsAsked lines i x.deeds number →
        find (is_of_receive number) (with_pair p x.pairs) ≡ find (is_of_receive number) (with_pair p ps)
    pairs_asked p number asked =
        found_more p number x.pairs
        ∙ ap (λ (o : Option Pair). or_else o (find (is_of_receive number) (p ∷ []))) (is.asked number asked)
        ∙ sym (found_more p number ps)

    -- a message came
    arrived_alike : (a : Arrival) → IsAlike lines i (arrived_at x a) (arrived_at y a)
    arrived_alike a = by_receive (receive_of_spot x a)
      where
        by_gone : (b : Bool) → IsAlike lines i
            (let s = cond b x (record x { free = x.free ++ a ∷ [] }) in record s { came = with_arrival a s.came })
            (let s = cond b y (record y { free = y.free ++ a ∷ [] }) in record s { came = with_arrival a s.came })
        by_gone true = record {
          deeds = is.deeds;
          receives = refl;
          free = refl;
          came = refl;
          withdrawn = refl;
          taken = is.taken;
          paired = is.paired;
          asked = is.asked;
        }
        by_gone false = record {
          deeds = is.deeds;
          receives = refl;
          free = refl;
          came = refl;
          withdrawn = refl;
          taken = is.taken;
          paired = is.paired;
          asked = is.asked;
        }

        by_receive : (o : Option Receive) → IsAlike lines i
            (let s = arrived_by x a o in record s { came = with_arrival a s.came })
            (let s = arrived_by y a o in record s { came = with_arrival a s.came })
        by_receive None =
            subst (λ (b : Bool). IsAlike lines i
            (let s = cond (is_gone_at x a.env.from a.n) x (record x { free = x.free ++ a ∷ [] }) in
            record s { came = with_arrival a s.came })
            (let s = cond b y (record y { free = y.free ++ a ∷ [] }) in record s { came = with_arrival a s.came }))
            (gone_same lines i x y is a.env.from a.n) (by_gone (is_gone_at x a.env.from a.n))
        by_receive (Some r) = record {
          deeds = is.deeds;
          receives = refl;
          free = refl;
          came = refl;
          withdrawn = refl;
          taken = pairs_taken (record { number = r.number; cap = r.cap; arrival = a });
          paired = pairs_paired (record { number = r.number; cap = r.cap; arrival = a });
          asked = pairs_asked (record { number = r.number; cap = r.cap; arrival = a });
        }

    -- the rank did something
    module _ (d : Deed) (before : (number : ℕ) → IsAsked lines i (x.deeds ++ d ∷ []) number →
        IsAsked lines i x.deeds number)
      where
        done : map plain (x.deeds ++ d ∷ []) ≡ map plain (ds ++ d ∷ [])
        done =
            map-append plain x.deeds (d ∷ []) ∙ ap (λ (es : List Deed). es ++ plain d ∷ []) is.deeds
            ∙ sym (map-append plain ds (d ∷ []))

        -- with the pairs that were there
        as_paired : (xr : List Receive) (xf : List Arrival) → IsAlike lines i
            (record x { deeds = x.deeds ++ d ∷ []; receives = xr; free = xf })
            (record y { deeds = ds ++ d ∷ []; receives = xr; free = xf })
        as_paired xr xf = record {
          deeds = done;
          receives = refl;
          free = refl;
          came = refl;
          withdrawn = refl;
          taken = is.taken;
          paired = is.paired;
          asked = λ number asked. is.asked number (before number asked);
        }

        -- with one more
        one_more : (p : Pair) (xf : List Arrival) → IsAlike lines i
            (record x { deeds = x.deeds ++ d ∷ []; pairs = with_pair p x.pairs; free = xf })
            (record y { deeds = ds ++ d ∷ []; pairs = with_pair p ps; free = xf })
        one_more p xf = record {
          deeds = done;
          receives = refl;
          free = refl;
          came = refl;
          withdrawn = refl;
          taken = pairs_taken p;
          paired = pairs_paired p;
          asked = λ number asked. pairs_asked p number (before number asked);
        }

    closed_same : (number : ℕ) → is_closed_at x number ≡ is_closed_at y number
    closed_same number = λ k. is.paired number k || off_same lines i x y is number k

    deed_alike : (d : Deed) → ((number : ℕ) → IsAsked lines i (x.deeds ++ d ∷ []) number →
        IsAsked lines i x.deeds number) → IsAlike lines i (spot_after x d) (spot_after y d)
    deed_alike (deed.Post r line) before = by_message (message_of_spot x r)
      where
        by_closed : (b : Bool) → IsAlike lines i
            (let s = cond b x (record x { receives = x.receives ++ r ∷ [] }) in
            record s { deeds = s.deeds ++ deed.Post r line ∷ [] })
            (let s = cond b y (record y { receives = y.receives ++ r ∷ [] }) in
            record s { deeds = s.deeds ++ deed.Post r line ∷ [] })
        by_closed true = as_paired (deed.Post r line) before x.receives x.free
        by_closed false = as_paired (deed.Post r line) before (x.receives ++ r ∷ []) x.free

        by_message : (o : Option Arrival) → IsAlike lines i
            (let s = posted_at x r o in record s { deeds = s.deeds ++ deed.Post r line ∷ [] })
            (let s = posted_at y r o in record s { deeds = s.deeds ++ deed.Post r line ∷ [] })
        by_message None =
            subst (λ (b : Bool). IsAlike lines i
            (let s = cond (is_closed_at x r.number) x (record x { receives = x.receives ++ r ∷ [] }) in
            record s { deeds = s.deeds ++ deed.Post r line ∷ [] })
            (let s = cond b y (record y { receives = y.receives ++ r ∷ [] }) in
            record s { deeds = s.deeds ++ deed.Post r line ∷ [] })) (closed_same r.number)
            (by_closed (is_closed_at x r.number))
        by_message (Some a) =
            one_more (deed.Post r line) before (record { number = r.number; cap = r.cap; arrival = a })
            (without_message a.env.from a.n x.free)
    deed_alike (deed.Match number from n cap line) before = by_message (find (is_message from n) x.came)
      where
        by_message : (o : Option Arrival) → IsAlike lines i
            (let s = taken_at x number cap from n o in
            record s { deeds = s.deeds ++ deed.Match number from n cap line ∷ [] })
            (let s = taken_at y number cap from n o in
            record s { deeds = s.deeds ++ deed.Match number from n cap line ∷ [] })
        by_message None =
            as_paired (deed.Match number from n cap line) before x.receives (without_message from n x.free)
        by_message (Some a) =
            one_more (deed.Match number from n cap line) before (record { number = number; cap = cap; arrival = a })
            (without_message from n x.free)
    deed_alike (deed.Cancel number true) before =
        as_paired (deed.Cancel number true) before (without_number number x.receives) x.free
    deed_alike (deed.Cancel number false) before = as_paired (deed.Cancel number false) before x.receives x.free
    deed_alike (deed.Claim from n line) before =
        as_paired (deed.Claim from n line) before x.receives (without_message from n x.free)
    deed_alike (deed.Send to n tag ctx len how line) before =
        as_paired (deed.Send to n tag ctx len how line) before x.receives x.free
    deed_alike (deed.Recall to n) before = as_paired (deed.Recall to n) before x.receives x.free
    deed_alike (deed.Ran line r) before = as_paired (deed.Ran line r) before x.receives x.free

    swapped_alike : (eager ranks : ℕ) (v : ℕ → Option Spot) (m : Move) → IsChoiceOf eager ranks lines v i x m →
        IsAlike lines i (moved_at x m) (moved_at y m)
    swapped_alike eager ranks v (move.Act d) act =
        deed_alike d (asked_before lines i x act.line d (next_deed eager lines v i x d act) act.place)
    swapped_alike eager ranks v (move.Arrive a) next = arrived_alike a
    swapped_alike eager ranks v (move.Withdraw m) recalled = record {
      deeds = is.deeds;
      receives = refl;
      free = refl;
      came = refl;
      withdrawn = refl;
      taken = is.taken;
      paired = is.paired;
      asked = is.asked;
    }

-- a state that goes on as another one has its own deeds and pairs alone
module _ (lines : List Line) (i : ℕ) (x y : Spot) (is : IsAlike lines i x y) where
  same : swapped x y.deeds y.pairs ≡ y
  same = λ k. record {
    deeds = y.deeds;
    receives = is.receives k;
    free = is.free k;
    pairs = y.pairs;
    came = is.came k;
    withdrawn = is.withdrawn k;
  }

  own : IsAlike lines i x (swapped x y.deeds y.pairs)
  own = record {
    deeds = is.deeds;
    receives = refl;
    free = refl;
    came = refl;
    withdrawn = refl;
    taken = is.taken;
    paired = is.paired;
    asked = is.asked;
  }

  -- .. after a message came
  pub came_alike : (a : Arrival) → IsAlike lines i (arrived_at x a) (arrived_at y a)
  came_alike a =
      subst (λ (z : Spot). IsAlike lines i (arrived_at x a) (arrived_at z a)) same
      (arrived_alike lines i x y.deeds y.pairs own a)

  -- .. and after each move
  pub moved_alike : (eager ranks : ℕ) (v : ℕ → Option Spot) (m : Move) → IsChoiceOf eager ranks lines v i x m →
      IsAlike lines i (moved_at x m) (moved_at y m)
  moved_alike eager ranks v m choice =
      subst (λ (z : Spot). IsAlike lines i (moved_at x m) (moved_at z m)) same
      (swapped_alike lines i x y.deeds y.pairs own eager ranks v m choice)
