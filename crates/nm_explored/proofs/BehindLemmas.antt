-- A deed and a message that comes may be swapped.
use Rattle.std.proofs.Common.{◌≡◌, ℕ, ◌≤◌, ◌==◌, ◌||◌, not, Bool, true, false, cond, Option, Some, None, List, [], ◌∷◌, ◌++◌}
use Rattle.std.proofs.Common.{refl, sym, ◌∙◌, ap, arith}
use Rattle.std.specs.Prelude.{count_by}
use Rattle.std.specs.List.{find, list_any}
use Rattle.std.proofs.lemmas.Bool.{false≢true}
use Rattle.std.proofs.lemmas.List.Folds.{list_any-append}
use Rattle.std.proofs.Math.Bool.{or-false}
use Rattle.nm_types.specs.declared.messages.Arrival.{Arrival}
use Rattle.nm_history.specs.Matching.{is_of_message}
use Rattle.nm_history.specs.Selection.{matches}
use Rattle.nm_outcomes.specs.declared.spots.deeds.Deed.{Deed}
use Rattle.nm_outcomes.specs.declared.spots.deeds.Deed.TheVariants as deed
use Rattle.nm_outcomes.specs.declared.spots.deeds.Receive.{Receive}
use Rattle.nm_outcomes.specs.Looks.{is_receive_by}
use Rattle.nm_outcomes.specs.RankStates.{Spot, arrived_at, arrived_by, is_claim_by, is_gone_at, is_that, receive_of_spot}
use Rattle.nm_outcomes.specs.RankStates.{spot_after, with_arrival, with_pair, without_number}
use Rattle.nm_explored.specs.Orderly.{IsOrderly, came_of, is_rare_by}
use Rattle.nm_explored.proofs.OrderlyLemmas.{IsNewDeed, not_gone}
use Rattle.nm_explored.proofs.PostLemmas.{arrives_at, both_left, find_still, pair_for, post_behind}

-- a deed that changes no queue
abbrev pub is_plain : Deed → Bool
is_plain (deed.Send to n tag ctx len how line) = true
is_plain (deed.Ran line r) = true
is_plain _ = false

-- such a deed and a message that comes may be swapped
swapped : (x : Spot) (a : Arrival) (d : Deed) → is_claim_by a.env.from a.n d ≡ false →
    (let s = arrived_by (record x { deeds = x.deeds ++ d ∷ [] }) a (receive_of_spot x a) in
    record s { came = with_arrival a s.came })
    ≡ (let s = arrived_at x a in record s { deeds = s.deeds ++ d ∷ [] })
swapped x a d other = by_receive (receive_of_spot x a)
  where
    same : list_any (is_claim_by a.env.from a.n) (x.deeds ++ d ∷ []) ≡ list_any (is_claim_by a.env.from a.n) x.deeds
    same =
        list_any-append (is_claim_by a.env.from a.n) x.deeds (d ∷ [])
        ∙ ap (λ (b : Bool). list_any (is_claim_by a.env.from a.n) x.deeds || (b || false)) other
        ∙ or-false (list_any (is_claim_by a.env.from a.n) x.deeds)

    by_gone : (b : Bool) →
        (let s = cond b (record x { deeds = x.deeds ++ d ∷ [] })
        (record x { deeds = x.deeds ++ d ∷ []; free = x.free ++ a ∷ [] }) in record s { came = with_arrival a s.came })
        ≡ (let s = (let s = cond b x (record x { free = x.free ++ a ∷ [] }) in
        record s { came = with_arrival a s.came }) in record s { deeds = s.deeds ++ d ∷ [] })
    by_gone true = refl
    by_gone false = refl

    by_receive : (o : Option Receive) →
        (let s = arrived_by (record x { deeds = x.deeds ++ d ∷ [] }) a o in record s { came = with_arrival a s.came })
        ≡ (let s = (let s = arrived_by x a o in record s { came = with_arrival a s.came }) in
        record s { deeds = s.deeds ++ d ∷ [] })
    by_receive (Some r) = refl
    by_receive None =
        ap (λ (b : Bool). let s = cond (list_any (is_of_message a.env.from a.n) x.pairs || b
        || list_any (is_that a.env.from a.n) x.withdrawn) (record x { deeds = x.deeds ++ d ∷ [] })
        (record x { deeds = x.deeds ++ d ∷ []; free = x.free ++ a ∷ [] }) in record s { came = with_arrival a s.came })
        same
        ∙ by_gone (is_gone_at x a.env.from a.n)

pub arrive_behind : (x : Spot) (a : Arrival) (d : Deed) → is_plain d ≡ true →
    arrived_at (spot_after x d) a ≡ spot_after (arrived_at x a) d
arrive_behind x a (deed.Send to n tag ctx len how line) plain = swapped x a (deed.Send to n tag ctx len how line) refl
arrive_behind x a (deed.Ran line r) plain = swapped x a (deed.Ran line r) refl
arrive_behind x a (deed.Post r line) plain = absurd (false≢true plain)
arrive_behind x a (deed.Match number from n cap line) plain = absurd (false≢true plain)
arrive_behind x a (deed.Cancel number done) plain = absurd (false≢true plain)
arrive_behind x a (deed.Recall to n) plain = absurd (false≢true plain)
arrive_behind x a (deed.Claim from n line) plain = absurd (false≢true plain)

-- a cancel is of another receive than the one that takes a message
abbrev pub IsKept : Spot → Arrival → Deed → Type 0
IsKept x a (deed.Cancel number done) =
    (o : Receive) × (receive_of_spot x a ≡ Some o) × ((number == o.number) ≡ false)
IsKept x a _ = Unit {0}

-- without another receive it goes to the same one
pub still_to : (x : Spot) (a : Arrival) (o : Receive) → receive_of_spot x a ≡ Some o → (number : ℕ) →
    (number == o.number) ≡ false →
    find (λ (r : Receive). matches r.from r.tag r.ctx a.env) (without_number number x.receives) ≡ Some o
still_to x a o to number apart =
    find_still (λ (r : Receive). matches r.from r.tag r.ctx a.env) (λ (r : Receive). not (number == r.number))
    x.receives o to (ap (λ (b : Bool). not b) apart)

-- such a cancel and a message that comes may be swapped
cancel_behind : (x : Spot) (a : Arrival) (o : Receive) → receive_of_spot x a ≡ Some o → (number : ℕ) →
    (number == o.number) ≡ false → (done : Bool) →
    arrived_at (spot_after x (deed.Cancel number done)) a ≡ spot_after (arrived_at x a) (deed.Cancel number done)
cancel_behind x a o to number apart false =
    arrives_at a (spot_after x (deed.Cancel number false)) o to
    ∙ sym (ap (λ (y : Spot). spot_after y (deed.Cancel number false)) (arrives_at a x o to))
cancel_behind x a o to number apart true =
    arrives_at a (spot_after x (deed.Cancel number true)) o (still_to x a o to number apart)
    ∙ ap (λ (rs : List Receive). record {
      deeds = x.deeds ++ deed.Cancel number true ∷ [];
      receives = rs;
      free = x.free;
      pairs = with_pair (pair_for o a) x.pairs;
      came = with_arrival a x.came;
      withdrawn = x.withdrawn;
    }) (both_left o.number number x.receives)
    ∙ sym (ap (λ (y : Spot). spot_after y (deed.Cancel number true)) (arrives_at a x o to))

-- a deed of such a rank and a message that comes may be swapped
pub deed_behind : (x : Spot) → IsOrderly x → (a : Arrival) → a.n ≡ came_of x a.env.from → (d : Deed) →
    is_rare_by d ≡ false → IsNewDeed x d → IsKept x a d →
    arrived_at (spot_after x d) a ≡ spot_after (arrived_at x a) d
deed_behind x is a new (deed.Send to n tag ctx len how line) common number kept =
    arrive_behind x a (deed.Send to n tag ctx len how line) refl
deed_behind x is a new (deed.Ran line r) common number kept = arrive_behind x a (deed.Ran line r) refl
deed_behind x is a new (deed.Post r line) common number kept =
    post_behind x r line a (is.opens r.number started) (is.paired r.number started) (is.cancelled r.number started)
    (is.free a.env.from a.n past) (not_gone x is a.env.from a.n past) is.alone
  where
    started : count_by is_receive_by x.deeds ≤ r.number
    started = omega (arith, number)

    past : came_of x a.env.from ≤ a.n
    past = omega (arith, new)
deed_behind x is a new (deed.Cancel number done) common number' kept =
    cancel_behind x a kept.0 kept.1 number kept.2 done
deed_behind x is a new (deed.Match number from n cap line) common number' kept = absurd (false≢true (sym common))
deed_behind x is a new (deed.Recall to n) common number kept = absurd (false≢true (sym common))
deed_behind x is a new (deed.Claim from n line) common number kept = absurd (false≢true (sym common))
