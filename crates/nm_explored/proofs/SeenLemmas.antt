-- What the other ranks look at of a rank stays so, or grows.
use Rattle.std.proofs.Common.{◌≡◌, inl, inr, ℕ, ◌==◌, ◌&&◌, ◌||◌, not, Bool, true, false, cond, Option, Some, None}
use Rattle.std.proofs.Common.{List, [], ◌∷◌, ◌++◌, refl, sym, ◌∙◌, ap, subst}
use Rattle.std.specs.Prelude.{if◌then◌else◌, count_by, nat_lt, option_and_then, option_map}
use Rattle.std.specs.List.{filter, find, list_any, slice_get, slice_set}
use Rattle.std.specs.Option.{option_map_or}
use Rattle.std.proofs.lemmas.Bool.{false≢true}
use Rattle.std.proofs.lemmas.List.Elements.{filter-append}
use Rattle.std.proofs.lemmas.List.Folds.{list_any-append}
use Rattle.nm_types.specs.declared.messages.Arrival.{Arrival}
use Rattle.nm_types.specs.declared.scripts.Command.{Command}
use Rattle.nm_types.specs.declared.scripts.Command.TheVariants as command
use Rattle.nm_types.specs.declared.scripts.Line.{Line}
use Rattle.nm_history.specs.declared.plain.Pair.{Pair}
use Rattle.nm_history.specs.Completion.{Request}
use Rattle.nm_history.specs.Completion.Request.{Receiving, Sending}
use Rattle.nm_history.specs.Matching.{is_of_message, is_of_receive}
use Rattle.nm_match.specs.Deeds.{is_message}
use Rattle.nm_lookups.specs.Queues.{without_message}
use Rattle.nm_types.proofs.ListLemmas.{get_before, get_set_other, get_set_same, place_below}
use Rattle.nm_types.proofs.NumberLemmas.{differ, same_number}
use Rattle.nm_types.proofs.OptionLemmas.{mapped_some, no_some, same_some}
use Rattle.nm_types.proofs.TruthLemmas.{and_left, and_right, both, or_left, or_right}
use Rattle.nm_outcomes.specs.declared.spots.deeds.Deed.{Deed}
use Rattle.nm_outcomes.specs.declared.spots.deeds.Deed.TheVariants as deed
use Rattle.nm_outcomes.specs.declared.spots.deeds.Receive.{Receive}
use Rattle.nm_outcomes.specs.declared.spots.deeds.Reply.{Reply}
use Rattle.nm_outcomes.specs.declared.spots.deeds.Reply.TheVariants as reply
use Rattle.nm_outcomes.specs.Looks.{is_recall_by, is_send_by, is_unasked_by, live_in}
use Rattle.nm_outcomes.specs.RankStates.{Spot, arrived_at, arrived_by, is_cancel_by, is_claim_by, is_closed_at, is_gone_at}
use Rattle.nm_outcomes.specs.RankStates.{is_that, message_of_spot, posted_at, receive_of_spot, spot_after, taken_at}
use Rattle.nm_outcomes.specs.RankStates.{with_arrival, without_number}
use Rattle.nm_outcomes.proofs.ListLemmas.{any-placed_new}
use Rattle.nm_outcomes.proofs.SpotLemmas.{pairs_with}
use Rattle.nm_explored.specs.Successors.{answer_in, arrival_by, got_by, result_in, sent_at, shown_at}
use Rattle.nm_explored.specs.Moves.{IsAct, IsDeedOf, IsNextMessage}

-- truth values that grow
pub and_more : (a b x y : Bool) → (a ≡ true → x ≡ true) → (b ≡ true → y ≡ true) → (a && b) ≡ true → (x && y) ≡ true
and_more a b x y f g so = both x y (f (and_left a b so)) (g (and_right a b so))

pub or_more : (a b x y : Bool) → (a ≡ true → x ≡ true) → (b ≡ true → y ≡ true) → (a || b) ≡ true → (x || y) ≡ true
or_more true b x y f g so = or_left x y (f refl)
or_more false b x y f g so = or_right x y (g so)

or_of_three : (a b c x y : Bool) → (a ≡ true → x ≡ true) → (b ≡ true → y ≡ true) → (a || b || c) ≡ true →
    (x || y || c) ≡ true
or_of_three true b c x y f g so = rw (f refl) refl
or_of_three false true c x y f g so = rw (g refl) (first x)
  where
    first : (x : Bool) → (x || true || c) ≡ true
    first true = refl
    first false = refl
or_of_three false false true x y f g so = last x y
  where
    last : (x y : Bool) → (x || y || true) ≡ true
    last true y = refl
    last false true = refl
    last false false = refl
or_of_three false false false x y f g so = absurd (false≢true so)

not_not : (a x : Bool) → (a ≡ true → x ≡ true) → not (not a) ≡ true → not (not x) ≡ true
not_not true x f so = rw (f refl) refl
not_not false x f so = absurd (false≢true so)

-- what the other ranks look at of a rank in one state is so in the other one
pub record IsSeenSo (x y : Spot) : Type 0 where
  pub sends : (to k : ℕ) (d : Deed) → slice_get (filter (is_send_by to) x.deeds) k ≡ Some d →
      slice_get (filter (is_send_by to) y.deeds) k ≡ Some d
  pub taken : (from n : ℕ) → list_any (is_of_message from n) x.pairs ≡ true →
      list_any (is_of_message from n) y.pairs ≡ true
  pub came : (from n : ℕ) → list_any (is_message from n) x.came ≡ true → list_any (is_message from n) y.came ≡ true
  pub gone : (from n : ℕ) → is_gone_at x from n ≡ true → is_gone_at y from n ≡ true
  pub withdrawn : (from n : ℕ) → list_any (is_that from n) x.withdrawn ≡ list_any (is_that from n) y.withdrawn

pub seen_self : (x : Spot) → IsSeenSo x x
seen_self x = record {
  sends = λ to k d here. here;
  taken = λ from n so. so;
  came = λ from n so. so;
  gone = λ from n so. so;
  withdrawn = λ from n. refl;
}

-- a state with other deeds, queues, messages that came, and one pair more
abbrev pub grown_to : Spot → List Deed → List Receive → List Arrival → Option Pair → List Arrival → Spot
grown_to x deeds receives free o came =
    record {
      deeds = deeds;
      receives = receives;
      free = free;
      pairs = pairs_with o x.pairs;
      came = came;
      withdrawn = x.withdrawn;
    }

any_pairs : (test : Pair → Bool) (o : Option Pair) (pairs : List Pair) → list_any test pairs ≡ true →
    list_any test (pairs_with o pairs) ≡ true
any_pairs test None pairs so = so
any_pairs test (Some pair) pairs so =
    any-placed_new (is_of_receive pair.number) test _ pair pairs
    ∙ or_left (list_any test pairs) (list_any test (pair ∷ [])) so

seen_grown : (x : Spot) (deeds : List Deed) (receives : List Receive) (free : List Arrival) (o : Option Pair)
    (came : List Arrival) →
    ((to k : ℕ) (d : Deed) → slice_get (filter (is_send_by to) x.deeds) k ≡ Some d →
    slice_get (filter (is_send_by to) deeds) k ≡ Some d) →
    ((from n : ℕ) → list_any (is_claim_by from n) x.deeds ≡ true → list_any (is_claim_by from n) deeds ≡ true) →
    ((from n : ℕ) → list_any (is_message from n) x.came ≡ true → list_any (is_message from n) came ≡ true) →
    IsSeenSo x (grown_to x deeds receives free o came)
seen_grown x deeds receives free o came sends claims comes = record {
  sends = sends;
  taken = λ from n so. any_pairs (is_of_message from n) o x.pairs so;
  came = comes;
  gone = λ from n so. or_of_three (list_any (is_of_message from n) x.pairs) (list_any (is_claim_by from n) x.deeds)
      (list_any (is_that from n) x.withdrawn) (list_any (is_of_message from n) (pairs_with o x.pairs))
      (list_any (is_claim_by from n) deeds) (any_pairs (is_of_message from n) o x.pairs) (claims from n) so;
  withdrawn = λ from n. refl;
}

-- a state after a deed
pub after_deed : (x : Spot) (d : Deed) → (receives : List Receive) × (free : List Arrival) × (o : Option Pair)
    × (spot_after x d ≡ grown_to x (x.deeds ++ d ∷ []) receives free o x.came)
after_deed x (deed.Post r line) = by_message (message_of_spot x r)
  where
    by_closed : (b : Bool) → (receives : List Receive) × (free : List Arrival) × (o : Option Pair)
        × ((let s = cond b x (record x { receives = x.receives ++ r ∷ [] }) in
        record s { deeds = s.deeds ++ deed.Post r line ∷ [] })
        ≡ grown_to x (x.deeds ++ deed.Post r line ∷ []) receives free o x.came)
    by_closed true = (x.receives, x.free, None, refl)
    by_closed false = (x.receives ++ r ∷ [], x.free, None, refl)

    by_message : (m : Option Arrival) → (receives : List Receive) × (free : List Arrival) × (o : Option Pair)
        × ((let s = posted_at x r m in record s { deeds = s.deeds ++ deed.Post r line ∷ [] })
        ≡ grown_to x (x.deeds ++ deed.Post r line ∷ []) receives free o x.came)
    by_message None = by_closed (is_closed_at x r.number)
    by_message (Some a) = (
      x.receives,
      without_message a.env.from a.n x.free,
      Some (record { number = r.number; cap = r.cap; arrival = a }),
      refl,
    )
after_deed x (deed.Match number from n cap line) = by_message (find (is_message from n) x.came)
  where
    by_message : (m : Option Arrival) → (receives : List Receive) × (free : List Arrival) × (o : Option Pair)
        × ((let s = taken_at x number cap from n m in
        record s { deeds = s.deeds ++ deed.Match number from n cap line ∷ [] })
        ≡ grown_to x (x.deeds ++ deed.Match number from n cap line ∷ []) receives free o x.came)
    by_message None = (x.receives, without_message from n x.free, None, refl)
    by_message (Some a) = (
      x.receives,
      without_message from n x.free,
      Some (record { number = number; cap = cap; arrival = a }),
      refl,
    )
after_deed x (deed.Cancel number true) = (without_number number x.receives, x.free, None, refl)
after_deed x (deed.Cancel number false) = (x.receives, x.free, None, refl)
after_deed x (deed.Claim from n line) = (x.receives, without_message from n x.free, None, refl)
after_deed x (deed.Send to n tag ctx len how line) = (x.receives, x.free, None, refl)
after_deed x (deed.Recall to n) = (x.receives, x.free, None, refl)
after_deed x (deed.Ran line r) = (x.receives, x.free, None, refl)

-- .. and after a message came
pub after_arrival : (x : Spot) (a : Arrival) → (receives : List Receive) × (free : List Arrival) × (o : Option Pair)
    × (arrived_at x a ≡ grown_to x x.deeds receives free o (with_arrival a x.came))
after_arrival x a = by_receive (receive_of_spot x a)
  where
    by_gone : (b : Bool) → (receives : List Receive) × (free : List Arrival) × (o : Option Pair)
        × ((let s = cond b x (record x { free = x.free ++ a ∷ [] }) in record s { came = with_arrival a s.came })
        ≡ grown_to x x.deeds receives free o (with_arrival a x.came))
    by_gone true = (x.receives, x.free, None, refl)
    by_gone false = (x.receives, x.free ++ a ∷ [], None, refl)

    by_receive : (r : Option Receive) → (receives : List Receive) × (free : List Arrival) × (o : Option Pair)
        × ((let s = arrived_by x a r in record s { came = with_arrival a s.came })
        ≡ grown_to x x.deeds receives free o (with_arrival a x.came))
    by_receive None = by_gone (is_gone_at x a.env.from a.n)
    by_receive (Some r) = (
      without_number r.number x.receives,
      x.free,
      Some (record { number = r.number; cap = r.cap; arrival = a }),
      refl,
    )

pub seen_deed : (x : Spot) (d : Deed) → IsSeenSo x (spot_after x d)
seen_deed x d =
    let form = after_deed x d in
    subst (λ (y : Spot). IsSeenSo x y) (sym form.3)
    (seen_grown x (x.deeds ++ d ∷ []) form.0 form.1 form.2 x.came
    (λ to k e here.
    ap (λ (ds : List Deed). slice_get ds k) (filter-append (is_send_by to) x.deeds (d ∷ []))
    ∙ get_before (filter (is_send_by to) x.deeds) (filter (is_send_by to) (d ∷ [])) k e here)
    (λ from n so.
    list_any-append (is_claim_by from n) x.deeds (d ∷ [])
    ∙ or_left (list_any (is_claim_by from n) x.deeds) (list_any (is_claim_by from n) (d ∷ [])) so)
    (λ from n so. so))

pub seen_arrival : (x : Spot) (a : Arrival) → IsSeenSo x (arrived_at x a)
seen_arrival x a =
    let form = after_arrival x a in
    subst (λ (y : Spot). IsSeenSo x y) (sym form.3)
    (seen_grown x x.deeds form.0 form.1 form.2 (with_arrival a x.came) (λ to k e here. here) (λ from n so. so)
    (λ from n so.
    any-placed_new (is_message a.env.from a.n) (is_message from n) _ a x.came
    ∙ or_left (list_any (is_message from n) x.came) (list_any (is_message from n) (a ∷ [])) so))

-- so with all ranks
abbrev pub AreSeen : (ℕ → Option Spot) → (ℕ → Option Spot) → Type 0
AreSeen v w = (k : ℕ) (x : Spot) → v k ≡ Some x → (y : Spot) × (w k ≡ Some y) × IsSeenSo x y

pub set_seen : (s : List Spot) (j : ℕ) (x y : Spot) → slice_get s j ≡ Some x → IsSeenSo x y →
    AreSeen (λ k. slice_get s k) (λ k. slice_get (slice_set s j y) k)
set_seen s j x y here seen k z at = by_rank (j == k) refl
  where
    by_rank : (b : Bool) → (j == k) ≡ b → (w : Spot) × (slice_get (slice_set s j y) k ≡ Some w) × IsSeenSo z w
    by_rank true same =
        let e : j ≡ k = same_number j k same in
        let is : x ≡ z = same_some x z (sym here ∙ ap (λ (n : ℕ). slice_get s n) e ∙ at) in (
          y,
          ap (λ (n : ℕ). slice_get (slice_set s j y) n) (sym e) ∙ get_set_same s j y (place_below s j x here),
          subst (λ (q : Spot). IsSeenSo q y) is seen,
        )
    by_rank false other = (z, get_set_other s j k y (differ j k other) ∙ at, seen_self z)

if_more : (a x : Bool) (r : Reply) → (a ≡ true → x ≡ true) → (if a then Some reply.Sent else None) ≡ Some r →
    (if x then Some reply.Sent else None) ≡ Some r
if_more true x r f so = subst (λ (b : Bool). (if b then Some reply.Sent else None) ≡ Some r) (sym (f refl)) so
if_more false x r f so = absurd (no_some r so)

-- what a send may end with
sent_more : (w u t r c g x y z : Bool) (a : Reply) → (t ≡ true → x ≡ true) → (c ≡ true → y ≡ true) →
    (g ≡ true → z ≡ true) →
    (if w then Some reply.Cancelled
    else if (u || t) && (not r || (c && not (not g))) then Some reply.Sent else None) ≡ Some a →
    (if w then Some reply.Cancelled
    else if (u || x) && (not r || (y && not (not z))) then Some reply.Sent else None) ≡ Some a
sent_more true u t r c g x y z a taken came gone so = so
sent_more false u t r c g x y z a taken came gone so =
    if_more ((u || t) && (not r || (c && not (not g)))) ((u || x) && (not r || (y && not (not z)))) a
    (and_more (u || t) (not r || (c && not (not g))) (u || x) (not r || (y && not (not z)))
    (or_more u t u x (λ is. is) taken)
    (or_more (not r) (c && not (not g)) (not r) (y && not (not z)) (λ is. is)
    (and_more c (not (not g)) y (not (not z)) came (not_not g z gone)))) so

-- a rank in two states, of which the second has all pairs of the first
pub record IsLater (x y : Spot) : Type 0 where
  pub deeds : y.deeds ≡ x.deeds
  pub pairs : (number : ℕ) (p : Pair) → find (is_of_receive number) x.pairs ≡ Some p →
      find (is_of_receive number) y.pairs ≡ Some p

pub later_self : (x : Spot) → IsLater x x
later_self x = record { deeds = refl; pairs = λ number p here. here }

module _ (v w : ℕ → Option Spot) (seen : AreSeen v w) (i : ℕ) where
  shown_kept : (p : Pair) (r : Reply) → shown_at v i p ≡ Some r → shown_at w i p ≡ Some r
  shown_kept p r = by_length (nat_lt p.cap p.arrival.env.len)
    where
      by_deed : (z y : Spot) → IsSeenSo z y → (o : Option Deed) →
          slice_get (filter (is_send_by i) z.deeds) p.arrival.n ≡ o → option_and_then (got_by p) o ≡ Some r →
          option_and_then (got_by p) (slice_get (filter (is_send_by i) y.deeds) p.arrival.n) ≡ Some r
      by_deed z y so None is shows = absurd (no_some r shows)
      by_deed z y so (Some d) is shows =
          ap (λ (o : Option Deed). option_and_then (got_by p) o) (so.sends i p.arrival.n d is) ∙ shows

      by_sender : (o : Option Spot) → v p.arrival.env.from ≡ o →
          option_and_then (λ (sender : Spot). option_and_then (got_by p)
          (slice_get (filter (is_send_by i) sender.deeds) p.arrival.n)) o ≡ Some r →
          option_and_then (λ (sender : Spot). option_and_then (got_by p)
          (slice_get (filter (is_send_by i) sender.deeds) p.arrival.n)) (w p.arrival.env.from) ≡ Some r
      by_sender None is shows = absurd (no_some r shows)
      by_sender (Some z) is shows =
          let y = seen p.arrival.env.from z is in
          ap (λ (o : Option Spot). option_and_then (λ (sender : Spot). option_and_then (got_by p)
          (slice_get (filter (is_send_by i) sender.deeds) p.arrival.n)) o) y.1
          ∙ by_deed z y.0 y.2 (slice_get (filter (is_send_by i) z.deeds) p.arrival.n) refl shows

      by_length : (b : Bool) →
          (if b then Some (reply.Cut p.arrival.env.from p.arrival.env.tag p.arrival.env.len)
          else option_and_then (λ (sender : Spot). option_and_then (got_by p)
          (slice_get (filter (is_send_by i) sender.deeds) p.arrival.n)) (v p.arrival.env.from)) ≡ Some r →
          (if b then Some (reply.Cut p.arrival.env.from p.arrival.env.tag p.arrival.env.len)
          else option_and_then (λ (sender : Spot). option_and_then (got_by p)
          (slice_get (filter (is_send_by i) sender.deeds) p.arrival.n)) (w p.arrival.env.from)) ≡ Some r
      by_length true shows = shows
      by_length false shows = by_sender (v p.arrival.env.from) refl shows

  -- what a request may end with, it may end with later
  pub result_kept : (x y : Spot) → IsLater x y → (request : Request) (r : Reply) →
      result_in v i x request ≡ Some r → result_in w i y request ≡ Some r
  result_kept x y later (Receiving number) r ends =
      subst (λ (ds : List Deed). (if list_any (is_cancel_by number) ds then Some reply.Cancelled
      else option_and_then (shown_at w i) (find (is_of_receive number) y.pairs)) ≡ Some r) (sym later.deeds)
      (by_off (list_any (is_cancel_by number) x.deeds) ends)
    where
      by_pair : (o : Option Pair) → find (is_of_receive number) x.pairs ≡ o →
          option_and_then (shown_at v i) o ≡ Some r →
          option_and_then (shown_at w i) (find (is_of_receive number) y.pairs) ≡ Some r
      by_pair None is shows = absurd (no_some r shows)
      by_pair (Some p) is shows =
          ap (λ (o : Option Pair). option_and_then (shown_at w i) o) (later.pairs number p is) ∙ shown_kept p r shows

      by_off : (b : Bool) →
          (if b then Some reply.Cancelled else option_and_then (shown_at v i) (find (is_of_receive number) x.pairs))
          ≡ Some r →
          (if b then Some reply.Cancelled else option_and_then (shown_at w i) (find (is_of_receive number) y.pairs))
          ≡ Some r
      by_off true ends = ends
      by_off false ends = by_pair (find (is_of_receive number) x.pairs) refl ends
  result_kept x y later (Sending to n) r ends =
      by_other (v to) refl ends
    where
      by_other : (o : Option Spot) → v to ≡ o → option_and_then (λ other. sent_at x other i to n) o ≡ Some r →
          option_and_then (λ other. sent_at y other i to n) (w to) ≡ Some r
      by_other None is ends = absurd (no_some r ends)
      by_other (Some z) is ends =
          let u = seen to z is in
          ap (λ (o : Option Spot). option_and_then (λ other. sent_at y other i to n) o) u.1
          ∙ subst (λ (ds : List Deed). sent_at (record y { deeds = ds }) u.0 i to n ≡ Some r) (sym later.deeds)
          (subst (λ (b : Bool). (if b then Some reply.Cancelled
          else if (list_any (is_unasked_by to n) x.deeds || list_any (is_of_message i n) u.0.pairs)
          && (not (list_any (is_recall_by to n) x.deeds)
          || (list_any (is_message i n) u.0.came && not (not (is_gone_at u.0 i n))))
          then Some reply.Sent else None) ≡ Some r) (u.2.withdrawn i n)
          (sent_more (list_any (is_that i n) z.withdrawn) (list_any (is_unasked_by to n) x.deeds)
          (list_any (is_of_message i n) z.pairs) (list_any (is_recall_by to n) x.deeds)
          (list_any (is_message i n) z.came) (is_gone_at z i n) (list_any (is_of_message i n) u.0.pairs)
          (list_any (is_message i n) u.0.came) (is_gone_at u.0 i n) r (u.2.taken i n) (u.2.came i n) (u.2.gone i n)
          ends))

  -- .. and so the answer to a wait
  pub wait_kept : (lines : List Line) (x y : Spot) → IsLater x y → (q : ℕ) (r : Reply) →
      option_map_or (result_in v i x) (live_in lines i x.deeds q) (Some reply.Null) ≡ Some r →
      option_map_or (result_in w i y) (live_in lines i y.deeds q) (Some reply.Null) ≡ Some r
  wait_kept lines x y later q r ends =
      subst (λ (ds : List Deed). option_map_or (result_in w i y) (live_in lines i ds q) (Some reply.Null) ≡ Some r)
      (sym later.deeds) (by_live (live_in lines i x.deeds q) ends)
    where
      by_live : (o : Option Request) → option_map_or (result_in v i x) o (Some reply.Null) ≡ Some r →
          option_map_or (result_in w i y) o (Some reply.Null) ≡ Some r
      by_live None ends = ends
      by_live (Some request) ends = result_kept x y later request r ends

  -- what a rank may do, it may do later
  pub act_kept : (eager : ℕ) (lines : List Line) (x : Spot) (d : Deed) → IsAct eager lines v i x d →
      IsAct eager lines w i x d
  act_kept eager lines x d act = record {
    line = act.line;
    command = act.command;
    place = act.place;
    at = act.at;
    deed_of = by_deed act.deed_of;
  }
    where
      by_reply : (q : ℕ) →
          option_map (λ r. deed.Ran act.line r)
          (option_map_or (result_in v i x) (live_in lines i x.deeds q) (Some reply.Null)) ≡ Some d →
          option_map (λ r. deed.Ran act.line r)
          (option_map_or (result_in w i x) (live_in lines i x.deeds q) (Some reply.Null)) ≡ Some d
      by_reply q says =
          let r = mapped_some (λ (r : Reply). deed.Ran act.line r)
          (option_map_or (result_in v i x) (live_in lines i x.deeds q) (Some reply.Null)) d says in
          ap (λ (o : Option Reply). option_map (λ r. deed.Ran act.line r) o)
          (wait_kept lines x x (later_self x) q r.0 r.1)
          ∙ ap (λ (e : Deed). Some e) r.2

      by_command : (c : Command) →
          option_map (λ r. deed.Ran act.line r) (answer_in v lines i x act.line c) ≡ Some d →
          option_map (λ r. deed.Ran act.line r) (answer_in w lines i x act.line c) ≡ Some d
      by_command (command.Wait q) says = by_reply q says
      by_command (command.Test q) says = by_reply q says
      by_command (command.Send to q tag ctx sync body) says = says
      by_command (command.Recv q from tag ctx cap) says = says
      by_command (command.Probe from tag ctx) says = says
      by_command (command.Await from tag ctx) says = says
      by_command (command.Cancel q) says = says
      by_command (command.Mprobe m from tag ctx) says = says
      by_command (command.Mrecv q m cap) says = says

      by_deed : IsDeedOf eager lines v i x act.line act.command d → IsDeedOf eager lines w i x act.line act.command d
      by_deed (inl does) = inl does
      by_deed (inr (inl says)) = inr (inl (by_command act.command says))
      by_deed (inr (inr denies)) = inr (inr denies)

  -- a message that may come, may come later, where no other one came
  module _ (from : ℕ) where
    abbrev at_count : List Arrival → Spot → Option Arrival
    at_count came other =
        let n = count_by (λ (b : Arrival). b.env.from == from) came in
        option_and_then (arrival_by from n) (slice_get (filter (is_send_by i) other.deeds) n)

    abbrev in_states : (ℕ → Option Spot) → Option Spot → Option Arrival
    in_states u o =
        option_and_then (λ (spot : Spot). option_and_then (λ (other : Spot). at_count spot.came other) (u from)) o

    pub coming_kept : (came : List Arrival) (a : Arrival) →
        option_and_then (λ (other : Spot). at_count came other) (v from) ≡ Some a →
        option_and_then (λ (other : Spot). at_count came other) (w from) ≡ Some a
    coming_kept came a = by_other (v from) refl
      where
        by_deed : (z u : Spot) → IsSeenSo z u → (n : ℕ) → (o : Option Deed) →
            slice_get (filter (is_send_by i) z.deeds) n ≡ o → option_and_then (arrival_by from n) o ≡ Some a →
            option_and_then (arrival_by from n) (slice_get (filter (is_send_by i) u.deeds) n) ≡ Some a
        by_deed z u so n None is comes = absurd (no_some a comes)
        by_deed z u so n (Some d) is comes =
            ap (λ (o : Option Deed). option_and_then (arrival_by from n) o) (so.sends i n d is) ∙ comes

        by_other : (o : Option Spot) → v from ≡ o →
            option_and_then (λ (other : Spot). at_count came other) o ≡ Some a →
            option_and_then (λ (other : Spot). at_count came other) (w from) ≡ Some a
        by_other None is comes = absurd (no_some a comes)
        by_other (Some z) is comes =
            let u = seen from z is in
            ap (λ (o : Option Spot). option_and_then (λ (other : Spot). at_count came other) o) u.1
            ∙ by_deed z u.0 u.2 (count_by (λ (b : Arrival). b.env.from == from) came)
            (slice_get (filter (is_send_by i) z.deeds) (count_by (λ (b : Arrival). b.env.from == from) came)) refl
            comes

  pub next_kept : (ranks : ℕ) (x y : Spot) → v i ≡ Some x → w i ≡ Some y → y.came ≡ x.came → (a : Arrival) →
      IsNextMessage ranks v i a → IsNextMessage ranks w i a
  next_kept ranks x y here there same a next = record {
    from = next.from;
    within = next.within;
    next = ap (λ (o : Option Spot). in_states next.from w o) there
        ∙ ap (λ (came : List Arrival). option_and_then (λ (other : Spot). at_count next.from came other) (w next.from))
        same
        ∙ coming_kept next.from x.came a
        (ap (λ (o : Option Spot). in_states next.from v o) (sym here) ∙ next.next);
  }
