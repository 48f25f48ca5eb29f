-- The events at the ends of arrows.
use Rattle.std.proofs.Common.{◌≡◌, ℕ, ◌+◌, zero, suc, List, [], ◌∷◌, Bool, true, false, cond, ◌&&◌, refl}
use Rattle.std.proofs.Common.{sym, ap, ◌∙◌, subst, arith, take, flat_map, nat_le, Option, Some, None}
use Rattle.std.specs.List.{AllByRecursion, Contains, slice_get}
use Rattle.std.proofs.lemmas.Bool.{and_parts}
use Rattle.nm_types.specs.declared.messages.Arrival.{Arrival}
use Rattle.nm_history.specs.declared.events.Event.{Event}
use Rattle.nm_history.specs.declared.events.Happened.{Happened}
use Rattle.nm_history.specs.declared.events.Happened.TheVariants.{Arrive}
use Rattle.nm_report.specs.declared.accounts.RankAccount.{RankAccount}
use Rattle.nm_diagram.specs.declared.frames.Span.{Span}
use Rattle.nm_diagram.specs.declared.anchors.Anchor.{Anchor}
use Rattle.nm_diagram.specs.declared.anchors.Anchor.TheVariants as anchor
use Rattle.nm_diagram.specs.declared.arrows.Arrow.{Arrow}
use Rattle.nm_diagram.specs.Anchors.{first_stamp, is_anchor, since}
use Rattle.nm_diagram.specs.Diagrams.{all_arrows, arrow_from, arrow_of, arrows_at, arrows_of, from_lane, sent_by}
use Rattle.nm_diagram.specs.Frames.{IsIn, is_shown}
use Rattle.nm_diagram.specs.Joined.{IsAt, IsOfMessage}
use Rattle.nm_types.proofs.ListLemmas.{all_append as both}
use Rattle.nm_diagram.proofs.FrameLemmas.{shown-in}

pub here : {X : Type 0} (x : X) (xs : List X) → Contains (x ∷ xs) x
here x xs = (0, omega arith, refl)

pub there : {X : Type 0} (x y : X) (xs : List X) → Contains xs y → Contains (x ∷ xs) y
there x y xs c = (suc c.0, omega (arith, c.1), c.2)

later : (span : Span) (e : Event) (events : List Event) (anchor : Anchor) (stamp : ℕ) →
    IsAt span events anchor stamp → IsAt span (e ∷ events) anchor stamp
later span e events anchor stamp a =
    record { event = a.event; among = there e a.event events a.among; is_it = a.is_it; at = a.at; shown = a.shown }

-- what is found is there
next_found : (span : Span) (e : Event) (events : List Event) (anchor : Anchor) (stamp : ℕ) (rest : Option ℕ)
    (b : Bool) →
    (is_shown span e && is_anchor anchor e.what) ≡ b → cond b (Some e.stamp) rest ≡ Some stamp →
    (rest ≡ Some stamp → IsAt span events anchor stamp) → IsAt span (e ∷ events) anchor stamp
next_found span e events anchor stamp rest true is found more =
    let parts = and_parts (is_shown span e) (is_anchor anchor e.what) is in
    let same : e.stamp ≡ stamp = cc in
    record {
      event = e;
      among = here e events;
      is_it = parts.1;
      at = same;
      shown = subst (λ n. IsIn span n) same (shown-in span e parts.0);
    }
next_found span e events anchor stamp rest false is found more = later span e events anchor stamp (more found)

pub found_at : (span : Span) (stamp : ℕ) (anchor : Anchor) (events : List Event) (k : ℕ) →
    first_stamp span anchor (take k events) ≡ Some stamp → IsAt span events anchor stamp
found_at span stamp anchor [] zero found = absurd cc
found_at span stamp anchor [] (suc k) found = absurd cc
found_at span stamp anchor (e ∷ events) zero found = absurd cc
found_at span stamp anchor (e ∷ events) (suc k) found =
    next_found span e events anchor stamp (first_stamp span anchor (take k events))
    (is_shown span e && is_anchor anchor e.what) refl found
    (λ h. found_at span stamp anchor events k h)

pub found_among : (span : Span) (stamp : ℕ) (anchor : Anchor) (events : List Event) →
    first_stamp span anchor events ≡ Some stamp → IsAt span events anchor stamp
found_among span stamp anchor [] found = absurd cc
found_among span stamp anchor (e ∷ events) found =
    next_found span e events anchor stamp (first_stamp span anchor events)
    (is_shown span e && is_anchor anchor e.what) refl found
    (λ h. found_among span stamp anchor events h)

-- and what is found behind the events that were passed is among all
next_since : (span : Span) (first : ℕ) (e : Event) (events : List Event) (anchor : Anchor) (stamp : ℕ) (b : Bool) →
    IsAt span (cond b (e ∷ events) (since first events)) anchor stamp →
    (IsAt span (since first events) anchor stamp → IsAt span events anchor stamp) →
    IsAt span (e ∷ events) anchor stamp
next_since span first e events anchor stamp true a rest = a
next_since span first e events anchor stamp false a rest = later span e events anchor stamp (rest a)

since_at : (span : Span) (first : ℕ) (events : List Event) (anchor : Anchor) (stamp : ℕ) →
    IsAt span (since first events) anchor stamp → IsAt span events anchor stamp
since_at span first [] anchor stamp a = a
since_at span first (e ∷ events) anchor stamp a =
    next_since span first e events anchor stamp (nat_le first e.stamp) a (since_at span first events anchor stamp)

pub found_behind : (span : Span) (stamp : ℕ) (anchor : Anchor) (events : List Event) (k : ℕ) →
    first_stamp span anchor (take k (since span.first events)) ≡ Some stamp → IsAt span events anchor stamp
found_behind span stamp anchor events k found =
    since_at span span.first events anchor stamp (found_at span stamp anchor (since span.first events) k found)

-- an arrival is that of its message
itself : (a : Arrival) → is_anchor (anchor.Arrival a.env.from a.n) (Arrive a) ≡ true
itself a = grind arith

-- the arrow of an arrival, by its sender and the send that was found
by_sent : (span : Span) (rank : ℕ) (ranks : List RankAccount) (receiver : RankAccount) (event : Event) (a : Arrival) →
    slice_get ranks rank ≡ Some receiver → Contains receiver.history.events event → event.what ≡ Arrive a →
    is_shown span event ≡ true → (o : Option RankAccount) → slice_get ranks a.env.from ≡ o → (s : Option ℕ) →
    sent_by span rank a.n o ≡ s →
    AllByRecursion (IsOfMessage span ranks) (arrow_from a.env.from rank event.stamp a.n a.env.how s)
by_sent span rank ranks receiver event a got among is shown o from None sent = tt
by_sent span rank ranks receiver event a got among is shown None from (Some s) sent = absurd cc
by_sent span rank ranks receiver event a got among is shown (Some sender) from (Some s) sent = (
  record {
    sender = sender;
    receiver = receiver;
    comes_from = from;
    goes_to = got;
    sent = found_behind span s (anchor.Send rank a.n) sender.history.events 20000 sent;
    arrived =
        record {
          event = event;
          among = among;
          is_it = subst (λ w. is_anchor (anchor.Arrival a.env.from a.n) w ≡ true) (sym is) (itself a);
          at = refl;
          shown = shown-in span event shown;
        };
  },
  tt,
)

by_what : (span : Span) (rank : ℕ) (ranks : List RankAccount) (receiver : RankAccount) (event : Event) →
    slice_get ranks rank ≡ Some receiver → Contains receiver.history.events event → is_shown span event ≡ true →
    (w : Happened) → event.what ≡ w →
    AllByRecursion (IsOfMessage span ranks) (arrow_of span ranks rank event.stamp w)
by_what span rank ranks receiver event got among shown (Arrive a) is =
    by_sent span rank ranks receiver event a got among is shown (slice_get ranks a.env.from) refl
    (sent_by span rank a.n (slice_get ranks a.env.from)) refl
by_what span rank ranks receiver event got among shown _ is = tt

by_shown : (span : Span) (rank : ℕ) (ranks : List RankAccount) (receiver : RankAccount) (event : Event) →
    slice_get ranks rank ≡ Some receiver → Contains receiver.history.events event → (b : Bool) →
    is_shown span event ≡ b →
    AllByRecursion (IsOfMessage span ranks) (cond b (arrow_of span ranks rank event.stamp event.what) [])
by_shown span rank ranks receiver event got among true shown =
    by_what span rank ranks receiver event got among shown event.what refl
by_shown span rank ranks receiver event got among false shown = tt

-- the arrows of some events of a rank
of_events : (span : Span) (rank : ℕ) (ranks : List RankAccount) (receiver : RankAccount) (events : List Event) →
    slice_get ranks rank ≡ Some receiver → ((e : Event) → Contains events e → Contains receiver.history.events e) →
    AllByRecursion (IsOfMessage span ranks) (flat_map (arrows_at span ranks rank) events)
of_events span rank ranks receiver [] got among = tt
of_events span rank ranks receiver (e ∷ events) got among =
    both (IsOfMessage span ranks) (arrows_at span ranks rank e) (flat_map (arrows_at span ranks rank) events)
    (by_shown span rank ranks receiver e got (among e (here e events)) (is_shown span e) refl)
    (of_events span rank ranks receiver events got (λ x c. among x (there e x events c)))

-- and of some ranks
of_ranks : (span : Span) (rank : ℕ) (ranks accounts : List RankAccount) →
    ((i : ℕ) (account : RankAccount) → slice_get accounts i ≡ Some account →
    slice_get ranks (rank + i) ≡ Some account) →
    AllByRecursion (IsOfMessage span ranks) (from_lane (arrows_of span ranks) rank accounts)
of_ranks span rank ranks [] into = tt
of_ranks span rank ranks (account ∷ accounts) into =
    let at : rank + 0 ≡ rank = omega arith in
    let got = subst (λ k. slice_get ranks k ≡ Some account) at (into 0 account refl) in
    let next : (i : ℕ) → rank + suc i ≡ rank + 1 + i = λ i. omega arith in
    both (IsOfMessage span ranks) (arrows_of span ranks rank account)
    (from_lane (arrows_of span ranks) (rank + 1) accounts)
    (of_events span rank ranks account account.history.events got (λ e c. c))
    (of_ranks span (rank + 1) ranks accounts
    (λ i x h. subst (λ k. slice_get ranks k ≡ Some x) (next i) (into (suc i) x h)))

pub all_arrows-are : (span : Span) (ranks : List RankAccount) →
    AllByRecursion (IsOfMessage span ranks) (all_arrows span ranks)
all_arrows-are span ranks =
    let at : (i : ℕ) → i ≡ 0 + i = λ i. omega arith in
    of_ranks span 0 ranks ranks (λ i x h. subst (λ k. slice_get ranks k ≡ Some x) (at i) h)

-- what is no arrival has no arrow
no_arrow : (span : Span) (rank stamp : ℕ) (ranks : List RankAccount) (w : Happened) →
    ((a : Arrival) → ¬ (w ≡ Arrive a)) →
    arrow_of span ranks rank stamp w ≡ []
no_arrow span rank stamp ranks (Arrive a) other = absurd (other a refl)
no_arrow span rank stamp ranks _ other = refl

pub no_arrow_at : (span : Span) (rank : ℕ) (ranks : List RankAccount) (event : Event) →
    ((a : Arrival) → ¬ (event.what ≡ Arrive a)) → arrows_at span ranks rank event ≡ []
no_arrow_at span rank ranks event other =
    ap (λ (l : List Arrow). cond (is_shown span event) l []) (no_arrow span rank event.stamp ranks event.what other)
    ∙ either_way (is_shown span event) where
      either_way : (b : Bool) → (let none : List Arrow = [] in cond b none none ≡ none)
      either_way true = refl
      either_way false = refl
