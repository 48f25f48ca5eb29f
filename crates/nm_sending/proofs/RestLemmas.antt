-- Where no packet is left, each eager message has left.
use Rattle.std.proofs.Common.{◌≡◌, ℕ, ◌+◌, ◌<◌, ◌==◌, zero, suc, Bool, true, false, not, ◌&&◌}
use Rattle.std.proofs.Common.{cond, Option}
use Rattle.std.proofs.Common.{Some, None, List, [], ◌∷◌, ◌++◌, length, map, refl, sym, ◌∙◌, ap}
use Rattle.std.proofs.Common.{append_assoc, arith, true≢false}
use Rattle.std.specs.Prelude.{IsNone, IsSomeAnd, MatchOption}
use Rattle.std.specs.List.{AllByRecursion, filter, filter_map, range_with_len, slice_get}
use Rattle.std.proofs.lemmas.List.{length-map}
use Rattle.std.proofs.lemmas.List.Elements.{filter-append}
use Rattle.std.proofs.lemmas.List.FromFn.{length-range_with_len}
use Rattle.std.proofs.lemmas.Option.{slice_get-get_or, slice_get_within}
use Rattle.nm_history.specs.declared.events.Event.{Event}
use Rattle.nm_history.specs.Delivery.{is_asked}
use Rattle.nm_history.specs.Happens.{happened, is_out}
use Rattle.nm_history.specs.Sends.{Sent, sends, sent_of, is_ask}
use Rattle.nm_history.proofs.Basic.{self_true, on_test}
use Rattle.nm_history.proofs.Sent.{NumberedFrom, numbered_at, any_at}
use Rattle.nm_history.specs.Rest.{EagerHaveLeft}
use Rattle.nm_sending.specs.Letters.{Letter}
use Rattle.nm_sending.specs.declared.departures.Departure.{Departure}
use Rattle.nm_sending.specs.Departures.{SendingView, departures_to, departure_of, passes, ends_to}
use Rattle.nm_sending.specs.Sent.{AreSent}
use Rattle.nm_sending.specs.Tables.{TablesAgree, waits}
use Rattle.nm_sending.proofs.WaitingLemmas.{none_waits}
use Rattle.nm_types.proofs.ListLemmas.{get_behind}

-- what holds of each element by its place holds of all
by_places : {X : Type 0} (P : X → Type 0) (all before xs : List X) → all ≡ before ++ xs
    → ((b : List X) (x : X) (after : List X) → all ≡ b ++ x ∷ after → P x) → AllByRecursion P xs
by_places P all before [] same each = tt
by_places P all before (x ∷ xs) same each = (
  each before x xs same,
  by_places P all (before ++ x ∷ []) xs (same ∙ sym (append_assoc before (x ∷ []) xs)) each,
)

-- within a list there is an element
none_within : (ds : List Departure) (n : ℕ) → slice_get ds n ≡ None → n < length ds → ⊥
none_within [] n none below = omega arith
none_within (d ∷ ds) n none below = let there = sym none ∙ slice_get-get_or (d ∷ ds) n d below in cc

-- numbers in order
numbered : (ss : List Sent) (k len : ℕ) → map (λ s. s.n) ss ≡ range_with_len k len
    → NumberedFrom (λ (s : Sent). s.n) k ss
numbered [] k len is = tt
numbered (s ∷ ss) k zero is = absurd cc
numbered (s ∷ ss) k (suc len) is =
    let head : s.n ≡ k = cc in
    let tail : map (λ s. s.n) ss ≡ range_with_len (k + 1) len = cc in
    (head, numbered ss (k + 1) len tail)

module _ (me ranks : ℕ) (v : SendingView) (tables : TablesAgree me ranks v) (empty : v.outbox.letters ≡ [])
    (h : List Event) (was : AreSent v h) where
  -- a send stands among those to its rank
  at_its_place : (s : Sent) (b after : List Sent) → filter_map (λ e. sent_of e.stamp e.what) h
      ≡ b ++ s ∷ after
      → (i : ℕ) × (slice_get (sends h s.to) i ≡ Some s)
  at_its_place s b after split =
      let f : Sent → Bool = λ x. x.to == s.to in (
        length (filter f b),
        ap (λ (ss : List Sent). slice_get (filter f ss) (length (filter f b))) split
            ∙ ap (λ (ss : List Sent). slice_get ss (length (filter f b)))
            (filter-append f b (s ∷ after)
            ∙ ap (λ (x : Bool). filter f b ++ cond x (s ∷ filter f after) (filter f after)) (self_true s.to))
            ∙ get_behind (filter f b) (filter f after) s,
      )

  eager_left : (s : Sent) → ((i : ℕ) × (slice_get (sends h s.to) i ≡ Some s)) → is_ask s.how ≡ false
      → happened (is_out s.to s.n) h ≡ true
  eager_left s place eager =
      let in_order : NumberedFrom (λ (x : Sent). x.n) 0 (sends h s.to) =
      numbered (sends h s.to) 0 (length (departures_to v s.to)) (was.numbers s.to) in
      let number : s.n ≡ 0 + place.0 =
      numbered_at (λ (x : Sent). x.n) 0 (sends h s.to) place.0 s in_order place.1 in
      let count : length (sends h s.to) ≡ length (departures_to v s.to) =
      sym (length-map (sends h s.to) (λ s. s.n)) ∙ ap (λ (ns : List ℕ). length ns) (was.numbers s.to)
      ∙ length-range_with_len 0 (length (departures_to v s.to)) in
      let below = slice_get_within (sends h s.to) place.0 s place.1 in
      let not_asked : is_asked (sends h s.to) s.n ≡ false =
      any_at (λ (x : Sent). x.n) (λ x. is_ask x.how) 0 place.0 s.n (sends h s.to) s number in_order place.1
      ∙ eager in
      by_there s.to s.n (departure_of v s.to s.n) refl (omega (arith, number, count, below)) not_asked
    where
      out_or : (a b : Bool) → a ≡ false → (not a && not b) ≡ false → b ≡ true
      out_or true b is w = absurd (true≢false is)
      out_or false true is w = refl
      out_or false false is w = absurd (true≢false w)

      by_there : (to n : ℕ) (o : Option Departure) → departure_of v to n ≡ o → n < length (departures_to v to)
          → is_asked (sends h to) n ≡ false → happened (is_out to n) h ≡ true
      by_there to n None none below not_asked = absurd (none_within (departures_to v to) n none below)
      by_there to n (Some d) there below not_asked =
          let waiting : waits d ≡ false =
          none_waits 0 n (departures_to v to) d
          (sym (tables.eager to) ∙ ap (λ (ls : List Letter). ends_to to ls) empty) there in
          let how : is_ask d.how ≡ false =
          ap (λ (o : Option Departure). passes (λ x. is_ask x.how) o) (sym there) ∙ was.asked to n
          ∙ not_asked in
          sym (was.out to n) ∙ ap (λ (o : Option Departure). passes (λ x. x.out) o) there
          ∙ out_or (is_ask d.how) d.out how waiting

  pub all_left : EagerHaveLeft h
  all_left = by_places _ (filter_map (λ e. sent_of e.stamp e.what) h) []
      (filter_map (λ e. sent_of e.stamp e.what) h) refl
      (λ b s after split. on_test (not (is_ask s.how)) (λ eager.
      eager_left s (at_its_place s b after split) (not_true (is_ask s.how) eager)))
    where
      not_true : (b : Bool) → not b ≡ true → b ≡ false
      not_true true h = absurd (true≢false (sym h))
      not_true false h = refl

-- where none is at the front there is no letter
pub no_letters : (o : Option ℕ) (letters : List Letter) (Q : Letter → ℕ → Type 0) → IsNone o
    → MatchOption (slice_get letters 0) (o ≡ None) (λ letter. IsSomeAnd o (Q letter)) → letters ≡ []
no_letters None [] Q none is = refl
no_letters None (l ∷ letters) Q none is = absurd is
no_letters (Some x) letters Q none is = absurd (true≢false none)
