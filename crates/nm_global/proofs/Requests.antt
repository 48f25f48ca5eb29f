-- The live requests, and the receives whose results were given, after a call.
use Rattle.std.proofs.Common.{◌≡◌, ◌≢◌, ℕ, ◌<◌, ◌==◌, false, Some, None, List, [], ◌∷◌}
use Rattle.std.proofs.Common.{◌++◌, length, refl, sym, ◌∙◌, ap, subst, arith}
use Rattle.std.specs.Prelude.{◌⊎◌}
use Rattle.std.proofs.Common.{inl, inr}
use Rattle.std.specs.List.{AllByRecursion}
use Rattle.std.proofs.lemmas.Bool.{cases_eq}
use Rattle.nm_history.specs.declared.events.Event.{Event}
use Rattle.nm_history.specs.Sends.{receives}
use Rattle.nm_history.specs.Continues.{has}
use Rattle.nm_history.proofs.Basic.{refuted}
use Rattle.nm_request.specs.declared.Kind.{Kind}
use Rattle.nm_request.specs.declared.Kind.TheVariants as kind
use Rattle.nm_request.specs.declared.Req.{Req}
use Rattle.nm_request.specs.Requests.{AddsRequest, Live, kind_of}
use Rattle.nm_rank.specs.Ranks.{RankView}
use Rattle.nm_rank.specs.Requests.{IsFreed}
use Rattle.nm_global.specs.Calls.{IsNextReceive, given_after}
use Rattle.nm_global.specs.Logged.{AreGiven}
use Rattle.nm_global.proofs.Receives.{receives_grow}
use Rattle.nm_types.proofs.NumberLemmas.{same_number, eq_less}
use Rattle.nm_types.proofs.ListLemmas.{all_along}

-- the receives of these numbers were started
abbrev AreStarted : List ℕ → List Event → Type 0
AreStarted given h = AllByRecursion (λ number. number < length (receives h)) given

started_later : (h h' more : List Event) (given : List ℕ) → h' ≡ h ++ more → AreStarted given h →
    AreStarted given h'
started_later h h' more given grown =
    all_along (λ number. number < length (receives h)) (λ number. number < length (receives h')) given
    (λ number small. omega (arith, receives_grow h h' more grown))

pub same_requests : (v v' : RankView) (given : List ℕ) (more : List Event) →
    v'.events ≡ v.events ++ more → v'.requests ≡ v.requests → AreGiven v given → AreGiven v' given
same_requests v v' given more grown same old =
    record {
      started = started_later v.events v'.events more given grown old.started;
      live = λ r number is.
          let was = old.live r number (ap (λ (q : Live). kind_of q r) (sym same) ∙ is) in
          (was.0, omega (arith, was.1, receives_grow v.events v'.events more grown));
      apart = λ q r number is_q is_r.
          old.apart q r number (ap (λ (live : Live). kind_of live q) (sym same) ∙ is_q)
          (ap (λ (live : Live). kind_of live r) (sym same) ∙ is_r);
    }

same_or_other : (q r : Req) → (q ≡ r) ⊎ (q ≢ r)
same_or_other q r = by_key (cases_eq q.key r.key) (cases_eq q.turn r.turn) where
  by_key : (q.key ≡ r.key) ⊎ (q.key ≢ r.key) → (q.turn ≡ r.turn) ⊎ (q.turn ≢ r.turn) → (q ≡ r) ⊎ (q ≢ r)
  by_key (inl key) (inl turn) =
      inl (ap (λ (k : ℕ). record { key = k; turn = q.turn }) key
      ∙ ap (λ (t : ℕ). record { key = r.key; turn = t }) turn)
  by_key (inr key) turn = inr (λ same. key (ap (λ (x : Req). x.key) same))
  by_key (inl key) (inr turn) = inr (λ same. turn (ap (λ (x : Req). x.turn) same))

-- the next number is none of those before
has_none : (given : List ℕ) (number : ℕ) → AllByRecursion (λ n. n < number) given → has given number ≡ false
has_none [] number below = refl
has_none (n ∷ given) number below = rw (eq_less n number below.0) (has_none given number below.1)

pub added_request : (v v' : RankView) (given : List ℕ) (more : List Event) (r : Req) (k : Kind) →
    v'.events ≡ v.events ++ more → AddsRequest v.requests v'.requests r k →
    IsNextReceive v.events v'.events k → AreGiven v given → AreGiven v' given
added_request v v' given more r k grown adds next old =
    record {
      started = started_later v.events v'.events more given grown old.started;
      live = λ q number is. by_live q number is (same_or_other q r);
      apart = λ q s number is_q is_s. by_apart q s number is_q is_s (same_or_other q r) (same_or_other s r);
    }
  where
    -- the new request is of this receive
    new_next : (q : Req) (number : ℕ) → kind_of v'.requests q ≡ Some (kind.Receive number) → q ≡ r →
        (number ≡ length (receives v.events)) × (number < length (receives v'.events))
    new_next q number is same =
        let both : Some k ≡ Some (kind.Receive number) =
        sym adds.live ∙ ap (λ (x : Req). kind_of v'.requests x) (sym same) ∙ is in
        let k_is : k ≡ kind.Receive number = cc in
        subst (λ (x : Kind). IsNextReceive v.events v'.events x) k_is next

    by_live : (q : Req) (number : ℕ) → kind_of v'.requests q ≡ Some (kind.Receive number) →
        (q ≡ r) ⊎ (q ≢ r) → (has given number ≡ false) × (number < length (receives v'.events))
    by_live q number is (inl same) =
        let is_next = new_next q number is same in (
          ap (λ (n : ℕ). has given n) is_next.0 ∙ has_none given (length (receives v.events)) old.started,
          is_next.1,
        )
    by_live q number is (inr other) =
        let was = old.live q number (sym (adds.others q other) ∙ is) in
        (was.0, omega (arith, was.1, receives_grow v.events v'.events more grown))

    by_apart : (q s : Req) (number : ℕ) → kind_of v'.requests q ≡ Some (kind.Receive number) →
        kind_of v'.requests s ≡ Some (kind.Receive number) → (q ≡ r) ⊎ (q ≢ r) → (s ≡ r) ⊎ (s ≢ r) → q ≡ s
    by_apart q s number is_q is_s (inl same_q) (inl same_s) = same_q ∙ sym same_s
    by_apart q s number is_q is_s (inl same_q) (inr other_s) =
        let is_next = new_next q number is_q same_q in
        let was = old.live s number (sym (adds.others s other_s) ∙ is_s) in
        absurd (omega (arith, is_next.0, was.1))
    by_apart q s number is_q is_s (inr other_q) (inl same_s) =
        let is_next = new_next s number is_s same_s in
        let was = old.live q number (sym (adds.others q other_q) ∙ is_q) in
        absurd (omega (arith, is_next.0, was.1))
    by_apart q s number is_q is_s (inr other_q) (inr other_s) =
        old.apart q s number (sym (adds.others q other_q) ∙ is_q) (sym (adds.others s other_s) ∙ is_s)

-- the requests that are left were live before, and are others
left_live : (old new : Live) (r q : Req) (k : Kind) → IsFreed old new r → kind_of new q ≡ Some k →
    (q ≢ r) × (kind_of old q ≡ Some k)
left_live old new r q k freed is = by_request (same_or_other q r) where
  by_request : (q ≡ r) ⊎ (q ≢ r) → (q ≢ r) × (kind_of old q ≡ Some k)
  by_request (inl same) =
      let none : None ≡ Some k = sym freed.gone ∙ ap (λ (x : Req). kind_of new x) (sym same) ∙ is in cc
  by_request (inr other) = (other, sym (freed.others q other) ∙ is)

pub freed_request : (v v' : RankView) (given : List ℕ) (r : Req) (k : Kind) → v'.events ≡ v.events →
    kind_of v.requests r ≡ Some k → IsFreed v.requests v'.requests r → AreGiven v given →
    AreGiven v' (given_after k given)
freed_request v v' given r k same is freed old =
    record {
      started = subst (AreStarted (given_after k given)) (sym same) (by_started k is);
      live = λ q number is_q.
          let was = left_live v.requests v'.requests r q (kind.Receive number) freed is_q in
          let before = old.live q number was.1 in (
            by_given k is q number was.0 was.1 before.0,
            subst (λ (h : List Event). number < length (receives h)) (sym same) before.1,
          );
      apart = λ q s number is_q is_s.
          old.apart q s number (left_live v.requests v'.requests r q (kind.Receive number) freed is_q).1
          (left_live v.requests v'.requests r s (kind.Receive number) freed is_s).1;
    }
  where
    by_started : (k : Kind) → kind_of v.requests r ≡ Some k →
        AreStarted (given_after k given) v.events
    by_started (kind.Send to n) is = old.started
    by_started (kind.Receive number) is = ((old.live r number is).1, old.started)

    by_given : (k : Kind) → kind_of v.requests r ≡ Some k → (q : Req) (number : ℕ) → q ≢ r →
        kind_of v.requests q ≡ Some (kind.Receive number) → has given number ≡ false →
        has (given_after k given) number ≡ false
    by_given (kind.Send to n) is q number other is_q none = none
    by_given (kind.Receive ended) is q number other is_q none =
        rw (refuted (ended == number) (λ test. absurd (other (old.apart q r number is_q
        (subst (λ (n : ℕ). kind_of v.requests r ≡ Some (kind.Receive n))
        (same_number ended number test) is)))))
        none
