-- Where a history first breaks a rule with each rank, one event after another.
use Rattle.std.proofs.Common.{◌≡◌, ℕ, ◌+◌, ◌<◌, ◌≤◌, ◌==◌, ◌&&◌, Bool, true, false, cond, Option, Some, None, List, []}
use Rattle.std.proofs.Common.{◌∷◌, ◌++◌, length, take, drop, get_or, refl, sym, ◌∙◌, ap, subst}
use Rattle.std.specs.Prelude.{IsSomeAnd, IsTrue, MatchBool, MatchOption}
use Rattle.std.specs.Bool.{OnTrue}
use Rattle.std.specs.List.{slice_get}
use Rattle.std.proofs.lemmas.Bool.{false≢true}
use Rattle.nm_types.specs.declared.messages.Arrival.{Arrival}
use Rattle.nm_history.specs.declared.events.Event.{Event}
use Rattle.nm_history.specs.declared.events.Happened.{Happened}
use Rattle.nm_history.specs.declared.events.Happened.TheVariants as happening
use Rattle.nm_history.specs.AtEach.{AtEach, AtEachAfter}
use Rattle.nm_history.specs.Completion.{is_taken}
use Rattle.nm_history.specs.Delivery.{EachEvent, OutAfterPair, UndoneAfterWithdraw, WithdrawAfterRecall, earlier_than}
use Rattle.nm_history.specs.Delivery.{is_asked}
use Rattle.nm_history.specs.Growing.{ArrivesNext}
use Rattle.nm_history.specs.Happens.{happened, is_asked_send, is_recall, is_withdraw}
use Rattle.nm_history.specs.RankRun.{NumberAt}
use Rattle.nm_history.specs.Sends.{arrivals, envelope, sends}
use Rattle.nm_history.proofs.AtEachLemmas.{AtEach-split}
use Rattle.nm_history.proofs.OnceLemmas.{eqb_self}
use Rattle.nm_history.proofs.AskedLemmas.{asked_sends}
use Rattle.nm_lookups.specs.Deciding.{Decides}
use Rattle.nm_lookups.proofs.StepLemmas.{all_kept, goes_on}
use Rattle.nm_check_rank.specs.Breaks.{BreaksFirstAt}
use Rattle.nm_check_rank.proofs.BreakLemmas.{breaks_first}
use Rattle.nm_check.specs.Marked.{Names, noted}
use Rattle.nm_types.proofs.NumberLemmas.{same_number}
use Rattle.nm_types.proofs.ListLemmas.{split_at}

-- what is known after so many events of the first that breaks a rule
abbrev pub SoFar : (List Event → Event → Type 0) → List Event → ℕ → Option ℕ → Type 0
SoFar R h k found = MatchOption found (AtEach R (take k h)) (BreaksFirstAt (AtEach R) h)

module _ (R : List Event → Event → Type 0) (h : List Event) where
  -- .. and with one event more
  pub noted_more : (k : ℕ) (e : Event) → k < length h → e ≡ get_or h k e → (breaks : Bool) →
      MatchBool breaks (R (take k h) e → ⊥) (R (take k h) e) → (found : Option ℕ) → SoFar R h k found →
      SoFar R h (k + 1) (noted breaks k found)
  noted_more k e inside is true broken None kept = breaks_first R h k e inside is kept broken
  noted_more k e inside is true broken (Some j) first = first
  noted_more k e inside is false here None kept = goes_on R h k e inside is kept here
  noted_more k e inside is false here (Some j) first = first

  pub noted_all : (k : ℕ) → length h ≤ k → (found : Option ℕ) → SoFar R h k found →
      MatchOption found (AtEach R h) (BreaksFirstAt (AtEach R) h)
  noted_all k over None kept = all_kept R h k over kept
  noted_all k over (Some j) first = first

at_each_after : (R : ℕ → Happened → Type 0) (before h : List Event) → EachEvent R h →
    AtEachAfter (λ before e. R e.stamp e.what) before h
at_each_after R before [] each = tt
at_each_after R before (e ∷ h) each = (each.0, at_each_after R (before ++ e ∷ []) h each.1)

pub at_each_event : (R : ℕ → Happened → Type 0) (h : List Event) → EachEvent R h →
    AtEach (λ before e. R e.stamp e.what) h
unfolding AtEach
at_each_event R h each = at_each_after R [] h each

pub decides_itself : (r : Bool) → Decides r (IsTrue r)
decides_itself true = refl
decides_itself false = λ same. false≢true same

-- a rule can be broken with one rank alone
pub names_one : (Keeps : ℕ → Type 0) (a : ℕ) (r : Bool) → ((i : ℕ) → (a == i) ≡ false → Keeps i) → Decides r (Keeps a) →
    Names Keeps (cond r None (Some a))
names_one Keeps a true others here i = by_rank (a == i) refl
  where
    by_rank : (b : Bool) → (a == i) ≡ b → Keeps i
    by_rank true same = subst Keeps (same_number a i same) here
    by_rank false apart = others i apart
names_one Keeps a false others here i = by_rank (a == i) refl
  where
    by_rank : (b : Bool) → (a == i) ≡ b → MatchBool b (Keeps i → ⊥) (Keeps i)
    by_rank true same = subst (λ (k : ℕ). Keeps k → ⊥) (same_number a i same) here
    by_rank false apart = others i apart

pub not_asked : (b : Bool) (P : Type 0) → b ≡ false → OnTrue b P
not_asked b P other = subst (λ (b : Bool). OnTrue b P) (sym other) tt

-- .. which is asked of it alone
pub names_on : (a : ℕ) (P : ℕ → Type 0) (r : Bool) → Decides r (P a) →
    Names (λ i. OnTrue (a == i) (P i)) (cond r None (Some a))
names_on a P r right =
    names_one (λ i. OnTrue (a == i) (P i)) a r (λ i apart. not_asked (a == i) (P i) apart)
    (subst (λ (b : Bool). Decides r (OnTrue b (P a))) (sym (eqb_self a)) right)

-- an arrival, by whether it was sent
pub arrival_names : (j n stamp : ℕ) (history : ℕ → List Event) (before : List Event) (a : Arrival) (r : Bool) →
    NumberAt n before (happening.Arrive a) →
    Decides r (IsSomeAnd (slice_get (sends (history a.env.from) j) a.n)
    (λ s. (a.env ≡ envelope a.env.from s) × (s.stamp < stamp))) →
    Names (λ i. ArrivesNext i j (history i) before stamp (happening.Arrive a)) (cond r None (Some a.env.from))
arrival_names j n stamp history before a r number right =
    names_on a.env.from (λ i. IsSomeAnd (slice_get (sends (history i) j) (length (arrivals before i)))
    (λ s. (a.env ≡ envelope i s) × (s.stamp < stamp))) r
    (subst (λ (k : ℕ). Decides r (IsSomeAnd (slice_get (sends (history a.env.from) j) k)
    (λ s. (a.env ≡ envelope a.env.from s) × (s.stamp < stamp)))) number.1 right)

pub no_arrival_names : (j stamp : ℕ) (history : ℕ → List Event) (before : List Event) (what : Happened) →
    ((a : Arrival) → what ≡ happening.Arrive a → ⊥) →
    Names (λ i. ArrivesNext i j (history i) before stamp what) None
no_arrival_names j stamp history before (happening.Arrive a) not = absurd (not a refl)
no_arrival_names j stamp history before what not = λ i. tt

-- a withdrawal, by whether it was recalled
pub withdrawal_names : (j stamp : ℕ) (history : ℕ → List Event) (from n : ℕ) (done r : Bool) →
    r ≡ happened (is_recall j n) (earlier_than stamp (history from)) →
    Names (λ i. WithdrawAfterRecall i j (history i) stamp (happening.Withdraw from n done)) (cond r None (Some from))
withdrawal_names j stamp history from n done r is =
    names_on from (λ i. IsTrue (happened (is_recall j n) (earlier_than stamp (history i)))) r
    (subst (λ (b : Bool). Decides r (IsTrue b)) is (decides_itself r))

pub no_withdrawal_names : (j stamp : ℕ) (history : ℕ → List Event) (what : Happened) →
    ((from n : ℕ) (done : Bool) → what ≡ happening.Withdraw from n done → ⊥) →
    Names (λ i. WithdrawAfterRecall i j (history i) stamp what) None
no_withdrawal_names j stamp history (happening.Withdraw from n done) not = absurd (not from n done refl)
no_withdrawal_names j stamp history what not = λ i. tt

-- the answer to a recall, by whether it was given
pub answer_names : (i stamp : ℕ) (history : ℕ → List Event) (to n : ℕ) (done r : Bool) →
    r ≡ happened (is_withdraw i n done) (earlier_than stamp (history to)) →
    Names (λ j. UndoneAfterWithdraw i j (history j) stamp (happening.Undone to n done)) (cond r None (Some to))
answer_names i stamp history to n done r is =
    names_on to (λ j. IsTrue (happened (is_withdraw i n done) (earlier_than stamp (history j)))) r
    (subst (λ (b : Bool). Decides r (IsTrue b)) is (decides_itself r))

pub no_answer_names : (i stamp : ℕ) (history : ℕ → List Event) (what : Happened) →
    ((to n : ℕ) (done : Bool) → what ≡ happening.Undone to n done → ⊥) →
    Names (λ j. UndoneAfterWithdraw i j (history j) stamp what) None
no_answer_names i stamp history (happening.Undone to n done) not = absurd (not to n done refl)
no_answer_names i stamp history what not = λ j. tt

-- a message that left, by whether it was sent by asking and is paired
pub out_names : (i stamp : ℕ) (history : ℕ → List Event) (before : List Event) (to n : ℕ) (asked paired r : Bool) →
    asked ≡ happened (is_asked_send to n) before → paired ≡ is_taken (earlier_than stamp (history to)) i n →
    Decides r (OnTrue asked (IsTrue paired)) →
    Names (λ j. OutAfterPair i j (history j) before stamp (happening.Out to n)) (cond r None (Some to))
out_names i stamp history before to n asked paired r a p right =
    names_one (λ j. OutAfterPair i j (history j) before stamp (happening.Out to n)) to r
    (λ j apart. not_asked (to == j && is_asked (sends before j) n)
    (IsTrue (is_taken (earlier_than stamp (history j)) i n))
    (ap (λ (b : Bool). b && is_asked (sends before j) n) apart))
    (subst (λ (b : Bool). Decides r
    (OnTrue (b && is_asked (sends before to) n) (IsTrue (is_taken (earlier_than stamp (history to)) i n))))
    (sym (eqb_self to))
    (subst (λ (b : Bool). Decides r (OnTrue b (IsTrue (is_taken (earlier_than stamp (history to)) i n))))
    (a ∙ sym (asked_sends before to n))
    (subst (λ (b : Bool). Decides r (OnTrue asked (IsTrue b))) p right)))

pub no_out_names : (i stamp : ℕ) (history : ℕ → List Event) (before : List Event) (what : Happened) →
    ((to n : ℕ) → what ≡ happening.Out to n → ⊥) →
    Names (λ j. OutAfterPair i j (history j) before stamp what) None
no_out_names i stamp history before (happening.Out to n) not = absurd (not to n refl)
no_out_names i stamp history before what not = λ j. tt

-- the rule at an event
pub rule_at : (R : List Event → Event → Type 0) (h : List Event) (k : ℕ) (e : Event) → k < length h →
    e ≡ get_or h k e → AtEach R h → R (take k h) e
rule_at R h k e inside is each =
    AtEach-split R (take k h) e (drop (k + 1) h)
    (subst (λ (g : List Event). AtEach R g) (split_at h k e inside is) each)
