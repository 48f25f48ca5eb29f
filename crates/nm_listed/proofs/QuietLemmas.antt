-- Quiet steps that may come next in a log: a message is whole, has left, is withdrawn too late, and a recall is
-- answered.
use Rattle.std.proofs.Common.{◌≡◌, ℕ, zero, suc, ◌<◌, ◌==◌, ◌&&◌, ◌||◌, not, Bool, true, false, cond}
use Rattle.std.proofs.Common.{Some, None, List, [], ◌∷◌, ◌++◌, length, refl, sym, ◌∙◌, ap, subst}
use Rattle.std.specs.Prelude.{IsTrue}
use Rattle.std.specs.List.{slice_get}
use Rattle.std.proofs.lemmas.Bool.{false≢true}
use Rattle.nm_types.specs.declared.messages.Envelope.{Envelope}
use Rattle.nm_types.specs.declared.scripts.Line.{Line}
use Rattle.nm_types.specs.Sizes.{Sizes}
use Rattle.nm_types.proofs.NumberLemmas.{same_number}
use Rattle.nm_types.proofs.OptionLemmas.{same_some}
use Rattle.nm_types.proofs.TruthLemmas.{and_left, and_right, both, three_parts}
use Rattle.nm_history.specs.declared.events.Event.{Event}
use Rattle.nm_history.specs.declared.events.Happened.{Happened}
use Rattle.nm_history.specs.declared.events.Happened.TheVariants as event
use Rattle.nm_history.specs.AtEach.{AtEach}
use Rattle.nm_history.specs.Completion.{is_taken}
use Rattle.nm_history.specs.Delivery.{ArriveInOrder, earlier_than, is_asked}
use Rattle.nm_history.specs.Happens.{happened, is_arrival, is_out, is_recall, is_send, is_undone, is_whole, is_withdraw}
use Rattle.nm_history.specs.Matching.{is_free_message, matched_pairs}
use Rattle.nm_history.specs.RankRun.{NumberAt, is_asking}
use Rattle.nm_history.specs.Sends.{Arrived, Sent, arrivals, envelope, is_ask, sends}
use Rattle.nm_history.proofs.AppendLemmas.{arrivals-append}
use Rattle.nm_history.proofs.AtEachLemmas.{AtEach-split}
use Rattle.nm_history.proofs.Basic.{on_test}
use Rattle.nm_history.proofs.OnceLemmas.{eqb_self}
use Rattle.nm_sure.proofs.Lists.{any_at}
use Rattle.nm_outcomes.specs.Logs.{IsLog, Step, history_in}
use Rattle.nm_outcomes.specs.Results.{is_past_recall, is_unasked, may_have_left}
use Rattle.nm_outcomes.proofs.HappenedLemmas.{split_any}
use Rattle.nm_outcomes.proofs.LogLemmas.{all_delivered}
use Rattle.nm_outcomes.proofs.SentLemmas.{AreNumbered, sends_numbered}
use Rattle.nm_explored.proofs.PlacedLemmas.{numbers_in}
use Rattle.nm_listed.proofs.TellLemmas.{AreEarly, MayBe, early_all}

-- a message is sent by asking or without, and not both
pub asked_or_not : (h : List Event) (j n : ℕ) → AreNumbered h → is_asked (sends h j) n ≡ true →
    is_unasked (sends h j) n ≡ true → ⊥
asked_or_not h j n numbered asked plain =
    let a = any_at (λ (s : Sent). s.n == n && is_ask s.how) (sends h j) asked in
    let b = any_at (λ (s : Sent). s.n == n && not (is_ask s.how)) (sends h j) plain in
    let place : a.0 ≡ b.0 =
    sym (numbered j a.0 a.1 a.2) ∙ same_number a.1.n n (and_left (a.1.n == n) (is_ask a.1.how) a.3)
    ∙ sym (same_number b.1.n n (and_left (b.1.n == n) (not (is_ask b.1.how)) b.3)) ∙ numbered j b.0 b.1 b.2 in
    let same : a.1 ≡ b.1 =
    same_some a.1 b.1 (sym a.2 ∙ ap (λ (k : ℕ). slice_get (sends h j) k) place ∙ b.2) in
    false≢true
    (sym (ap not (and_right (a.1.n == n) (is_ask a.1.how) a.3))
    ∙ ap (λ (s : Sent). not (is_ask s.how)) same ∙ and_right (b.1.n == n) (not (is_ask b.1.how)) b.3)

-- the send of an arrival
pub sent_as : (from : ℕ) (ss : List Sent) (xs : List Arrived) (a : Arrived) (ys : List Arrived) →
    ArriveInOrder from ss (xs ++ a ∷ ys) → (s : Sent) × (slice_get ss (length xs) ≡ Some s)
    × (a.arrival.env ≡ envelope from s)
sent_as from [] [] a ys order = absurd order
sent_as from (s ∷ ss) [] a ys order = (s, refl, order.0)
sent_as from [] (x ∷ xs) a ys order = absurd order
sent_as from (s ∷ ss) (x ∷ xs) a ys order = sent_as from ss xs a ys order.2

any_here : (n : ℕ) (ss : List Sent) (k : ℕ) (s : Sent) → slice_get ss k ≡ Some s → (s.n == n) ≡ true →
    is_ask s.how ≡ true → is_asked ss n ≡ true
any_here n (x ∷ ss) zero s here number ask =
    let same : x ≡ s = same_some x s here in
    first (x.n == n && is_ask x.how)
    (ap (λ (x : Sent). x.n == n && is_ask x.how) same ∙ both (s.n == n) (is_ask s.how) number ask)
  where
    first : (b : Bool) → b ≡ true → (b || is_asked ss n) ≡ true
    first true is = refl
    first false is = absurd (false≢true is)
any_here n (x ∷ ss) (suc k) s here number ask = behind (x.n == n && is_ask x.how) (any_here n ss k s here number ask)
  where
    behind : (b : Bool) → is_asked ss n ≡ true → (b || is_asked ss n) ≡ true
    behind true later = refl
    behind false later = later
any_here n [] k s here number ask = absurd (none here)
  where
    none : None ≡ Some s → ⊥
    none is = cc

module _ (shape : Sizes) (lines : List Line) (log : List Step) (is_log : IsLog shape lines log) (t : ℕ)
    (early : (j : ℕ) → AreEarly t (history_in log j)) where
  pub late_may : (i j n : ℕ) → happened (is_recall j n) (history_in log i) ≡ true →
      is_past_recall (history_in log j) i n ≡ true → happened (is_withdraw i n true) (history_in log j) ≡ false →
      happened (is_withdraw i n false) (history_in log j) ≡ false → MayBe shape lines log t j (event.Withdraw i n false)
  late_may i j n recalled past never none = record {
    answers = tt;
    starts = tt;
    numbers = tt;
    cancels = tt;
    wholes = tt;
    ends = (
      never,
      none,
      and_left (happened (is_arrival i n) (history_in log j)) _ past,
      not_free (is_free_message (history_in log j) (matched_pairs (history_in log j)) i n)
          (and_right (happened (is_arrival i n) (history_in log j)) _ past),
    );
    claims = tt;
    outs = λ j low. tt;
    answered = λ j low. tt;
    comes = λ k low. tt;
    body = λ k low. tt;
    asked = λ k low. on_test (i == k)
        (λ is.
        subst (λ (k : ℕ). IsTrue (happened (is_recall j n) (earlier_than t (history_in log k)))) (same_number i k is)
        (subst (λ (g : List Event). IsTrue (happened (is_recall j n) g))
        (sym (early_all t (history_in log i) (early i))) recalled));
  }
    where
      not_free : (b : Bool) → not b ≡ true → false ≡ b
      not_free false is = refl
      not_free true is = absurd (false≢true is)

  pub undone_may : (i j n : ℕ) (done : Bool) → happened (is_undone j n true) (history_in log i) ≡ false →
      happened (is_undone j n false) (history_in log i) ≡ false →
      happened (is_recall j n) (history_in log i) ≡ true →
      happened (is_withdraw i n done) (history_in log j) ≡ true → MayBe shape lines log t i (event.Undone j n done)
  undone_may i j n done never none recalled withdrawn = record {
    answers = tt;
    starts = tt;
    numbers = tt;
    cancels = tt;
    wholes = tt;
    ends = (never, none, recalled);
    claims = tt;
    outs = λ j low. tt;
    answered = λ k low. on_test (j == k)
        (λ is.
        subst (λ (k : ℕ). IsTrue (happened (is_withdraw i n done) (earlier_than t (history_in log k))))
        (same_number j k is)
        (subst (λ (g : List Event). IsTrue (happened (is_withdraw i n done) g))
        (sym (early_all t (history_in log j) (early j))) withdrawn));
    comes = λ k low. tt;
    body = λ k low. tt;
    asked = λ k low. tt;
  }

  pub out_may : (i j n : ℕ) → happened (is_out j n) (history_in log i) ≡ false →
      happened (is_send j n) (history_in log i) ≡ true →
      may_have_left (history_in log i) (history_in log j) i j n ≡ true → MayBe shape lines log t i (event.Out j n)
  out_may i j n none sent left = record {
    answers = tt;
    starts = tt;
    numbers = tt;
    cancels = tt;
    wholes = tt;
    ends = (none, sent);
    claims = tt;
    outs = λ k low. on_test (j == k && is_asked (sends (history_in log i) k) n)
        (λ is.
        let same : j ≡ k = same_number j k (and_left (j == k) _ is) in
        subst (λ (k : ℕ). IsTrue (is_taken (earlier_than t (history_in log k)) i n)) same
        (subst (λ (g : List Event). IsTrue (is_taken g i n)) (sym (early_all t (history_in log j) (early j)))
        (taken_by (is_unasked (sends (history_in log i) j) n) refl left
        (subst (λ (k : ℕ). is_asked (sends (history_in log i) k) n ≡ true) (sym same)
        (and_right (j == k) (is_asked (sends (history_in log i) k) n) is)))));
    answered = λ k low. tt;
    comes = λ k low. tt;
    body = λ k low. tt;
    asked = λ k low. tt;
  }
    where
      taken_by : (b : Bool) → is_unasked (sends (history_in log i) j) n ≡ b →
          (b || is_taken (history_in log j) i n) ≡ true → is_asked (sends (history_in log i) j) n ≡ true →
          is_taken (history_in log j) i n ≡ true
      taken_by false plain left asked = left
      taken_by true plain left asked =
          absurd (asked_or_not (history_in log i) j n
          (sends_numbered shape.ranks (history_in log i) (numbers_in shape lines log is_log i)) asked plain)

  pub whole_may : (i j n : ℕ) → happened (is_whole i n) (history_in log j) ≡ false →
      happened (is_arrival i n) (history_in log j) ≡ true →
      (happened (is_asking i n) (history_in log j) ≡ true → is_taken (history_in log j) i n ≡ true) →
      MayBe shape lines log t j (event.Whole i n)
  whole_may i j n none came asked = record {
    answers = tt;
    starts = tt;
    numbers = tt;
    cancels = tt;
    wholes = (none, came, on_test (happened (is_asking i n) (history_in log j)) asked);
    ends = tt;
    claims = tt;
    outs = λ j low. tt;
    answered = λ j low. tt;
    comes = λ k low. tt;
    body = λ k low. tt;
    asked = λ k low. tt;
  }

  -- a message that came by asking was sent so
  pub asking_asked : (i j n : ℕ) → i < shape.ranks → j < shape.ranks →
      happened (is_asking i n) (history_in log j) ≡ true → is_asked (sends (history_in log i) j) n ≡ true
  asking_asked i j n low below asking =
      let spot = split_any (is_asking i n) (history_in log j) asking in
      by_event spot.1.what spot.1.stamp spot.4 spot.0
      (AtEach-split (λ b e. NumberAt shape.ranks b e.what) spot.0 spot.1 spot.2
      (subst (λ (h : List Event). AtEach (λ b e. NumberAt shape.ranks b e.what) h) spot.3
      (numbers_in shape lines log is_log j))) spot.2 spot.3
    where
      order : ArriveInOrder i (sends (history_in log i) j) (arrivals (history_in log j) i)
      order = (all_delivered shape lines log is_log i j low below).messages

      by_event : (what : Happened) (stamp : ℕ) → is_asking i n what ≡ true →
          (before : List Event) → NumberAt shape.ranks before what → (rest : List Event) →
          history_in log j ≡ before ++ record { stamp = stamp; what = what } ∷ rest →
          is_asked (sends (history_in log i) j) n ≡ true
      by_event (event.Arrive a) stamp is before number rest split =
          let parts = three_parts (a.env.from == i) (a.n == n) (is_ask a.env.how) is in
          let from : a.env.from ≡ i = same_number a.env.from i parts.0 in
          let number_is : length (arrivals before i) ≡ n =
          ap (λ (k : ℕ). length (arrivals before k)) (sym from) ∙ sym number.1 ∙ same_number a.n n parts.1 in
          let whole : arrivals (history_in log j) i
          ≡ arrivals before i ++ record { stamp = stamp; arrival = a } ∷ arrivals rest i =
          ap (λ (h : List Event). arrivals h i) split
          ∙ arrivals-append before (record { stamp = stamp; what = event.Arrive a } ∷ rest) i
          ∙ ap (λ (b : Bool). arrivals before i ++ cond b (record { stamp = stamp; arrival = a } ∷ arrivals rest i)
          (arrivals rest i)) parts.0 in
          let s = sent_as i (sends (history_in log i) j) (arrivals before i) (record { stamp = stamp; arrival = a })
          (arrivals rest i)
          (subst (λ (as' : List Arrived). ArriveInOrder i (sends (history_in log i) j) as') whole order) in
          any_here n (sends (history_in log i) j) (length (arrivals before i)) s.0 s.1
          (number_so s.0.n
          (sends_numbered shape.ranks (history_in log i) (numbers_in shape lines log is_log i) j
          (length (arrivals before i)) s.0 s.1 ∙ number_is))
          (ap (λ (env : Envelope). is_ask env.how) (sym s.2) ∙ parts.2)
        where
          number_so : (k : ℕ) → k ≡ n → (k == n) ≡ true
          number_so k same = ap (λ (x : ℕ). x == n) same ∙ eqb_self n
      by_event what stamp is before number rest split = absurd (false≢true is)

  pub whole_plain : (i j n : ℕ) → i < shape.ranks → j < shape.ranks →
      may_have_left (history_in log i) (history_in log j) i j n ≡ true →
      happened (is_asking i n) (history_in log j) ≡ true → is_taken (history_in log j) i n ≡ true
  whole_plain i j n low below left asking =
      taken_by (is_unasked (sends (history_in log i) j) n) refl left
    where
      taken_by : (b : Bool) → is_unasked (sends (history_in log i) j) n ≡ b →
          (b || is_taken (history_in log j) i n) ≡ true → is_taken (history_in log j) i n ≡ true
      taken_by false plain left = left
      taken_by true plain left =
          absurd (asked_or_not (history_in log i) j n
          (sends_numbered shape.ranks (history_in log i) (numbers_in shape lines log is_log i))
          (asking_asked i j n low below asking) plain)
