-- What is shown of a message, by what its sender sent before.
use Rattle.std.proofs.Common.{◌≡◌, ℕ, zero, suc, ◌<◌, ◌≤◌, ◌==◌, inl, inr, Bool, true, false}
use Rattle.std.proofs.Common.{Option, Some, None, List, [], ◌∷◌, ◌++◌, length, refl, sym, ◌∙◌, ap, subst, arith}
use Rattle.std.specs.Prelude.{Contains, IfSome, IsSomeAnd, option_and_then}
use Rattle.std.specs.Bool.{OnTrue}
use Rattle.std.specs.List.{AllByRecursion, list_any, slice_get}
use Rattle.std.proofs.lemmas.Bool.{false≢true}
use Rattle.std.proofs.lemmas.List.Elements.{All-contains}
use Rattle.nm_types.specs.declared.answers.Answer.TheVariants.{Got}
use Rattle.nm_types.specs.declared.messages.Arrival.{Arrival}
use Rattle.nm_types.specs.declared.scripts.Command.{Command}
use Rattle.nm_types.specs.declared.scripts.Command.TheVariants as command
use Rattle.nm_types.specs.Commands.{Numbered, command_at}
use Rattle.nm_history.specs.declared.events.Event.{Event}
use Rattle.nm_history.specs.declared.events.Happened.{Happened}
use Rattle.nm_history.specs.declared.events.Happened.TheVariants as event
use Rattle.nm_history.specs.declared.plain.Pair.{Pair}
use Rattle.nm_history.specs.Answers.{live}
use Rattle.nm_history.specs.Completion.{Request}
use Rattle.nm_history.specs.Completion.Request.{Receiving, Sending}
use Rattle.nm_history.specs.Delivery.{ArriveInOrder, BodyAt, ShowsBytes, asked_pair, pair_of_request}
use Rattle.nm_history.specs.Matching.{is_of_receive, matched_pairs}
use Rattle.nm_history.specs.Once.{IsOfReceive}
use Rattle.nm_history.specs.RankRun.{Always, NumberAt}
use Rattle.nm_history.specs.Sends.{Arrived, Sent, arrivals, messages, sends, sent_bytes}
use Rattle.nm_history.proofs.AppendLemmas.{sends-append}
use Rattle.nm_history.proofs.OnceLemmas.{eqb_self, none_passes}
use Rattle.nm_history.proofs.SelectionLemmas.{find_contains, matched_pairs_of_receives}
use Rattle.nm_match.specs.Deeds.{is_known_message, is_message}
use Rattle.nm_match.proofs.NumberLemmas.{messages_numbered}
use Rattle.nm_types.proofs.ListLemmas.{get_some}
use Rattle.nm_types.proofs.NumberLemmas.{same_number}
use Rattle.nm_types.proofs.OptionLemmas.{no_some, same_some}
use Rattle.nm_types.proofs.TruthLemmas.{both}
use Rattle.nm_outcomes.proofs.Early.{is_below, place_early, sends_late}
use Rattle.nm_types.proofs.ListLemmas.{all_at}

-- the pair that a wait or a test shows is of a message that came
pub pair_came : (h : List Event) (pair : Pair) → Contains (matched_pairs h) pair → Contains (messages h) pair.arrival
pair_came h pair inside = by_kind (All-contains (IsOfReceive h)
    (matched_pairs h) pair (matched_pairs_of_receives h) inside)
  where
    by_kind : IsOfReceive h pair → Contains (messages h) pair.arrival
    by_kind (inl posted) = posted.came
    by_kind (inr matched) = matched.came

asked_came : (commands : List Numbered) (h : List Event) (c : Command) (pair : Pair) →
    asked_pair commands h c ≡ Some pair → Contains (messages h) pair.arrival
asked_came commands h (command.Wait q) pair is = by_live (live commands h q) is
  where
    by_live : (o : Option Request) → option_and_then (pair_of_request h) o ≡ Some pair →
        Contains (messages h) pair.arrival
    by_live None is = absurd (no_some pair is)
    by_live (Some (Sending to n)) is = absurd (no_some pair is)
    by_live (Some (Receiving number)) is =
        pair_came h pair (find_contains (is_of_receive number) (matched_pairs h) pair is)
asked_came commands h (command.Test q) pair is = by_live (live commands h q) is
  where
    by_live : (o : Option Request) → option_and_then (pair_of_request h) o ≡ Some pair →
        Contains (messages h) pair.arrival
    by_live None is = absurd (no_some pair is)
    by_live (Some (Sending to n)) is = absurd (no_some pair is)
    by_live (Some (Receiving number)) is =
        pair_came h pair (find_contains (is_of_receive number) (matched_pairs h) pair is)
asked_came commands h c pair is = absurd (no_some pair is)

-- a message that came is known
pub came_known : (h : List Event) (a : Arrival) → Contains (messages h) a → is_known_message h a.env.from a.n ≡ true
unfolding is_known_message
came_known h a inside = by_test (list_any (is_message a.env.from a.n) (messages h)) refl
  where
    by_test : (b : Bool) → list_any (is_message a.env.from a.n) (messages h) ≡ b → b ≡ true
    by_test true is = refl
    by_test false is =
        absurd (false≢true (sym (All-contains (λ x. is_message a.env.from a.n x ≡ false) (messages h) a
        (none_passes (is_message a.env.from a.n) (messages h) is) inside)
        ∙ both (a.env.from == a.env.from) (a.n == a.n) (eqb_self a.env.from) (eqb_self a.n)))

-- the send of an arrival, at its place
pub sent_before : (from : ℕ) (ss : List Sent) (as' : List Arrived) (n : ℕ) (a : Arrived) → ArriveInOrder from ss as' →
    slice_get as' n ≡ Some a → (s : Sent) × (slice_get ss n ≡ Some s) × (s.stamp < a.stamp)
sent_before from ss [] n a order here = absurd (no_some a here)
sent_before from [] (b ∷ as') n a order here = absurd order
sent_before from (s ∷ ss) (b ∷ as') zero a order here =
    (s, refl, subst (λ (x : Arrived). s.stamp < x.stamp) (same_some b a here) order.1)
sent_before from (s ∷ ss) (b ∷ as') (suc n) a order here = sent_before from ss as' n a order.2 here

-- the bytes that are shown are those of a send that was made before
pub body_early : (i r t : ℕ) (ci cr : List Numbered) (ranks : ℕ) (whole front late before : List Event)
    (what : Happened) → whole ≡ front ++ late → AllByRecursion (λ (e : Event). t ≤ e.stamp) late →
    ArriveInOrder i (sends whole r) (arrivals before i) →
    AllByRecursion (λ (a : Arrived). a.stamp < t) (arrivals before i) →
    Always (NumberAt ranks) before →
    BodyAt i ci (sends whole r) cr before what → BodyAt i ci (sends front r) cr before what
body_early i r t ci cr ranks whole front late before (event.Ran line (Got source tag body)) split later order early
    numbers right = by_pair (option_and_then (asked_pair cr before) (command_at cr line)) refl right
  where
    came_by : (o : Option Command) (pair : Pair) → option_and_then (asked_pair cr before) o ≡ Some pair →
        Contains (messages before) pair.arrival
    came_by None pair is = absurd (no_some pair is)
    came_by (Some c) pair is = asked_came cr before c pair is

    shows : (pair : Pair) → Contains (messages before) pair.arrival → ShowsBytes i ci (sends whole r) body pair →
        ShowsBytes i ci (sends front r) body pair
    shows pair came = by_source (pair.arrival.env.from == i) refl
      where
        by_source : (b : Bool) → (pair.arrival.env.from == i) ≡ b →
            OnTrue b (IsSomeAnd (slice_get (sends whole r) pair.arrival.n)
            (λ s. IsSomeAnd (command_at ci s.line) (λ c. body ≡ sent_bytes c))) →
            OnTrue b (IsSomeAnd (slice_get (sends front r) pair.arrival.n)
            (λ s. IsSomeAnd (command_at ci s.line) (λ c. body ≡ sent_bytes c)))
        by_source true is shown =
            let low : pair.arrival.n < length (arrivals before i) =
            is_below pair.arrival.n (length (arrivals before i))
            (sym (messages_numbered ranks before numbers i pair.arrival.n)
            ∙ subst (λ (k : ℕ). is_known_message before k pair.arrival.n ≡ true)
            (same_number pair.arrival.env.from i is) (came_known before pair.arrival came)) in
            let a = get_some (arrivals before i) pair.arrival.n low in
            let s = sent_before i (sends whole r) (arrivals before i) pair.arrival.n a.0 order a.1 in
            let soon : s.0.stamp < t =
            (let x = s.2 in
            let y = all_at (λ (a : Arrived). a.stamp < t) (arrivals before i) pair.arrival.n a.0 early a.1 in
            omega (arith, x, y)) in
            let here : slice_get (sends front r) pair.arrival.n ≡ Some s.0 =
            place_early t (sends front r) (sends late r) pair.arrival.n s.0 (sends_late t late r later) soon
            (sym (ap (λ (ss : List Sent). slice_get ss pair.arrival.n)
            (ap (λ (h : List Event). sends h r) split ∙ sends-append front late r)) ∙ s.1) in
            subst (λ (o : Option Sent). IsSomeAnd o
            (λ s. IsSomeAnd (command_at ci s.line) (λ c. body ≡ sent_bytes c))) (s.1 ∙ sym here) shown
        by_source false is shown = tt

    by_pair : (o : Option Pair) → option_and_then (asked_pair cr before) (command_at cr line) ≡ o →
        IfSome o (ShowsBytes i ci (sends whole r) body) → IfSome o (ShowsBytes i ci (sends front r) body)
    by_pair None is right = tt
    by_pair (Some pair) is right = shows pair (came_by (command_at cr line) pair is) right
body_early i r t ci cr ranks whole front late before what split later order early numbers right = tt
