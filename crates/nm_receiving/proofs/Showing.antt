-- The result of a receive by the tables, and what it shows.
use Rattle.std.specs.Prelude.{IfSome}
use Rattle.std.proofs.Common.{◌≡◌, ℕ, Bool, true, false, cond, if◌then◌else◌}
use Rattle.std.proofs.Common.{nat_lt, Option, Some, None, List}
use Rattle.std.proofs.Common.{length, replicate, refl, sym, ◌∙◌, ap, subst}
use Rattle.std.specs.List.{slice_get}
use Rattle.std.specs.Option.{option_and_then, option_map}
use Rattle.nm_types.specs.declared.answers.Answer.{Answer}
use Rattle.nm_types.specs.declared.answers.Answer.TheVariants as answer
use Rattle.nm_types.specs.declared.messages.Arrival.{Arrival}
use Rattle.nm_history.specs.declared.events.Event.{Event}
use Rattle.nm_history.specs.declared.plain.Pair.{Pair}
use Rattle.nm_history.specs.Answers.{without_bytes as answer_without_bytes}
use Rattle.nm_history.specs.Completion.{is_here, pair_of_receive, result_of, shown}
use Rattle.nm_history.specs.Completion.Request.{Receiving}
use Rattle.nm_history.specs.Matching.{pair_of_claimed as pair}
use Rattle.nm_receiving.specs.declared.receipts.Receipt.{Receipt}
use Rattle.nm_receiving.specs.declared.receipts.Receive.{Receive}
use Rattle.nm_receiving.specs.Receipts.{ReceivingView, ShowsBytes, bytes_of}
use Rattle.nm_receiving.specs.Receipts.{pair_at, pair_with, receipt_of}
use Rattle.nm_receiving.specs.Received.{AreReceived}
use Rattle.nm_receiving.proofs.Stood.{is_cancelled_at, is_whole_at}

-- the result by the tables
pub result_by : (v : ReceivingView) (h : List Event) → AreReceived v h → (number : ℕ) (r : Receive) →
    slice_get v.receives number ≡ Some r
    → result_of h (Receiving number)
    ≡ cond r.cancelled (Some answer.Cancelled)
    (option_and_then (λ a. cond (is_whole_at (receipt_of v a.env.from a.n)) (Some (shown (pair number r.cap a))) None)
    r.taken)
result_by v h received number r here =
    ap (λ (b : Bool). cond b (Some answer.Cancelled) (after (pair_of_receive h number)))
    (sym (received.cancelled number) ∙ ap is_cancelled_at here)
    ∙ ap (λ (o : Option Pair). cond r.cancelled (Some answer.Cancelled) (after o))
    (sym (received.pairs number) ∙ ap (λ (o : Option Receive). option_and_then (pair_with number) o) here)
    ∙ ap (λ (o : Option Answer). cond r.cancelled (Some answer.Cancelled) o) (by r.taken)
  where
    after : Option Pair → Option Answer
    after o = option_and_then (λ q. cond (is_here h q) (Some (shown q)) None) o

    by : (o : Option Arrival) → option_and_then (λ q. cond (is_here h q) (Some (shown q)) None)
        (option_map (pair number r.cap) o)
        ≡ option_and_then (λ a. cond (is_whole_at (receipt_of v a.env.from a.n)) (Some (shown (pair number r.cap a)))
        None) o
    by None = refl
    by (Some a) = ap (λ (b : Bool). cond b (Some (shown (pair number r.cap a))) None)
        (sym (received.whole a.env.from a.n))

pub result_cancelled : (v : ReceivingView) (h : List Event) → AreReceived v h → (number : ℕ) (r : Receive) →
    slice_get v.receives number ≡ Some r
    → r.cancelled ≡ true → result_of h (Receiving number) ≡ Some answer.Cancelled
result_cancelled v h received number r here is =
    result_by v h received number r here
    ∙ ap (λ (b : Bool). cond b (Some answer.Cancelled)
    (option_and_then (λ a. cond (is_whole_at (receipt_of v a.env.from a.n)) (Some (shown (pair number r.cap a))) None)
    r.taken)) is

pub result_untaken : (v : ReceivingView) (h : List Event) → AreReceived v h → (number : ℕ) (r : Receive) →
    slice_get v.receives number ≡ Some r
    → r.cancelled ≡ false → r.taken ≡ None → result_of h (Receiving number) ≡ None
result_untaken v h received number r here is none =
    result_by v h received number r here
    ∙ ap (λ (b : Bool). cond b (Some answer.Cancelled)
    (option_and_then (λ a. cond (is_whole_at (receipt_of v a.env.from a.n)) (Some (shown (pair number r.cap a))) None)
    r.taken)) is
    ∙ ap (λ (o : Option Arrival). option_and_then
    (λ a. cond (is_whole_at (receipt_of v a.env.from a.n)) (Some (shown (pair number r.cap a))) None) o) none

pub result_taken : (v : ReceivingView) (h : List Event) → AreReceived v h → (number : ℕ) (r : Receive) →
    slice_get v.receives number ≡ Some r
    → r.cancelled ≡ false → (a : Arrival) → r.taken ≡ Some a → (m : Receipt) → receipt_of v a.env.from a.n ≡ Some m
    → result_of h (Receiving number) ≡ cond m.whole (Some (shown (pair number r.cap a))) None
result_taken v h received number r here is a some m there =
    result_by v h received number r here
    ∙ ap (λ (b : Bool). cond b (Some answer.Cancelled)
    (option_and_then (λ a. cond (is_whole_at (receipt_of v a.env.from a.n)) (Some (shown (pair number r.cap a))) None)
    r.taken)) is
    ∙ ap (λ (o : Option Arrival). option_and_then
    (λ a. cond (is_whole_at (receipt_of v a.env.from a.n)) (Some (shown (pair number r.cap a))) None) o) some
    ∙ ap (λ (o : Option Receipt). cond (is_whole_at o) (Some (shown (pair number r.cap a))) None) there

-- what is shown of a message
abbrev pub answer_of_bytes : Arrival → ℕ → List ℕ → Answer
answer_of_bytes a cap body =
    if nat_lt cap a.env.len then answer.Cut a.env.from a.env.tag a.env.len else answer.Got a.env.from a.env.tag body

pub shown_is : (number cap : ℕ) (a : Arrival) (body : List ℕ) → length body ≡ a.env.len
    → answer_without_bytes (answer_of_bytes a cap body) ≡ shown (pair number cap a)
shown_is number cap a body len = by (nat_lt cap a.env.len) refl
  where
    by : (b : Bool) → nat_lt cap a.env.len ≡ b → answer_without_bytes (answer_of_bytes a cap body) ≡ shown
        (pair number cap a)
    by true is = rw is refl
    by false is = rw is (ap (λ (k : ℕ). answer.Got a.env.from a.env.tag (replicate k 0)) len)

pub pair_here : (v : ReceivingView) (number : ℕ) (r : Receive) → slice_get v.receives number ≡ Some r
    → (a : Arrival) → r.taken ≡ Some a → pair_at v number ≡ Some (pair number r.cap a)
pair_here v number r here a some =
    ap (λ (o : Option Receive). option_and_then (pair_with number) o) here
    ∙ ap (λ (o : Option Arrival). option_map (pair number r.cap) o) some

pub shows_bytes : (v : ReceivingView) (number : ℕ) (r : Receive) → slice_get v.receives number ≡ Some r →
    (a : Arrival) → r.taken ≡ Some a
    → (cap : ℕ) (body : List ℕ) → bytes_of v a ≡ Some body → ShowsBytes v number (answer_of_bytes a cap body)
shows_bytes v number r here a some cap body bytes = by (nat_lt cap a.env.len)
  where
    by : (b : Bool) → ShowsBytes v number
        (if b then answer.Cut a.env.from a.env.tag a.env.len else answer.Got a.env.from a.env.tag body)
    by true = tt
    by false = subst (λ (o : Option Pair). IfSome o (λ q. bytes_of v q.arrival ≡ Some body))
        (sym (pair_here v number r here a some)) bytes
