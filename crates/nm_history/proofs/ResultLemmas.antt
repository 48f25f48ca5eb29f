-- What a request came to is a result, and what a start that was taken has.
use Rattle.std.proofs.Common.{◌≡◌, ℕ, Bool, true, false, ◌&&◌, not, cond, Option, Some, None, List, refl, sym, ◌∙◌, ap}
use Rattle.std.proofs.Common.{subst, arith}
use Rattle.std.specs.Prelude.{is_some, nat_lt, replicate}
use Rattle.std.specs.Option.{option_and_then}
use Rattle.nm_types.specs.declared.answers.Answer.{Answer}
use Rattle.nm_types.specs.declared.answers.Answer.TheVariants as answer
use Rattle.nm_types.specs.declared.scripts.Command.{Command}
use Rattle.nm_types.specs.declared.scripts.Command.TheVariants as command
use Rattle.nm_types.specs.Commands.{Numbered}
use Rattle.nm_history.specs.declared.events.Event.{Event}
use Rattle.nm_history.specs.declared.plain.Pair.{Pair}
use Rattle.nm_history.specs.Answers.{Message, answer_of, is_result, is_started, live, live_message, without_bytes}
use Rattle.nm_history.specs.Completion.{Request, is_complete, is_here, pair_of_receive, result_of, shown}
use Rattle.nm_history.specs.Completion.Request.{Sending, Receiving}
use Rattle.nm_history.specs.Happens.{happened, is_cancel, is_undone}
use Rattle.nm_history.specs.RankRun.{lacks_message}

-- a result is one
pub shown_is_result : (pair : Pair) (b : Bool) →
    is_result (cond b (answer.Cut pair.arrival.env.from pair.arrival.env.tag pair.arrival.env.len)
    (answer.Got pair.arrival.env.from pair.arrival.env.tag (replicate pair.arrival.env.len 0))) ≡ true
shown_is_result pair true = refl
shown_is_result pair false = refl

pub here_is_result : (h : List Event) (o : Option Pair) (a : Answer) →
    option_and_then (λ pair. cond (is_here h pair) (Some (shown pair)) None) o ≡ Some a → is_result a ≡ true
here_is_result h None a found = absurd (grind arith)
here_is_result h (Some pair) a found = at_pair (is_here h pair) found
  where
    at_pair : (b : Bool) → cond b (Some (shown pair)) None ≡ Some a → is_result a ≡ true
    at_pair true same = let is : shown pair ≡ a = cc in subst (λ (a : Answer). is_result a ≡ true) is
        (shown_is_result pair (nat_lt pair.cap pair.arrival.env.len))
    at_pair false same = absurd (grind arith)

pub choose_result : (b : Bool) (o : Option Answer) (a : Answer) → (o ≡ Some a → is_result a ≡ true) →
    cond b (Some answer.Cancelled) o ≡ Some a → is_result a ≡ true
choose_result true o a other same = let is : answer.Cancelled ≡ a = cc in
    subst (λ (a : Answer). is_result a ≡ true) is refl
choose_result false o a other same = other same

pub sent_is_result : (complete undone : Bool) (a : Answer) →
    cond complete (Some (cond undone answer.Cancelled answer.Sent)) None ≡ Some a → is_result a ≡ true
sent_is_result true true a same = let is : answer.Cancelled ≡ a = cc in
    subst (λ (a : Answer). is_result a ≡ true) is refl
sent_is_result true false a same = let is : answer.Sent ≡ a = cc in subst (λ (a : Answer). is_result a ≡ true) is refl
sent_is_result false undone a same = absurd (grind arith)

pub result_is_result : (h : List Event) (r : Request) (a : Answer) → result_of h r ≡ Some a → is_result a ≡ true
result_is_result h (Receiving number) a same =
    choose_result (happened (is_cancel number) h) _ a (here_is_result h (pair_of_receive h number) a) same
result_is_result h (Sending to n) a same =
    sent_is_result (is_complete h (Sending to n)) (happened (is_undone to n true) h) a same

-- and is one without its bytes, too
pub bytes_no_matter : (a : Answer) → is_result (without_bytes a) ≡ is_result a
bytes_no_matter (answer.Got from tag body) = refl
bytes_no_matter a = refl

-- what is no yes to a start is none without its bytes, too
not_started : (x y : Answer) → is_started y ≡ false → Some y ≡ Some (without_bytes x) → is_started x ≡ false
not_started x y none same =
    let is : y ≡ without_bytes x = cc in by_answer x (ap is_started (sym is) ∙ none)
  where
    by_answer : (x : Answer) → is_started (without_bytes x) ≡ false → is_started x ≡ false
    by_answer (answer.Got from tag body) none = refl
    by_answer x none = none

never : (b : Bool) → (b && false) ≡ false
never true = refl
never false = refl

-- a matched receive that was taken has a live message of its handle
pub taken_has_message : (commands : List Numbered) (h : List Event) (line : ℕ) (x : Answer) (c : Command) →
    answer_of commands h line c ≡ Some (without_bytes x) → (is_started x && lacks_message commands h c) ≡ false
taken_has_message commands h line x (command.Mrecv q m cap) right =
    by_message (is_some (live commands h q)) (live_message commands h m) right
  where
    by_message : (named : Bool) (o : Option Message) →
        Some (cond named answer.Busy (cond (is_some o) answer.Started answer.Null)) ≡ Some (without_bytes x) →
        (is_started x && not (is_some o)) ≡ false
    by_message named (Some message) right = never (is_started x)
    by_message true None right = ap (λ b. b && true) (not_started x answer.Busy refl right)
    by_message false None right = ap (λ b. b && true) (not_started x answer.Null refl right)
taken_has_message commands h line x c right = never (is_started x)
