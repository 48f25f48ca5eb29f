-- What a wait or a test may show by now. No answer tells at once that a message is whole or has left,
-- or that a recall was answered, so all of these may come just before the answer that needs them.
use Rattle.std.specs.Prelude.{◌≡◌, ℕ, ◌<◌, ◌==◌, ◌&&◌, ◌||◌, not, true, Bool, if◌then◌else◌, Option, Some, None}
use Rattle.std.specs.Prelude.{option_map, List}
use Rattle.std.specs.List.{list_any}
use Rattle.nm_types.specs.declared.answers.Answer.{Answer}
use Rattle.nm_types.specs.declared.answers.Answer.TheVariants as answer
use Rattle.nm_types.specs.declared.scripts.Line.{Line}
use Rattle.nm_types.specs.Sizes.{Sizes}
use Rattle.nm_history.specs.declared.events.Event.{Event}
use Rattle.nm_history.specs.Completion.{Request, is_taken, pair_of_receive, result_of, shown}
use Rattle.nm_history.specs.Completion.Request.{Receiving, Sending}
use Rattle.nm_history.specs.Happens.{happened, is_arrival, is_cancel, is_recall, is_withdraw}
use Rattle.nm_history.specs.Matching.{is_free_message, matched_pairs}
use Rattle.nm_history.specs.Sends.{Sent, is_ask, sends}
use Rattle.nm_outcomes.specs.Logs.{IsLog, Step, history_in}

-- message n was sent without asking
abbrev pub is_unasked : List Sent → ℕ → Bool
is_unasked ss n = list_any (λ s. s.n == n && not (is_ask s.how)) ss

-- message n of rank i to rank j may have left by now: it was sent without asking, or a receive has it
abbrev pub may_have_left : List Event → List Event → ℕ → ℕ → ℕ → Bool
may_have_left hi hj i j n = is_unasked (sends hi j) n || is_taken hj i n

-- a withdrawal of message n of this rank would be late: it came, and is not free
abbrev pub is_past_recall : List Event → ℕ → ℕ → Bool
is_past_recall h from n =
    happened (is_arrival from n) h && not (is_free_message h (matched_pairs h) from n)

-- what a request of rank i may end with by now
abbrev pub may_end_with : (ℕ → List Event) → ℕ → Request → Option Answer
may_end_with so_far i (Receiving number) =
    if happened (is_cancel number) (so_far i) then Some answer.Cancelled
    else option_map shown (pair_of_receive (so_far i) number)
may_end_with so_far i (Sending j n) =
    if happened (is_withdraw i n true) (so_far j) then Some answer.Cancelled
    else if may_have_left (so_far i) (so_far j) i j n
    && (not (happened (is_recall j n) (so_far i)) || is_past_recall (so_far j) i n)
    then Some answer.Sent
    else None

-- the request is a receive, or a send to a rank of the run
abbrev pub IsWithin : ℕ → Request → Type 0
IsWithin ranks (Receiving number) = Unit {0}
IsWithin ranks (Sending to n) = to < ranks

-- in a log each result is one that the request may end with by then
abbrev pub ResultsMayCome : Type 0
ResultsMayCome =
    (shape : Sizes) (lines : List Line) (log : List Step) → IsLog shape lines log →
    (i : ℕ) → i < shape.ranks → (request : Request) → IsWithin shape.ranks request → (a : Answer) →
    result_of (history_in log i) request ≡ Some a → may_end_with (history_in log) i request ≡ Some a
