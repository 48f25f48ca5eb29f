-- What is called for at the answer to a cancel.
use Rattle.std.specs.Prelude.{ℕ, ◌==◌, ◌&&◌, Bool, not, if◌then◌else◌, Option, Some, None, List, [], ◌∷◌}
use Rattle.std.specs.Prelude.{option_and_then, option_map}
use Rattle.std.specs.List.{list_any}
use Rattle.nm_types.specs.Commands.{Numbered, command_at}
use Rattle.nm_history.specs.declared.events.Event.{Event}
use Rattle.nm_history.specs.declared.events.Happened.{Happened}
use Rattle.nm_history.specs.declared.events.Happened.TheVariants.{Cancel, Ran, Recall}
use Rattle.nm_history.specs.Answers.{live}
use Rattle.nm_history.specs.Completion.{Request as Meant}
use Rattle.nm_history.specs.Completion.Request.{Sending as sending, Receiving as receiving}
use Rattle.nm_history.specs.Happens.{happened, is_recall}
use Rattle.nm_history.specs.Matching.{is_of_receive, matched_pairs}
use Rattle.nm_history.specs.RankRun.{cancels_since, is_canceller}
use Rattle.nm_lookups.specs.AskedFor.{name_of}
use Rattle.nm_lookups.specs.declared.asked.requests.Request.TheVariants.{Sending, Receiving}
use Rattle.nm_check_rank.specs.Manies.{many_due, many_of}
use Rattle.nm_check_rank.specs.Objections.{cancel_objection, word_after}
use Rattle.nm_check_rank.specs.declared.paired.dues.Due.{Due}
use Rattle.nm_check_rank.specs.declared.paired.dues.Due.TheVariants as due
use Rattle.nm_check_rank.specs.declared.paired.manies.Many.TheVariants as many
use Rattle.nm_check_rank.specs.declared.paired.objections.Objection.TheVariants as against

-- a cancel is of another request than this receive, or it has the other word
abbrev pub receive_due : ℕ → Bool → Happened → Option Due
receive_due number paired (Cancel found done) =
    if number == found then option_map due.Against (word_after (not paired) done)
    else Some (due.Of (Receiving number) (Receiving found))
receive_due number paired (Recall to n) = Some (due.Of (Receiving number) (Sending to n))
receive_due number paired w = None

-- .. than this send
abbrev pub send_due : ℕ → ℕ → Happened → Option Due
send_due to n (Recall found m) =
    if to == found && n == m then None else Some (due.Of (Sending to n) (Sending found m))
send_due to n (Cancel number done) = Some (due.Of (Sending to n) (Receiving number))
send_due to n w = None

-- the cancel of a receive has one event
abbrev pub receive_cancels : ℕ → Bool → List Happened → Option Due
receive_cancels number paired (w ∷ []) = receive_due number paired w
receive_cancels number paired found = many_due many.One (many_of found)

-- .. and that of a send has one, or none where it was recalled before
abbrev pub send_cancels : ℕ → ℕ → Bool → List Happened → Option Due
send_cancels to n recalled [] = if recalled then None else Some (due.Against against.NotRecalled)
send_cancels to n recalled (w ∷ []) = send_due to n w
send_cancels to n recalled found = many_due many.One (many_of found)

-- by the request that is cancelled, if there is one
abbrev pub cancels_due : List Event → Option Meant → List Happened → Option Due
cancels_due before None found = many_due many.Nothing (many_of found)
cancels_due before (Some (receiving number)) found =
    receive_cancels number (list_any (is_of_receive number) (matched_pairs before)) found
cancels_due before (Some (sending to n)) found = send_cancels to n (happened (is_recall to n) before) found

-- the live request of the name of a line's cancel
abbrev pub cancelled : List Numbered → List Event → ℕ → Option Meant
cancelled commands before line =
    option_and_then (λ c. if is_canceller c then option_and_then (live commands before) (name_of c) else None)
    (command_at commands line)

-- what is called for at an answer by the cancels since the answer before, and what stands against a cancel
abbrev pub cancel_due : List Numbered → List Event → Happened → Option Due
cancel_due commands before (Ran line answer) =
    cancels_due before (cancelled commands before line) (cancels_since before)
cancel_due commands before w = option_map due.Against (cancel_objection before w)
