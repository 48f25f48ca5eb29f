-- What stands against an event, by the rules on whole messages, on ends and on cancels.
use Rattle.std.specs.Prelude.{Bool, true, false, not, ◌&&◌, ◌||◌, if◌then◌else◌, Option, Some, None, List}
use Rattle.std.specs.List.{list_any}
use Rattle.nm_history.specs.declared.events.Event.{Event}
use Rattle.nm_history.specs.declared.events.Happened.{Happened}
use Rattle.nm_history.specs.declared.events.Happened.TheVariants.{Whole, Out, Cancel, Recall, Withdraw, Undone, Match}
use Rattle.nm_history.specs.Completion.{is_taken}
use Rattle.nm_history.specs.Happens.{happened, is_arrival, is_claim, is_out, is_recall, is_send, is_undone, is_whole}
use Rattle.nm_history.specs.Happens.{is_withdraw}
use Rattle.nm_history.specs.Matching.{is_free_message, is_of_receive, matched_pairs}
use Rattle.nm_history.specs.RankRun.{is_asking}
use Rattle.nm_check_rank.specs.declared.paired.objections.Objection.{Objection}
use Rattle.nm_check_rank.specs.declared.paired.objections.Objection.TheVariants as against

-- it happened before, or something else had to be before it, and was not
abbrev pub once_after : Bool → Bool → Objection → Option Objection
once_after again there lacks = if again then Some against.Again else if there then None else Some lacks

-- the word of an answer of yes or no, where it is to be this one
abbrev pub word_after : Bool → Bool → Option Objection
word_after true true = None
word_after false false = None
word_after true false = Some against.Done
word_after false true = Some against.Late

-- the first of two, if there is one
abbrev pub either : Option Objection → Option Objection → Option Objection
either (Some a) b = Some a
either None b = b

-- what stands against a message that is whole: it was before, or had not come, or was sent by asking and no
-- receive had taken it
abbrev pub whole_objection : List Event → Happened → Option Objection
whole_objection before (Whole from n) =
    either (once_after (happened (is_whole from n) before) (happened (is_arrival from n) before) against.NotCome)
    (if happened (is_asking from n) before && not (is_taken before from n) then Some against.NotTaken else None)
whole_objection before what = None

-- .. against a withdrawal, a message that leaves, and the answer to a recall: it was before, or its message had not
-- come, was not sent, or not recalled; or the withdrawal has the other word
abbrev pub end_objection : List Event → Happened → Option Objection
end_objection before (Withdraw from n done) =
    either
    (once_after (happened (is_withdraw from n true) before || happened (is_withdraw from n false) before)
    (happened (is_arrival from n) before) against.NotCome)
    (word_after (is_free_message before (matched_pairs before) from n) done)
end_objection before (Out to n) =
    once_after (happened (is_out to n) before) (happened (is_send to n) before) against.NotSent
end_objection before (Undone to n done) =
    once_after (happened (is_undone to n true) before || happened (is_undone to n false) before)
    (happened (is_recall to n) before) against.NotRecalled
end_objection before what = None

-- .. against the cancel of a receive and a recall: it has the other word, or was before, or its message was not sent
abbrev pub cancel_objection : List Event → Happened → Option Objection
cancel_objection before (Cancel number done) =
    word_after (not (list_any (is_of_receive number) (matched_pairs before))) done
cancel_objection before (Recall to n) =
    once_after (happened (is_recall to n) before) (happened (is_send to n) before) against.NotSent
cancel_objection before what = None

-- .. against the receive of a claimed message: a receive had taken it, or it was not claimed
abbrev pub match_objection : List Event → Happened → Option Objection
match_objection before (Match number from n cap line) =
    if is_taken before from n then Some against.Taken
    else if happened (is_claim from n) before then None else Some against.NotClaimed
match_objection before what = None
