-- What became of a rank's names, by its commands that ran and their answers.
use Rattle.std.specs.Prelude.{ℕ, ◌==◌, Bool, true, false, not, ◌&&◌, ◌||◌, Option, Some, None}
use Rattle.std.specs.Prelude.{if◌then◌else◌, List, [], ◌∷◌, fold}
use Rattle.nm_types.specs.declared.answers.Answer.{Answer}
use Rattle.nm_types.specs.declared.answers.Answer.TheVariants as answer
use Rattle.nm_types.specs.declared.scripts.Command.{Command}
use Rattle.nm_types.specs.declared.messages.Peer.TheVariants as peer
use Rattle.nm_types.specs.declared.messages.TagPick.TheVariants as pick
use Rattle.nm_types.specs.declared.scripts.Command.TheVariants.{Send, Recv, Wait, Test}
use Rattle.nm_types.specs.Commands.{Numbered}
use Rattle.nm_history.specs.Answers.{is_question_of, is_start_of}
use Rattle.nm_persist.specs.Report.{is_result}

-- a send, a receive that names its source and its tag, a wait or a test: what persistent requests stand for
abbrev pub is_named : Command → Bool
is_named (Send to q tag ctx sync body) = true
is_named (Recv q (peer.One from) (pick.One tag) ctx cap) = true
is_named (Wait q) = true
is_named (Test q) = true
is_named _ = false

-- a command that ran, with its answer
pub record Done : Type 0 where
  pub own : Numbered
  pub answer : Answer

-- a command waits for the request of this name
abbrev pub is_wait_of : ℕ → Command → Bool
is_wait_of q (Wait q') = q' == q
is_wait_of q _ = false

-- a start was not waited for, after a command more
abbrev pub waits_after : ℕ → Bool → Command → Bool
waits_after q waits c = if is_start_of q c then true else if is_wait_of q c then false else waits

-- a start of a name was not waited for
abbrev pub waits_for : ℕ → Bool → List Command → Bool
waits_for q waits cs = fold (waits_after q) waits cs

-- each start of a name finds no start of it that was not waited for
abbrev pub are_apart : ℕ → Bool → List Command → Bool
are_apart q waits [] = true
are_apart q waits (c ∷ cs) = not (is_start_of q c && waits) && are_apart q (waits_after q waits c) cs

-- the answer says that a request isn't complete
abbrev pub is_no : Answer → Bool
is_no answer.No = true
is_no _ = false

-- no request has this name: it was waited for, or a test gave its result, after a command more
abbrev pub is_shut_after : ℕ → Bool → Done → Bool
is_shut_after q shut d =
    if is_start_of q d.own.command then false
    else if is_wait_of q d.own.command || (is_question_of q d.own.command && not (is_no d.answer)) then true
    else shut

-- no request has this name after these commands
abbrev pub is_shut : ℕ → List Done → Bool
is_shut q done = fold (is_shut_after q) true done

-- the last result under a name, after a command more
abbrev pub end_after : ℕ → Option Answer → Done → Option Answer
end_after q found d = if is_question_of q d.own.command && is_result d.answer then Some d.answer else found

-- the last result under a name among these commands
abbrev pub last_end : ℕ → List Done → Option Answer
last_end q done = fold (end_after q) None done
