-- The log that is made of moves: each stands in it as its event. What is no move stands just before the result that
-- needs it, or behind all moves.
use Rattle.std.specs.Prelude.{ℕ, zero, suc, ◌+◌, ◌||◌, Bool, true, false, if◌then◌else◌, Option, Some, None, List, [], ◌∷◌}
use Rattle.std.specs.Prelude.{◌++◌, count_by, find, length, option_and_then, replicate}
use Rattle.std.specs.List.{list_any, slice_get, slice_set}
use Rattle.std.specs.Option.{option_map_or}
use Rattle.nm_types.specs.declared.scripts.Command.{Command}
use Rattle.nm_types.specs.declared.scripts.Command.TheVariants as command
use Rattle.nm_types.specs.declared.scripts.Line.{Line}
use Rattle.nm_types.specs.Commands.{command_at, commands_of}
use Rattle.nm_history.specs.declared.events.Happened.{Happened}
use Rattle.nm_history.specs.declared.events.Happened.TheVariants as event
use Rattle.nm_history.specs.Answers.{is_result}
use Rattle.nm_history.specs.Completion.{Request}
use Rattle.nm_history.specs.Completion.Request.{Receiving, Sending}
use Rattle.nm_history.specs.Happens.{happened, is_out, is_recall, is_undone, is_whole, is_withdraw}
use Rattle.nm_history.specs.Matching.{is_of_message, is_of_receive}
use Rattle.nm_outcomes.specs.Deeds.{answer_meant, happening}
use Rattle.nm_outcomes.specs.Logs.{Step, history_in}
use Rattle.nm_outcomes.specs.Looks.{is_send_by, is_unasked_by, live_in}
use Rattle.nm_outcomes.specs.RankStates.{Spot, first_spot, is_cancel_by}
use Rattle.nm_outcomes.specs.declared.spots.deeds.Deed.TheVariants as deed
use Rattle.nm_outcomes.specs.declared.spots.deeds.Reply.{Reply}
use Rattle.nm_explored.specs.declared.choices.moves.Move.{Move}
use Rattle.nm_explored.specs.declared.choices.moves.Move.TheVariants as move
use Rattle.nm_explored.specs.declared.choices.moves.Turn.{Turn}
use Rattle.nm_explored.specs.Moves.{moved_at}

-- the stamp of the next event: events are numbered 1, 2, 3 and so on
abbrev pub clock : List Step → ℕ
clock log = length log + 1

-- the log with an event of rank i more
abbrev pub pushed : List Step → ℕ → Happened → List Step
pushed log i what = log ++ record { rank = i; event = record { stamp = clock log; what = what } } ∷ []

-- message n of rank `from` is whole at rank i
abbrev pub with_whole : List Step → ℕ → ℕ → ℕ → List Step
with_whole log i from n =
    if happened (is_whole from n) (history_in log i) then log else pushed log i (event.Whole from n)

-- message n of rank i to rank `to` has left
abbrev pub with_out : List Step → ℕ → ℕ → ℕ → List Step
with_out log i to n = if happened (is_out to n) (history_in log i) then log else pushed log i (event.Out to n)

-- it was to be withdrawn, too late
abbrev pub with_late : List Step → ℕ → ℕ → ℕ → List Step
with_late log i to n =
    if happened (is_withdraw i n false) (history_in log to) then log else pushed log to (event.Withdraw i n false)

-- the answer to its recall came back
abbrev pub with_undone : List Step → ℕ → ℕ → ℕ → Bool → List Step
with_undone log i to n done =
    if happened (is_undone to n true) (history_in log i) || happened (is_undone to n false) (history_in log i) then log
    else pushed log i (event.Undone to n done)

-- a recall is answered: that the message was withdrawn, or that it was too late
abbrev pub with_answer : List Step → ℕ → ℕ → ℕ → List Step
with_answer log i to n =
    if happened (is_withdraw i n true) (history_in log to) then with_undone log i to n true
    else with_undone (with_late log i to n) i to n false

-- so it is if the message was recalled
abbrev pub answered : List Step → ℕ → ℕ → ℕ → List Step
answered log i to n = if happened (is_recall to n) (history_in log i) then with_answer log i to n else log

-- what the result of a send needs: the answer to a recall, and that the message left unless it was withdrawn
abbrev pub before_sent : List Step → ℕ → ℕ → ℕ → List Step
before_sent log i to n =
    if happened (is_withdraw i n true) (history_in log to) then answered log i to n
    else with_out (answered log i to n) i to n

-- what the result of a receive needs: that its message is whole, unless it was cancelled
abbrev pub before_got : List Step → ℕ → Spot → ℕ → List Step
before_got log i spot number =
    if list_any (is_cancel_by number) spot.deeds then log
    else option_map_or (λ pair. with_whole log i pair.arrival.env.from pair.arrival.n)
    (find (is_of_receive number) spot.pairs) log

-- what the result of a request needs
abbrev pub before_result : List Step → ℕ → Spot → Request → List Step
before_result log i spot (Sending to n) = before_sent log i to n
before_result log i spot (Receiving number) = before_got log i spot number

-- the name of a command that asks for the result of its request
abbrev pub name_asked : Command → Option ℕ
name_asked (command.Wait q) = Some q
name_asked (command.Test q) = Some q
name_asked _ = None

-- the request that the command of a line asks for
abbrev pub request_asked : List Line → ℕ → Spot → ℕ → Option Request
request_asked lines i spot line =
    option_and_then (λ c. option_and_then (live_in lines i spot.deeds) (name_asked c))
    (command_at (commands_of i lines) line)

-- what the answer of a line needs: only results need anything
abbrev pub before_answer : List Line → List Step → ℕ → Spot → ℕ → Reply → List Step
before_answer lines log i spot line r =
    if is_result (answer_meant lines r) then option_map_or (before_result log i spot)
    (request_asked lines i spot line) log
    else log

-- what a move needs
abbrev pub before_move : List Line → List Step → ℕ → Spot → Move → List Step
before_move lines log i spot (move.Act (deed.Ran line r)) = before_answer lines log i spot line r
before_move lines log i spot _ = log

-- the event of a move
abbrev pub event_of_move : List Line → Move → Happened
event_of_move lines (move.Act d) = happening lines d
event_of_move lines (move.Arrive a) = event.Arrive a
event_of_move lines (move.Withdraw m) = event.Withdraw m.rank m.n true

-- the log after a move
abbrev pub after_move : List Line → List Step → ℕ → Spot → Move → List Step
after_move lines log i spot by = pushed (before_move lines log i spot by) i (event_of_move lines by)

-- a log, and the states of the ranks after it
pub record Telling : Type 0 where
  pub log : List Step
  pub states : List Spot

-- the log and the states after a turn
abbrev pub told_next : List Line → Telling → Turn → Telling
told_next lines t turn =
    option_map_or (λ spot. record {
      log = after_move lines t.log turn.rank spot turn.by;
      states = slice_set t.states turn.rank (moved_at spot turn.by);
    }) (slice_get t.states turn.rank) t

-- nothing was told
abbrev pub first_told : ℕ → Telling
first_told ranks = record { log = []; states = replicate ranks first_spot }

-- the log and the states after these turns, the newest first
abbrev pub told_way : List Line → ℕ → List Turn → Telling
told_way lines ranks [] = first_told ranks
told_way lines ranks (t ∷ ts) = told_next lines (told_way lines ranks ts) t

-- a function of each number below one, in turn
abbrev pub each_below : (ℕ → List Step → List Step) → ℕ → List Step → List Step
each_below f zero log = log
each_below f (suc n) log = f n (each_below f n log)

-- message n of rank i to rank j may leave, by their states
abbrev pub may_leave : Spot → Spot → ℕ → ℕ → ℕ → Bool
may_leave spot other i j n = list_any (is_unasked_by j n) spot.deeds || list_any (is_of_message i n) other.pairs

-- all that is left of message n of rank i to rank j
abbrev pub over : Spot → Spot → ℕ → ℕ → ℕ → List Step → List Step
over spot other i j n log =
    if may_leave spot other i j n then with_whole (with_out (answered log i j n) i j n) j i n else answered log i j n

-- .. of all messages of rank i to rank j
abbrev pub over_pair : List Spot → ℕ → ℕ → List Step → List Step
over_pair states i j log =
    option_map_or (λ spot. option_map_or (λ other.
    each_below (λ n log. over spot other i j n log) (count_by (is_send_by j) spot.deeds) log) (slice_get states j) log)
    (slice_get states i) log

-- .. of rank i to all ranks
abbrev pub over_rank : ℕ → List Spot → ℕ → List Step → List Step
over_rank ranks states i log = each_below (λ j log. over_pair states i j log) ranks log

-- .. of all ranks
abbrev pub all_over : ℕ → Telling → List Step
all_over ranks t = each_below (λ i log. over_rank ranks t.states i log) ranks t.log

-- the log with all that is left behind it
abbrev pub finished : ℕ → Telling → Telling
finished ranks t = record { log = all_over ranks t; states = t.states }
