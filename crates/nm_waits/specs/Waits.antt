-- For what a rank waits.
use Rattle.std.specs.Prelude.{ℕ, ◌+◌, ◌==◌, ◌&&◌, Bool, false, Option, Some, None, List, [], ◌∷◌, count_by, find}
use Rattle.std.specs.List.{cons_option}
use Rattle.std.specs.Prelude.{option_and_then, option_map}
use Rattle.nm_types.specs.declared.messages.Peer.TheVariants as peer
use Rattle.nm_types.specs.declared.scripts.Command.{Command}
use Rattle.nm_types.specs.declared.scripts.Command.TheVariants as command
use Rattle.nm_types.specs.declared.scripts.Line.{Line}
use Rattle.nm_types.specs.Commands.{command_at, commands_of}
use Rattle.nm_history.specs.Completion.{Request}
use Rattle.nm_history.specs.Completion.Request.{Receiving, Sending}
use Rattle.nm_explored.specs.Lines.{line_in}
use Rattle.nm_outcomes.specs.declared.spots.deeds.Deed.{Deed}
use Rattle.nm_outcomes.specs.declared.spots.deeds.Deed.TheVariants as deed
use Rattle.nm_outcomes.specs.Looks.{is_answer_by, live_in}
use Rattle.nm_outcomes.specs.RankStates.{Spot}
use Rattle.nm_waits.specs.declared.waits.Need.{Need}
use Rattle.nm_waits.specs.declared.waits.Need.TheVariants.{Receiver, Message}
use Rattle.nm_waits.specs.declared.waits.Wait.{Wait}

-- a deed is the send of message n to a rank, or the receive with a number
abbrev pub is_sending : ℕ → ℕ → Deed → Bool
is_sending to n (deed.Send to' n' tag ctx len how line) = to' == to && n' == n
is_sending to n _ = false

-- .. the receive with a number
abbrev pub is_posting : ℕ → Deed → Bool
is_posting number (deed.Post r line) = r.number == number
is_posting number _ = false

-- what the request of a deed needs: a send a receive that takes its message, a receive a message that it selects
abbrev pub need_by : Deed → Option Need
need_by (deed.Send to n tag ctx len how line) = Some (Receiver to n tag ctx line)
need_by (deed.Post r line) = Some (Message r.from r.tag r.ctx line)
need_by _ = None

-- .. of a request, by what the rank did
abbrev pub need_of_request : List Deed → Request → Option Need
need_of_request deeds (Sending to n) = option_and_then need_by (find (is_sending to n) deeds)
need_of_request deeds (Receiving number) = option_and_then need_by (find (is_posting number) deeds)

-- .. of a blocking command: a wait needs what its request needs, a probe a message (MPI 3.1, 3.7.3 and 3.8.1)
abbrev pub need_of : List Line → ℕ → Spot → ℕ → Command → Option Need
need_of lines i spot line (command.Wait q) =
    option_and_then (need_of_request spot.deeds) (live_in lines i spot.deeds q)
need_of lines i spot line (command.Await from tag ctx) = Some (Message from tag ctx line)
need_of lines i spot line _ = None

-- the rank's next command, and what it needs
abbrev pub wait_at : List Line → ℕ → Spot → ℕ → Option Wait
wait_at lines i spot line =
    option_map (λ need. record { rank = i; line = line; need = need })
    (option_and_then (need_of lines i spot line) (command_at (commands_of i lines) line))

-- .. by its state
abbrev pub wait_of : List Line → ℕ → Spot → Option Wait
wait_of lines i spot = option_and_then (wait_at lines i spot) (line_in lines i (count_by is_answer_by spot.deeds))

-- where the ranks wait, by rank from this one on
abbrev pub waits_from : List Line → ℕ → List Spot → List Wait
waits_from lines i [] = []
waits_from lines i (spot ∷ states) = cons_option (wait_of lines i spot) (waits_from lines (i + 1) states)

-- where all ranks wait in these states
abbrev pub waits_of : List Line → List Spot → List Wait
waits_of lines states = waits_from lines 0 states

-- the rank that a need names: that of the receive, or the source of the message, where it is not any
abbrev pub awaited : Need → Option ℕ
awaited (Receiver to n tag ctx line) = Some to
awaited (Message (peer.One from) tag ctx line) = Some from
awaited (Message peer.Any tag ctx line) = None
