-- A test before and after the message came, and a generated body.
use Rattle.std.specs.Prelude.{false, None, List, [], ◌∷◌}
use Rattle.nm_types.specs.declared.messages.How.TheVariants.{Eager}
use Rattle.nm_types.specs.declared.messages.Peer.TheVariants as peer
use Rattle.nm_types.specs.declared.messages.TagPick.TheVariants as pick
use Rattle.nm_types.specs.declared.scripts.Body.TheVariants.{Gen}
use Rattle.nm_types.specs.declared.scripts.Command.TheVariants as command
use Rattle.nm_types.specs.declared.scripts.Line.{Line}
use Rattle.nm_types.specs.declared.answers.Answer.TheVariants as answer
use Rattle.nm_types.specs.Commands.{rank_line}
use Rattle.nm_history.specs.declared.events.Event.{Event}
use Rattle.nm_history.specs.declared.events.Happened.TheVariants.{Send, Post, Arrive, Whole, Out, Ran}
use Rattle.nm_history.specs.Quiescence.{Ended, Packets}
use Rattle.nm_history.specs.Run.{IsRunOf}
use Rattle.nm_history.specs.Happens.{at}
use Rattle.nm_channels.specs.Small.{run_on}

-- the script
abbrev pub script : List Line
script =
    rank_line 0 (command.Recv 0 (peer.One 0) (pick.One 3) 0 4)
    ∷ rank_line 0 (command.Test 0)
    ∷ rank_line 0 (command.Send 0 1 3 0 false (Gen 4))
    ∷ rank_line 0 (command.Wait 0)
    ∷ rank_line 0 (command.Test 0)
    ∷ rank_line 0 (command.Wait 1) ∷ []

-- the only rank
abbrev pub only : List Event
only =
    at 1 (Post (record { number = 0; from = peer.One 0; tag = pick.One 3; ctx = 0; cap = 4 }) 2)
    ∷ at 2 (Ran 2 answer.Started)
    ∷ at 3 (Ran 3 answer.No)
    ∷ at 4 (Send 0 0 3 0 4 Eager 4)
    ∷ at 5 (Ran 4 answer.Started)
    ∷ at 6 (Out 0 0)
    ∷ at 7 (Arrive (record { n = 0; env = record { from = 0; tag = 3; ctx = 0; len = 4; how = Eager } }))
    ∷ at 8 (Whole 0 0)
    ∷ at 9 (Ran 5 (answer.Got 0 3 (7 ∷ 38 ∷ 69 ∷ 100 ∷ [])))
    ∷ at 10 (Ran 6 answer.Null)
    ∷ at 11 (Ran 7 answer.Sent) ∷ []

-- where each rank stands at the end, and what happened there
abbrev pub ranks : List Ended
ranks = record { at = 6; waits = None; events = only } ∷ []

-- how many packets went from rank to rank
abbrev pub packets : List Packets
packets = record { from = 0; to = 0; count = 1 } ∷ []

-- it is a run of its script
abbrev pub IsLawful : Type 0
IsLawful =
    IsRunOf (run_on 1) script ranks packets
