-- Two messages and two receives of one selection: the first takes the first.
use Rattle.std.specs.Prelude.{false, None, List, [], ◌∷◌}
use Rattle.nm_types.specs.declared.messages.How.TheVariants.{Eager}
use Rattle.nm_types.specs.declared.messages.Peer.TheVariants as peer
use Rattle.nm_types.specs.declared.messages.TagPick.TheVariants as pick
use Rattle.nm_types.specs.declared.scripts.Body.TheVariants.{Hex}
use Rattle.nm_types.specs.declared.scripts.Command.TheVariants as command
use Rattle.nm_types.specs.declared.scripts.Line.{Line}
use Rattle.nm_types.specs.declared.answers.Answer.TheVariants as answer
use Rattle.nm_types.specs.Commands.{rank_line}
use Rattle.nm_history.specs.declared.events.Event.{Event}
use Rattle.nm_history.specs.declared.events.Happened.TheVariants.{Send, Post, Arrive, Whole, Out, Ran}
use Rattle.nm_history.specs.Quiescence.{Ended, Packets}
use Rattle.nm_history.specs.Run.{IsRunOf}
use Rattle.nm_history.specs.Happens.{at}
use Rattle.nm_channels.specs.Small.{run_on}

-- the script
abbrev pub script : List Line
script =
    rank_line 0 (command.Send 1 0 5 0 false (Hex (65 ∷ [])))
    ∷ rank_line 0 (command.Send 1 1 5 0 false (Hex (66 ∷ [])))
    ∷ rank_line 0 (command.Wait 0)
    ∷ rank_line 0 (command.Wait 1)
    ∷ rank_line 1 (command.Recv 0 peer.Any (pick.One 5) 0 1)
    ∷ rank_line 1 (command.Recv 1 peer.Any pick.Any 0 1)
    ∷ rank_line 1 (command.Wait 1)
    ∷ rank_line 1 (command.Wait 0) ∷ []

-- the first rank
abbrev pub first : List Event
first =
    at 1 (Send 1 0 5 0 1 Eager 2)
    ∷ at 2 (Ran 2 answer.Started)
    ∷ at 3 (Send 1 1 5 0 1 Eager 3)
    ∷ at 4 (Ran 3 answer.Started)
    ∷ at 5 (Out 1 0)
    ∷ at 6 (Out 1 1)
    ∷ at 7 (Ran 4 answer.Sent)
    ∷ at 8 (Ran 5 answer.Sent) ∷ []

-- the second rank
abbrev pub second : List Event
second =
    at 1 (Post (record { number = 0; from = peer.Any; tag = pick.One 5; ctx = 0; cap = 1 }) 6)
    ∷ at 2 (Ran 6 answer.Started)
    ∷ at 3 (Post (record { number = 1; from = peer.Any; tag = pick.Any; ctx = 0; cap = 1 }) 7)
    ∷ at 4 (Ran 7 answer.Started)
    ∷ at 5 (Arrive (record { n = 0; env = record { from = 0; tag = 5; ctx = 0; len = 1; how = Eager } }))
    ∷ at 6 (Whole 0 0)
    ∷ at 7 (Arrive (record { n = 1; env = record { from = 0; tag = 5; ctx = 0; len = 1; how = Eager } }))
    ∷ at 8 (Whole 0 1)
    ∷ at 9 (Ran 8 (answer.Got 0 5 (66 ∷ [])))
    ∷ at 10 (Ran 9 (answer.Got 0 5 (65 ∷ []))) ∷ []

-- where each rank stands at the end, and what happened there
abbrev pub ranks : List Ended
ranks = record { at = 4; waits = None; events = first } ∷ record { at = 4; waits = None; events = second } ∷ []

-- how many packets went from rank to rank
abbrev pub packets : List Packets
packets = record { from = 0; to = 1; count = 2 } ∷ []

-- it is a run of its script
abbrev pub IsLawful : Type 0
IsLawful =
    IsRunOf (run_on 2) script ranks packets
