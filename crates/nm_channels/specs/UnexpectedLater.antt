-- Two messages came before their receives, which take the second one first.
use Rattle.std.specs.Prelude.{false, None, List, [], ◌∷◌}
use Rattle.nm_types.specs.declared.messages.How.TheVariants.{Eager}
use Rattle.nm_types.specs.declared.messages.Peer.TheVariants as peer
use Rattle.nm_types.specs.declared.messages.TagPick.TheVariants as pick
use Rattle.nm_types.specs.declared.scripts.Body.TheVariants.{Hex}
use Rattle.nm_types.specs.declared.scripts.Command.TheVariants as command
use Rattle.nm_types.specs.declared.scripts.Line.{Line}
use Rattle.nm_types.specs.declared.answers.Answer.TheVariants as answer
use Rattle.nm_types.specs.Commands.{rank_line}
use Rattle.nm_history.specs.declared.events.Event.{Event}
use Rattle.nm_history.specs.declared.events.Happened.TheVariants.{Send, Post, Arrive, Whole, Out, Ran}
use Rattle.nm_history.specs.Quiescence.{Ended, Packets}
use Rattle.nm_history.specs.Run.{IsRunOf}
use Rattle.nm_history.specs.Happens.{at}
use Rattle.nm_channels.specs.Small.{run_on}

-- the script
abbrev pub script : List Line
script =
    rank_line 0 (command.Send 1 0 1 0 false (Hex (161 ∷ [])))
    ∷ rank_line 0 (command.Send 1 1 2 0 false (Hex (162 ∷ [])))
    ∷ rank_line 0 (command.Wait 0)
    ∷ rank_line 0 (command.Wait 1)
    ∷ rank_line 1 (command.Recv 0 (peer.One 0) (pick.One 2) 0 8)
    ∷ rank_line 1 (command.Wait 0)
    ∷ rank_line 1 (command.Recv 0 (peer.One 0) (pick.One 1) 0 8)
    ∷ rank_line 1 (command.Wait 0) ∷ []

-- the first rank
abbrev pub first : List Event
first =
    at 1 (Send 1 0 1 0 1 Eager 2)
    ∷ at 2 (Ran 2 answer.Started)
    ∷ at 3 (Send 1 1 2 0 1 Eager 3)
    ∷ at 4 (Ran 3 answer.Started)
    ∷ at 5 (Out 1 0)
    ∷ at 6 (Out 1 1)
    ∷ at 7 (Ran 4 answer.Sent)
    ∷ at 8 (Ran 5 answer.Sent) ∷ []

-- the second rank
abbrev pub second : List Event
second =
    at 2 (Arrive (record { n = 0; env = record { from = 0; tag = 1; ctx = 0; len = 1; how = Eager } }))
    ∷ at 3 (Whole 0 0)
    ∷ at 4 (Arrive (record { n = 1; env = record { from = 0; tag = 2; ctx = 0; len = 1; how = Eager } }))
    ∷ at 5 (Whole 0 1)
    ∷ at 6 (Post (record { number = 0; from = peer.One 0; tag = pick.One 2; ctx = 0; cap = 8 }) 6)
    ∷ at 7 (Ran 6 answer.Started)
    ∷ at 8 (Ran 7 (answer.Got 0 2 (162 ∷ [])))
    ∷ at 9 (Post (record { number = 1; from = peer.One 0; tag = pick.One 1; ctx = 0; cap = 8 }) 8)
    ∷ at 10 (Ran 8 answer.Started)
    ∷ at 11 (Ran 9 (answer.Got 0 1 (161 ∷ []))) ∷ []

-- where each rank stands at the end, and what happened there
abbrev pub ranks : List Ended
ranks = record { at = 4; waits = None; events = first } ∷ record { at = 4; waits = None; events = second } ∷ []

-- how many packets went from rank to rank
abbrev pub packets : List Packets
packets = record { from = 0; to = 1; count = 2 } ∷ []

-- it is a run of its script
abbrev pub IsLawful : Type 0
IsLawful =
    IsRunOf (run_on 2) script ranks packets
