-- Refused: a send that ends as cancelled though a receive took its message.
use Rattle.std.specs.Prelude.{true, false, List, [], ◌∷◌}
use Rattle.nm_types.specs.Commands.{commands_of, rank_line}
use Rattle.nm_types.specs.declared.messages.How.TheVariants.{Eager}
use Rattle.nm_types.specs.declared.messages.Peer.TheVariants as peer
use Rattle.nm_types.specs.declared.messages.TagPick.TheVariants as pick
use Rattle.nm_types.specs.declared.scripts.Body.TheVariants.{Hex}
use Rattle.nm_types.specs.declared.scripts.Command.TheVariants as command
use Rattle.nm_types.specs.declared.scripts.Line.{Line}
use Rattle.nm_types.specs.declared.answers.Answer.TheVariants as answer
use Rattle.nm_history.specs.declared.events.Event.{Event}
use Rattle.nm_history.specs.declared.events.Happened.TheVariants.{Send, Post, Arrive, Whole, Out, Cancel, Recall}
use Rattle.nm_history.specs.declared.events.Happened.TheVariants.{Withdraw, Undone, Ran}
use Rattle.nm_history.specs.RankRun.{IsRankRun}
use Rattle.nm_history.specs.Happens.{at}
use Rattle.nm_channels.specs.Small.{run_on}

-- the script
abbrev pub script : List Line
script =
    rank_line 0 (command.Send 0 0 2 0 false (Hex (5 ∷ [])))
    ∷ rank_line 0 (command.Await (peer.One 0) (pick.One 2) 0)
    ∷ rank_line 0 (command.Recv 1 (peer.One 0) (pick.One 2) 0 1)
    ∷ rank_line 0 (command.Cancel 1)
    ∷ rank_line 0 (command.Wait 1)
    ∷ rank_line 0 (command.Cancel 0)
    ∷ rank_line 0 (command.Wait 0)
    ∷ rank_line 0 (command.Cancel 0) ∷ []

-- the first rank
abbrev pub first : List Event
first =
    at 1 (Send 0 0 2 0 1 Eager 2)
    ∷ at 2 (Ran 2 answer.Started)
    ∷ at 3 (Out 0 0)
    ∷ at 4 (Arrive (record { n = 0; env = record { from = 0; tag = 2; ctx = 0; len = 1; how = Eager } }))
    ∷ at 5 (Whole 0 0)
    ∷ at 6 (Ran 3 (answer.Seen (record { from = 0; tag = 2; len = 1 })))
    ∷ at 7 (Post (record { number = 0; from = peer.One 0; tag = pick.One 2; ctx = 0; cap = 1 }) 4)
    ∷ at 8 (Ran 4 answer.Started)
    ∷ at 9 (Cancel 0 false)
    ∷ at 10 (Ran 5 answer.Late)
    ∷ at 11 (Ran 6 (answer.Got 0 2 (5 ∷ [])))
    ∷ at 12 (Recall 0 0)
    ∷ at 13 (Ran 7 answer.Asked)
    ∷ at 14 (Withdraw 0 0 true)
    ∷ at 15 (Undone 0 0 true)
    ∷ at 16 (Ran 8 answer.Cancelled)
    ∷ at 17 (Ran 9 answer.Null) ∷ []

-- the rule that it breaks
abbrev pub IsLawful : Type 0
IsLawful =
    IsRankRun (run_on 1) (commands_of 0 script) 8 first
