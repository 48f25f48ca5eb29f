-- Refused: a claimed message that is withdrawn.
use Rattle.std.specs.Prelude.{true, false, List, [], ◌∷◌}
use Rattle.nm_types.specs.Commands.{commands_of, rank_line}
use Rattle.nm_types.specs.declared.messages.How.TheVariants.{Ask}
use Rattle.nm_types.specs.declared.messages.Peer.TheVariants as peer
use Rattle.nm_types.specs.declared.messages.TagPick.TheVariants as pick
use Rattle.nm_types.specs.declared.scripts.Body.TheVariants.{Hex}
use Rattle.nm_types.specs.declared.scripts.Command.TheVariants as command
use Rattle.nm_types.specs.declared.scripts.Line.{Line}
use Rattle.nm_types.specs.declared.answers.Answer.TheVariants as answer
use Rattle.nm_history.specs.declared.events.Event.{Event}
use Rattle.nm_history.specs.declared.events.Happened.TheVariants.{Send, Arrive, Whole, Out, Recall, Withdraw, Undone}
use Rattle.nm_history.specs.declared.events.Happened.TheVariants.{Claim, Match, Ran}
use Rattle.nm_history.specs.RankRun.{IsRankRun}
use Rattle.nm_history.specs.Happens.{at}
use Rattle.nm_channels.specs.Small.{run_on}

-- the script
abbrev pub script : List Line
script =
    rank_line 0 (command.Send 0 0 4 0 true (Hex (10 ∷ [])))
    ∷ rank_line 0 (command.Await (peer.One 0) (pick.One 4) 0)
    ∷ rank_line 0 (command.Mprobe 0 (peer.One 0) (pick.One 4) 0)
    ∷ rank_line 0 (command.Cancel 0)
    ∷ rank_line 0 (command.Mrecv 1 0 4)
    ∷ rank_line 0 (command.Wait 1)
    ∷ rank_line 0 (command.Wait 0) ∷ []

-- the first rank
abbrev pub first : List Event
first =
    at 1 (Send 0 0 4 0 1 Ask 2)
    ∷ at 2 (Ran 2 answer.Started)
    ∷ at 3 (Arrive (record { n = 0; env = record { from = 0; tag = 4; ctx = 0; len = 1; how = Ask } }))
    ∷ at 4 (Ran 3 (answer.Seen (record { from = 0; tag = 4; len = 1 })))
    ∷ at 5 (Claim 0 0 4)
    ∷ at 6 (Ran 4 (answer.Seen (record { from = 0; tag = 4; len = 1 })))
    ∷ at 7 (Recall 0 0)
    ∷ at 8 (Ran 5 answer.Asked)
    ∷ at 9 (Withdraw 0 0 true)
    ∷ at 10 (Match 0 0 0 4 6)
    ∷ at 11 (Ran 6 answer.Started)
    ∷ at 12 (Undone 0 0 false)
    ∷ at 13 (Out 0 0)
    ∷ at 14 (Whole 0 0)
    ∷ at 15 (Ran 7 (answer.Got 0 4 (10 ∷ [])))
    ∷ at 16 (Ran 8 answer.Sent) ∷ []

-- the rule that it breaks
abbrev pub IsLawful : Type 0
IsLawful =
    IsRankRun (run_on 1) (commands_of 0 script) 7 first
