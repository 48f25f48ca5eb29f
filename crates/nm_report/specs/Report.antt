-- The text of a report.
use Rattle.std.specs.Prelude.{ℕ, Bool, true, false, if◌then◌else◌, Option, Some, None, List, [], ◌∷◌}
use Rattle.std.specs.Prelude.{codes, decimal, flat_map}
use Rattle.std.specs.List.{join_with_byte}
use Rattle.nm_types.specs.declared.answers.Answer.{Answer}
use Rattle.nm_types.specs.declared.answers.Answer.TheVariants.{Started}
use Rattle.nm_types.specs.declared.answers.Account.{Account}
use Rattle.nm_history.specs.declared.events.Happened.{Happened}
use Rattle.nm_history.specs.declared.events.Happened.TheVariants.{Ran}
use Rattle.nm_report.specs.declared.accounts.RankAccount.{RankAccount}
use Rattle.nm_report.specs.declared.records.RunRecord.{RunRecord}
use Rattle.nm_report.specs.Layout.{◌⧺◌, ◌␣◌, by_rank}
use Rattle.nm_report.specs.Answers.{answer_words, body_word}
use Rattle.nm_report.specs.Events.{event_lines, pair_line}

-- the line of an answer, but none where a start was taken
abbrev pub answer_line : ℕ → ℕ → Answer → List ℕ
answer_line rank line Started = []
answer_line rank line answer =
    join_with_byte 32 (decimal rank ∷ decimal line ∷ answer_words answer) ⧺ body_word answer
    ⧺ codes "\n"

-- the line of an event that is an answer
abbrev pub ran_line : ℕ → Happened → List ℕ
ran_line rank (Ran line answer) = answer_line rank line answer
ran_line rank _ = []

-- the line of a command that can't go on
abbrev pub waits_line : ℕ → Option ℕ → List ℕ
waits_line rank (Some line) = decimal rank ␣ decimal line ␣ codes "waits\n"
waits_line rank None = []

-- the lines of a rank's answers, and then of the command that can't go on
abbrev pub answer_lines : ℕ → RankAccount → List ℕ
answer_lines rank account =
    flat_map (λ event. ran_line rank event.what) account.history.events
    ⧺ waits_line rank account.waits

-- the line of the cells
abbrev pub cells_line : Account → List ℕ
cells_line cells =
    codes "cells" ␣ decimal cells.total ␣ codes "home" ␣ decimal cells.home ⧺ codes "\n"

-- the last line, which says whether every rank is at its end
abbrev pub end_line : Bool → List ℕ
end_line true = codes "done\n"
end_line false = codes "stuck\n"

-- the lines of all events, and then of all counts of packets
abbrev pub trace_text : RunRecord → List ℕ
trace_text run = by_rank event_lines run.ranks ⧺ flat_map pair_line run.pairs

-- the whole report
abbrev pub report_text : Bool → RunRecord → List ℕ
report_text trace run =
    (if trace then trace_text run else []) ⧺ by_rank answer_lines run.ranks
    ⧺ cells_line run.cells ⧺ end_line run.done
