-- What a run told: the answers of its commands with their lines, and where each rank waits.
use Rattle.std.specs.Prelude.{◌≡◌, ℕ, ◌+◌, Bool, false, Option, Some, None, List, [], ◌∷◌, map, filter_map, flat_map}
use Rattle.nm_types.specs.declared.answers.Account.{Account}
use Rattle.nm_types.specs.declared.answers.Answer.{Answer}
use Rattle.nm_history.specs.declared.events.Happened.{Happened}
use Rattle.nm_history.specs.declared.events.Happened.TheVariants.{Ran}
use Rattle.nm_report.specs.declared.accounts.RankAccount.{RankAccount}
use Rattle.nm_report.specs.declared.records.RunRecord.{RunRecord}
use Rattle.nm_report.specs.Layout.{◌⧺◌}
use Rattle.nm_report.specs.Report.{answer_line, cells_line, end_line, report_text, waits_line}

-- an answer with the line of its command
pub record Told : Type 0 where
  pub line : ℕ
  pub answer : Answer

-- what a rank told
pub record RankTold : Type 0 where
  pub answers : List Told
  pub waits : Option ℕ

-- the answer of an event
abbrev pub told_by : Happened → Option Told
told_by (Ran line answer) = Some (record { line = line; answer = answer })
told_by _ = None

-- what a rank told, by its account
abbrev pub told_of_rank : RankAccount → RankTold
told_of_rank account =
    record {
      answers = filter_map (λ event. told_by event.what) account.history.events;
      waits = account.waits;
    }

-- what a run told, by rank
abbrev pub told_of : RunRecord → List RankTold
told_of run = map told_of_rank run.ranks

-- the lines of a rank
abbrev pub told_lines : ℕ → RankTold → List ℕ
told_lines rank told =
    flat_map (λ t. answer_line rank t.line t.answer) told.answers ⧺ waits_line rank told.waits

-- the lines of these ranks, of which the first has this number
abbrev pub told_from : ℕ → List RankTold → List ℕ
told_from rank [] = []
told_from rank (told ∷ others) = told_lines rank told ⧺ told_from (rank + 1) others

-- the report of what was told
abbrev pub told_text : List RankTold → Account → Bool → List ℕ
told_text told cells done = told_from 0 told ⧺ cells_line cells ⧺ end_line done

-- a report without its trace says what was told
abbrev pub SayWhatWasTold : Type 0
SayWhatWasTold = (run : RunRecord) → report_text false run ≡ told_text (told_of run) run.cells run.done
