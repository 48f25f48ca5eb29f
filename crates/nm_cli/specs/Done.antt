-- How a call of the program ends, as one relation of what is seen of it.
use Rattle.std.specs.Prelude.{◌≡◌, ℕ, ◌⊎◌, List, Option, None}
use Rattle.nm_outside.specs.Told.{LosesAtMost, Rose}
use Rattle.nm_script.specs.CommandWords.{IsTaken}
use Rattle.nm_script.specs.declared.command_line.CommandLine.{CommandLine}
use Rattle.nm_report.specs.declared.records.RunRecord.{RunRecord}
use Rattle.nm_world.specs.declared.whole.Ways.{Ways}
use Rattle.nm_multi.specs.Calls.{Logged as Log}
use Rattle.nm_cli.specs.Answers.{IsAnswer, IsReadFor, NotTaken, log_of, run_of, status_of, text_of, ways_of}
use Rattle.nm_shell.specs.Done.{IsSaid}
use Rattle.nm_cli.specs.Scripts.{ReadsSource, limit_of}
use Rattle.nm_cli.specs.declared.answers.Response.{Response}

-- What is seen of a call: its words, what the source told and has left, with its counts of faults, what the sink
-- took before and after, with its counts, the status, and what is handed out.
pub record Ending : Type 0 where
  pub words : List (List ℕ)
  pub input : Option (List ℕ)
  pub left : Option (List ℕ)
  pub read_old : ℕ
  pub read_new : ℕ
  pub before : Option (List ℕ)
  pub after : Option (List ℕ)
  pub write_old : ℕ
  pub write_new : ℕ
  pub status : ℕ
  pub run : Option RunRecord
  pub closed : Option Ways
  pub log : Option Log

-- It ended with this answer: it is right, the source was read for it, its text was written, whole and with its
-- status, or the sink failed; and what is handed out is its.
pub record Ends (e : Ending) (answer : Response) : Type 0 where
  pub right : IsAnswer e.words e.input e.read_old e.read_new answer
  pub read : IsReadFor e.words e.input e.left e.read_old e.read_new answer
  pub said : IsSaid (text_of answer) (status_of answer) e.status e.before e.after (Rose e.write_old e.write_new)
  pub run_given : e.run ≡ run_of answer
  pub ways_given : e.closed ≡ ways_of answer
  pub log_given : e.log ≡ log_of answer

-- memory ran out before the first write, and nothing is handed out
pub record RanShort (e : Ending) : Type 0 where
  pub memory : e.status ≡ 6
  pub unsaid : e.after ≡ e.before
  pub no_run : e.run ≡ None
  pub no_ways : e.closed ≡ None
  pub no_log : e.log ≡ None

-- what is due was said, and nothing else, or memory ran out
abbrev pub IsDone : Ending → Type 0
IsDone e = RanShort e ⊎ ((answer : Response) × Ends e answer)

-- What is taken of the source, however the call ends: nothing where the words are not taken, or read no source, and
-- else at most so many bytes as they may.
pub record TakesInput (words : List (List ℕ)) (input left : Option (List ℕ)) (untouched : Type 0) : Type 0 where
  pub not_taken : NotTaken words → untouched
  pub made : (line : CommandLine) → IsTaken words line → ¬ (ReadsSource line.mode) → untouched
  pub most : (line : CommandLine) → IsTaken words line → LosesAtMost (limit_of line.mode) input left
