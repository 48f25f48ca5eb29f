-- The end of a long run as a script and a trace.
use Rattle.std.specs.Prelude.{◌≡◌, ℕ, List, length}
use Rattle.std.specs.List.{AllZip}
use Rattle.nm_types.specs.declared.scripts.Command.{Command}
use Rattle.nm_types.specs.declared.scripts.Line.{Line}
use Rattle.nm_report.specs.declared.accounts.RankAccount.{RankAccount}
use Rattle.nm_report.specs.declared.records.RunRecord.{RunRecord}
use Rattle.nm_report.specs.Ends.{end_of_account}
use Rattle.nm_transcript.specs.Transcripts.{IsEndOf, IsTranscript}

-- the lines of what became of a rank are those of n calls
abbrev pub IsOwn : ℕ → RankAccount → Type 0
IsOwn n account = IsEndOf n (end_of_account account)

-- so it is with each rank and the calls that are kept of it
abbrev pub AreOwn : List (List Command) → List RankAccount → Type 0
AreOwn given accounts = AllZip (λ calls account. IsOwn (length calls) account) given accounts

-- The lines are calls of the ranks, and the later record is what was kept of them by the numbers of these lines.
pub record IsExcerpt (run : RunRecord) (lines : List Line) (later : RunRecord) : Type 0 where
  pub given : List (List Command)
  pub own : RunRecord
  pub owns : AreOwn given own.ranks
  pub shape : own.shape ≡ run.shape
  pub pairs : own.pairs ≡ run.pairs
  pub cells : own.cells ≡ run.cells
  pub done : own.done ≡ run.done
  pub transcript : IsTranscript given own lines later
