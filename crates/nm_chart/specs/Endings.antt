-- How the program ends: what was said, with which status.
use Rattle.std.specs.Prelude.{◌≡◌, ℕ, ◌<◌, ◌≤◌, ◌⊎◌, List, ◌++◌, Option, codes, length}
use Rattle.nm_outside.specs.Told.{Appends}
use Rattle.nm_types.specs.Sizes.{Sizes}
use Rattle.nm_report.specs.declared.records.RunRecord.{RunRecord}
use Rattle.nm_report.specs.Lawful.{SameRun}
use Rattle.nm_trace.specs.Traces.{IsFirstBad, IsTraceOf}
use Rattle.nm_check.specs.Texts.{trace_fault_text}
use Rattle.nm_picture.specs.Pictures.{IsPictureOf}

-- The widest shape. A trace tells neither cells nor eager limit, and a rank of which it says nothing takes
-- no line, so the trace of a record of fewer ranks is one of this shape.
abbrev pub widest : Sizes
widest = record { ranks = 64; cells = 1; eager = 0 }

-- the bytes are not too long, and the trace of this record
abbrev pub IsTrace : List ℕ → RunRecord → Type 0
IsTrace bytes run = (length bytes ≤ 67108864) × IsTraceOf widest bytes run

-- the bytes are the trace of this record, and of no other but for the room of histories
pub record IsTraceOfOne (bytes : List ℕ) (run : RunRecord) : Type 0 where
  pub of_run : IsTrace bytes run
  pub only : (other : RunRecord) → IsTrace bytes other → SameRun run other

-- the bytes are no trace: too long, of which line 0 is said, or this is the first bad line
abbrev pub IsBadTrace : List ℕ → ℕ → Type 0
IsBadTrace bytes line =
    ((67108864 < length bytes) × (line ≡ 0))
    ⊎ ((length bytes ≤ 67108864) × IsFirstBad widest bytes line)

-- what is said of words that are not taken
abbrev pub usage : List ℕ
usage =
    codes "usage: chart [--html] [--from STAMP] [--to STAMP] [--ranks A,B,..] [--of N] <TRACE >PICTURE\n"
    ++ codes "       chart check [--cells N] [--eager N] <SCRIPT_AND_TRACE >PICTURE\n"

-- the bytes are no trace, and their first bad line was said
pub record IsRefused (bytes : List ℕ) (old new : Option (List ℕ)) : Type 0 where
  pub line : ℕ
  pub bad : IsBadTrace bytes line
  pub said : Appends old new (trace_fault_text line)

-- the bytes are the trace of a record, and what was written is the picture of each record, of whatever
-- shape, whose trace they are
pub record IsDrawn (bytes : List ℕ) (old new : Option (List ℕ)) : Type 0 where
  pub run : RunRecord
  pub text : List ℕ
  pub of_run : IsTrace bytes run
  pub picture : (shape : Sizes) (other : RunRecord) → shape.ranks ≤ 64 → IsTraceOf shape bytes other →
      IsPictureOf other text
  pub said : Appends old new text

-- the statuses that there are
abbrev pub IsStatus : ℕ → Type 0
IsStatus status =
    (status ≡ 0) ⊎ ((status ≡ 2) ⊎ ((status ≡ 4) ⊎ ((status ≡ 5) ⊎ ((status ≡ 6) ⊎ (status ≡ 9)))))
