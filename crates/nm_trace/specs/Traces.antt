-- The traces of records, and what begins one.
use Rattle.std.specs.Prelude.{◌≡◌, ℕ, ◌≤◌, ◌<◌, ◌^◌, true, List, ◌++◌, length, filter, take}
use Rattle.std.specs.Prelude.{Option, Some, None}
use Rattle.std.specs.List.{AllByRecursion}
use Rattle.nm_types.specs.declared.answers.Answer.{Answer}
use Rattle.nm_types.specs.declared.answers.Answer.TheVariants as answer
use Rattle.nm_types.specs.declared.answers.Account.{Account}
use Rattle.nm_types.specs.declared.messages.Peer.{Peer}
use Rattle.nm_types.specs.declared.messages.Peer.TheVariants as peer
use Rattle.nm_types.specs.declared.messages.TagPick.{TagPick}
use Rattle.nm_types.specs.declared.messages.TagPick.TheVariants as pick
use Rattle.nm_types.specs.Sizes.{Sizes}
use Rattle.nm_history.specs.declared.events.Event.{Event}
use Rattle.nm_history.specs.declared.events.Happened.{Happened}
use Rattle.nm_history.specs.declared.events.Happened.TheVariants as what
use Rattle.nm_history.specs.Quiescence.{Ended}
use Rattle.nm_history.specs.Underway.{is_answer}
use Rattle.nm_report.specs.declared.pairs.PairCount.{PairCount}
use Rattle.nm_report.specs.declared.records.RunRecord.{RunRecord}
use Rattle.nm_report.specs.Ends.{ends_of}
use Rattle.nm_report.specs.Report.{report_text}
use Rattle.nm_trace.specs.declared.faults.TraceFault.{TraceFault}
use Rattle.nm_trace.specs.declared.faults.TraceFault.TheVariants as fault
use Rattle.nm_script.specs.Lines.{ended_lines}
use Rattle.nm_trace.specs.Lines.{whole_lines}

-- a source within its type, or any
abbrev pub PeerIn : Peer → Type 0
PeerIn peer.Any = Unit {0}
PeerIn (peer.One rank) = rank < 2 ^ 8

-- a tag within its type, or any
abbrev pub PickIn : TagPick → Type 0
PickIn pick.Any = Unit {0}
PickIn (pick.One tag) = tag < 2 ^ 16

-- an answer whose numbers are within their types
abbrev pub AnswerIn : Answer → Type 0
AnswerIn (answer.Got from tag body) =
    (from < 2 ^ 8) × (tag < 2 ^ 16) × (length body < 2 ^ 63) × AllByRecursion (λ b. b < 2 ^ 8) body
AnswerIn (answer.Cut from tag len) = (from < 2 ^ 8) × (tag < 2 ^ 16) × (len < 2 ^ 32)
AnswerIn (answer.Seen seen) = (seen.from < 2 ^ 8) × (seen.tag < 2 ^ 16) × (seen.len < 2 ^ 32)
AnswerIn _ = Unit {0}

-- what happened, with numbers within their types
abbrev pub WhatIn : Happened → Type 0
WhatIn (what.Send to n tag ctx len how line) =
    (to < 2 ^ 8) × (n < 2 ^ 64) × (tag < 2 ^ 16) × (ctx < 2 ^ 8) × (len < 2 ^ 32) × (line < 2 ^ 64)
WhatIn (what.Post post line) =
    (post.number < 2 ^ 64) × PeerIn post.from × PickIn post.tag × (post.ctx < 2 ^ 8)
    × (post.cap < 2 ^ 32) × (line < 2 ^ 64)
WhatIn (what.Arrive a) =
    (a.env.from < 2 ^ 8) × (a.n < 2 ^ 64) × (a.env.tag < 2 ^ 16) × (a.env.ctx < 2 ^ 8)
    × (a.env.len < 2 ^ 32)
WhatIn (what.Whole from n) = (from < 2 ^ 8) × (n < 2 ^ 64)
WhatIn (what.Out to n) = (to < 2 ^ 8) × (n < 2 ^ 64)
WhatIn (what.Cancel number done) = number < 2 ^ 64
WhatIn (what.Recall to n) = (to < 2 ^ 8) × (n < 2 ^ 64)
WhatIn (what.Withdraw from n done) = (from < 2 ^ 8) × (n < 2 ^ 64)
WhatIn (what.Undone to n done) = (to < 2 ^ 8) × (n < 2 ^ 64)
WhatIn (what.Claim from n line) = (from < 2 ^ 8) × (n < 2 ^ 64) × (line < 2 ^ 64)
WhatIn (what.Match number from n cap line) =
    (number < 2 ^ 64) × (from < 2 ^ 8) × (n < 2 ^ 64) × (cap < 2 ^ 32) × (line < 2 ^ 64)
WhatIn (what.Ran line answer) = (line < 2 ^ 64) × AnswerIn answer

-- an event whose numbers are within their types
abbrev pub EventIn : Event → Type 0
EventIn event = (event.stamp < 2 ^ 64) × WhatIn event.what

-- the line at which a rank waits, within its type, or none
abbrev pub WaitsIn : Option ℕ → Type 0
WaitsIn (Some line) = line < 2 ^ 64
WaitsIn None = Unit {0}

-- a rank whose numbers are within their types, and whose commands that ran are counted
pub record EndIn (e : Ended) : Type 0 where
  pub events : AllByRecursion EventIn e.events
  pub waits : WaitsIn e.waits
  pub at : e.at ≡ length (filter (λ event. is_answer event.what) e.events)

-- a count of packets, with its ranks, within their types
abbrev pub PairIn : PairCount → Type 0
PairIn pair = (pair.from < 2 ^ 8) × (pair.to < 2 ^ 8) × (pair.packets < 2 ^ 64)

-- the account of the cells, within its types
abbrev pub CellsIn : Account → Type 0
CellsIn cells = (cells.total < 2 ^ 32) × (cells.home < 2 ^ 32)

-- the bytes are the trace of this record, which has this shape, one account for each rank, and
-- numbers within their types
pub record IsTraceOf (shape : Sizes) (bytes : List ℕ) (run : RunRecord) : Type 0 where
  pub spelled : bytes ≡ report_text true run
  pub shaped : run.shape ≡ shape
  pub whole : length run.ranks ≡ shape.ranks
  pub ends : AllByRecursion EndIn (ends_of run.ranks)
  pub pairs : AllByRecursion PairIn run.pairs
  pub cells : CellsIn run.cells

-- some trace of this shape begins with these bytes
abbrev pub Begins : Sizes → List ℕ → Type 0
Begins shape front = (run : RunRecord) × (rest : List ℕ) × IsTraceOf shape (front ++ rest) run

-- the first so many lines are all there, each with its line feed, and some trace begins with them
abbrev pub BeginUpTo : Sizes → List ℕ → ℕ → Type 0
BeginUpTo shape bytes count =
    (count ≤ length (whole_lines bytes)) × Begins shape (ended_lines (take count (whole_lines bytes)))

-- The bytes are no trace, and this line, counted from 1, is the first up to which they begin none. It is
-- the line behind the last one where the text ends too soon. A line without its line feed begins none.
pub record IsFirstBad (shape : Sizes) (bytes : List ℕ) (line : ℕ) : Type 0 where
  pub none : (run : RunRecord) → IsTraceOf shape bytes run → ⊥
  pub before : (count : ℕ) → count < line → BeginUpTo shape bytes count
  pub bad : BeginUpTo shape bytes line → ⊥

-- a fault that names a line names the first bad one
abbrev pub Names : Sizes → List ℕ → TraceFault → Type 0
Names shape bytes (fault.Bad line) = IsFirstBad shape bytes line
Names shape bytes fault.Memory = Unit {0}
