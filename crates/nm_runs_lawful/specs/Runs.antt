-- Each run of ours is a run by MPI's text alone. MPI 3.1, 3.5 (order), 3.7.3 (completion), 3.8 (probes and cancel).
use Rattle.std.specs.Prelude.{◌≡◌, ℕ, Bool, true, false, ◌+◌, ◌-◌, ◌==◌, ◌&&◌, not, if◌then◌else◌, Option, Some, None}
use Rattle.std.specs.Prelude.{List, length, map}
use Rattle.std.specs.Prelude.{filter_map, option_and_then, option_map}
use Rattle.std.specs.List.{range_with_len, slice_get}
use Rattle.nm_types.specs.declared.answers.Answer.{Answer}
use Rattle.nm_types.specs.declared.scripts.Line.{Line}
use Rattle.nm_types.specs.Limits.{IsScript}
use Rattle.nm_types.specs.Sizes.{Sizes}
use Rattle.nm_history.specs.declared.events.Event.{Event}
use Rattle.nm_history.specs.declared.events.Happened.{Happened}
use Rattle.nm_history.specs.declared.events.Happened.TheVariants.{Ran}
use Rattle.nm_history.specs.Answers.{is_started}
use Rattle.nm_history.specs.Quiescence.{Ended, history_of}
use Rattle.nm_report.specs.declared.records.RunRecord.{RunRecord}
use Rattle.nm_report.specs.Ends.{ends_of}
use Rattle.nm_report.specs.Lawful.{IsRunIn}
use Rattle.nm_lawful.specs.declared.judging.Judged.{Judged}
use Rattle.nm_lawful.specs.declared.judging.Judged.TheVariants as judged
use Rattle.nm_lawful.specs.Lawful.{IsLawful}
use Rattle.nm_lawful.specs.Moves.{Report, told_at_lem}
use Rattle.nm_lawful.specs.Searches.{JudgedSays}

-- the answer that an event tells of a line; that a start was taken is not told
abbrev pub answer_by : ℕ → Happened → Option Answer
answer_by line (Ran ran answer) = if ran == line && not (is_started answer) then Some answer else None
answer_by line _ = None

-- the answer that a history tells of a line
abbrev pub answer_in : ℕ → List Event → Option Answer
answer_in line h = slice_get (filter_map (λ e. answer_by line e.what) h) 0

-- the answer that the ranks of a run tell of the line at a place; the first line has number 2
abbrev pub answer_at : List Line → List Ended → ℕ → Option Answer
answer_at lines ranks place =
    option_and_then (λ l. answer_in (place + 2) (history_of ranks l.rank)) (slice_get lines place)

-- A report tells what these ranks tell: of each line its answer, and where each rank waits.
pub record IsToldBy (lines : List Line) (ranks : List Ended) (told : Report) : Type 0 where
  pub said : (place : ℕ) → told_at_lem told None place ≡ answer_at lines ranks place
  pub waits : told.waits ≡ map (λ rank. option_map (λ line. line - 2) rank.waits) ranks

-- such a report, whose answers stand in the order of their lines
abbrev pub told_of : List Line → List Ended → Report
told_of lines ranks =
    record {
      said = map (λ place. option_map (λ a. record { answer = a; at = place }) (answer_at lines ranks place))
          (range_with_len 0 (length lines));
      waits = map (λ rank. option_map (λ line. line - 2) rank.waits) ranks;
    }

-- there is one for all ranks
abbrev pub RanksAreTold : Type 0
RanksAreTold = (lines : List Line) (ranks : List Ended) → IsToldBy lines ranks (told_of lines ranks)

-- what a run of a script tells, a run by MPI's text alone tells
abbrev pub RunsAreLawful : Type 0
RunsAreLawful =
    (shape : Sizes) (lines : List Line) (run : RunRecord) (told : Report) → IsScript shape.ranks lines →
    IsRunIn shape lines run → IsToldBy lines (ends_of run.ranks) told → IsLawful lines told shape.ranks

-- a judge refuses what was told: no run tells it, or none rests so
abbrev pub is_refused : Judged → Bool
is_refused (judged.Unlawful moment) = true
is_refused (judged.NoRest i) = true
is_refused _ = false

-- a judge of what a run of a script tells does not refuse it, whatever its limit is
abbrev pub RunsAreNotRefused : Type 0
RunsAreNotRefused =
    (shape : Sizes) (lines : List Line) (run : RunRecord) (told : Report) (count limit : ℕ) (said : Judged) →
    IsScript shape.ranks lines → IsRunIn shape lines run → IsToldBy lines (ends_of run.ranks) told →
    JudgedSays lines told shape.ranks count limit said → is_refused said ≡ false
