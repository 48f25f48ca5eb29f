-- What a record is judged to be, where its trace breaks the rule first, and what that rests on.
use Rattle.std.specs.Prelude.{◌≡◌, ◌+◌, ◌*◌, ◌-◌, ℕ, IsSomeAnd, List, option_and_then, slice_get}
use Rattle.nm_types.specs.declared.scripts.Line.{Line}
use Rattle.nm_types.specs.Commands.{commands_of}
use Rattle.nm_report.specs.Ends.{ends_of}
use Rattle.nm_report.specs.declared.records.RunRecord.{RunRecord}
use Rattle.nm_check.specs.CarriedBreaks.{BreaksBetweenAt}
use Rattle.nm_check.specs.RestBreaks.{BreaksRestAt, BreaksStanding, IsNext, rest_clause}
use Rattle.nm_check.specs.declared.rest.clauses.RestClause.TheVariants.{Waits, Counts}
use Rattle.nm_breaks.specs.Against.{IsAgainst}
use Rattle.nm_breaks.specs.Miscounts.{IsFirstCounted}
use Rattle.nm_breaks.specs.Others.{IsOtherEvent}
use Rattle.nm_check.specs.Verdicts.{IsBreachOf, Judges}
use Rattle.nm_breaks.specs.Places.{IsTold, events_in, told_of}
use Rattle.nm_check.specs.declared.verdicts.Verdict.{Verdict}
use Rattle.nm_check.specs.declared.verdicts.Verdict.TheVariants as verdict
use Rattle.nm_breaks.specs.declared.cells.CellCount.{CellCount}
use Rattle.nm_breaks.specs.declared.judgements.Judgement.{Judgement}
use Rattle.nm_breaks.specs.declared.judgements.Judgement.TheVariants.{Holds, Own, Carried, Left, Standing, Counted}
use Rattle.nm_breaks.specs.declared.judgements.Judgement.TheVariants.{Home, Done}

-- the verdict
abbrev pub judged_as : Judgement → Verdict
judged_as Holds = verdict.Holds
judged_as (Own clause rank first event) = verdict.Own clause rank
judged_as (Carried clause from to event other against) = verdict.Carried clause from to
judged_as (Left rule event) = verdict.Rest (rest_clause rule)
judged_as (Standing rank waits next) = verdict.Rest Waits
judged_as (Counted line miscount) = verdict.Rest Counts
judged_as (Home line cells) = verdict.Home
judged_as (Done line) = verdict.Done

-- how many cells all ranks are to have, how many there are, and how many of them are home
abbrev pub count_of : RunRecord → CellCount
count_of run = record {
  called = run.shape.ranks * run.shape.cells;
  total = run.cells.total;
  home = run.cells.home;
}

-- The rule breaks there first, in a trace of so many lines, of which the last but one has the cells, and the last
-- the end: at the first event, which is held against this one of the other rank, and what stands between the two; at
-- the first event that is left unfinished; at the first rank that neither is at its end nor waits for what can't
-- come, with its next command; at the first count of packets that is not the one called for, before which stand a
-- line for each event, and one for each count before it; or in one of the last two lines.
abbrev pub RestsOn : ℕ → List Line → RunRecord → Judgement → Type 0
RestsOn count lines run (Own clause rank first event) =
    IsBreachOf run.shape lines (ends_of run.ranks) rank first
    × (event ≡ told_of (ends_of run.ranks) rank first.place)
RestsOn count lines run (Carried clause from to event other against) =
    IsTold (ends_of run.ranks) (BreaksBetweenAt lines (ends_of run.ranks) from to clause) event
    × IsOtherEvent lines (ends_of run.ranks) from to event.spot other
    × IsAgainst lines (ends_of run.ranks) event other against
RestsOn count lines run (Left rule event) =
    IsTold (ends_of run.ranks) (BreaksRestAt rule (ends_of run.ranks)) event
RestsOn count lines run (Standing rank waits next) =
    BreaksStanding lines (ends_of run.ranks) rank
    × (waits ≡ option_and_then (λ e. e.waits) (slice_get (ends_of run.ranks) rank))
    × IsSomeAnd (slice_get (ends_of run.ranks) rank) (λ e. IsNext (commands_of rank lines) e next)
RestsOn count lines run (Counted line miscount) =
    IsFirstCounted lines (ends_of run.ranks) run.pairs miscount
    × (line ≡ events_in (ends_of run.ranks) + miscount.at + 1)
RestsOn count lines run (Home line cells) = (line ≡ count - 1) × (cells ≡ count_of run)
RestsOn count lines run (Done line) = line ≡ count
RestsOn count lines run Holds = Unit {0}

-- of a record whose trace has so many lines
pub record IsJudgement (count : ℕ) (lines : List Line) (run : RunRecord) (j : Judgement) : Type 0 where
  pub right : Judges lines run (judged_as j)
  pub rests : RestsOn count lines run j
