-- What was found of the ranks by themselves, and of all that run their own commands.
use Rattle.std.specs.Prelude.{List}
use Rattle.nm_types.specs.declared.scripts.Line.{Line}
use Rattle.nm_types.specs.Sizes.{Sizes}
use Rattle.nm_history.specs.Quiescence.{EachRank, Ended}
use Rattle.nm_report.specs.Ends.{ends_of}
use Rattle.nm_report.specs.declared.records.RunRecord.{RunRecord}
use Rattle.nm_check.specs.CarriedBreaks.{BreaksBetweenAt}
use Rattle.nm_check.specs.RestBreaks.{BreaksThere, clause_of}
use Rattle.nm_check.specs.Tabled.{EachTabled}
use Rattle.nm_check.specs.Verdicts.{IsBreachOf, BreaksOwn, Judges, RunsItsOwn}
use Rattle.nm_check.specs.declared.judging.Tabled.{Tabled}
use Rattle.nm_check.specs.declared.judging.Tabled.TheVariants as what
use Rattle.nm_check.specs.declared.verdicts.Verdict.{Verdict}
use Rattle.nm_check.specs.declared.verdicts.Verdict.TheVariants.{Carried, Rest, Home, Done, Holds}
use Rattle.nm_check.specs.declared.ranking.Ranked.{Ranked}
use Rattle.nm_check.specs.declared.ranking.Ranked.TheVariants.{Run, Breaks}

-- all ranks run their own commands, and these are their tables; or this is the first rule that is broken, and
-- its rank breaks one first there
abbrev pub IsRanked : Sizes → List Line → List Ended → Ranked → Type 0
IsRanked shape lines ranks (Run tables) =
    EachRank (RunsItsOwn shape lines) ranks × EachTabled lines ranks tables.items
IsRanked shape lines ranks (Breaks clause rank first) =
    BreaksOwn shape lines ranks clause rank × IsBreachOf shape lines ranks rank first

-- the verdict of what breaks first where all ranks run their own commands
abbrev pub verdict_of : Tabled → Verdict
verdict_of (what.Carried pair) = Carried pair.first.clause pair.from pair.to
verdict_of (what.Rest first) = Rest (clause_of first)
verdict_of what.Home = Home
verdict_of what.Done = Done
verdict_of what.Holds = Holds

-- it breaks there first
abbrev pub BreaksAt : List Line → List Ended → Tabled → Type 0
BreaksAt lines ranks (what.Carried pair) =
    BreaksBetweenAt lines ranks pair.from pair.to pair.first.clause pair.first.spot
BreaksAt lines ranks (what.Rest first) = BreaksThere lines ranks first
BreaksAt lines ranks _ = Unit {0}

-- what breaks first, and where
pub record IsTabled (lines : List Line) (run : RunRecord) (found : Tabled) : Type 0 where
  pub judged : Judges lines run (verdict_of found)
  pub at : BreaksAt lines (ends_of run.ranks) found
