-- What the ranks told at the end of some moves is what a lawful run tells.
use Rattle.std.specs.Prelude.{◌≡◌, List}
use Rattle.std.specs.List.{slice_get}
use Rattle.nm_types.specs.declared.scripts.Line.{Line}
use Rattle.nm_types.specs.Limits.{IsScript}
use Rattle.nm_types.specs.Sizes.{Sizes}
use Rattle.nm_report.specs.declared.records.RunRecord.{RunRecord}
use Rattle.nm_report.specs.Lawful.{IsRunIn}
use Rattle.nm_report.specs.Told.{RankTold, told_of}
use Rattle.nm_outcomes.specs.RankStates.{Spot}
use Rattle.nm_explored.specs.Ends.{all_told}
use Rattle.nm_explored.specs.Rests.{AreAtRest}
use Rattle.nm_explored.specs.Met.{IsMet, IsWay}
use Rattle.nm_explored.specs.declared.choices.moves.Turn.{Turn}
use Rattle.nm_listed.specs.Records.{IsCountable, IsRecordOf}
use Rattle.nm_listed.specs.Tellings.{finished, told_way}

-- some run of the script in these sizes tells this
abbrev pub IsToldByRun : Sizes → List Line → List RankTold → Type 0
IsToldByRun shape lines told = (run : RunRecord) × IsRunIn shape lines run × (told_of run ≡ told)

-- Where moves lead to states at which no rank has a move left, some run of the script tells what the ranks
-- told there.
abbrev pub EndsAreRuns : Type 0
EndsAreRuns =
    (shape : Sizes) (lines : List Line) (state : List Spot) → IsScript shape.ranks lines →
    IsMet shape.eager shape.ranks lines state → AreAtRest shape.ranks lines (λ i. slice_get state i) →
    IsToldByRun shape lines (all_told lines (λ i. slice_get state i) shape.ranks)

-- A record of the log that is made of a way of moves, with all that is left put behind it, is of a run that tells what
-- the ranks told where the way leads to, if no rank has a move left there.
abbrev pub RecordsAreRuns : Type 0
RecordsAreRuns =
    (shape : Sizes) (lines : List Line) (ts : List Turn) (state : List Spot) (run : RunRecord) →
    IsScript shape.ranks lines → IsWay shape.eager shape.ranks lines ts state →
    AreAtRest shape.ranks lines (λ i. slice_get state i) →
    IsRecordOf shape lines (finished shape.ranks (told_way lines shape.ranks ts)) run →
    IsRunIn shape lines run × (told_of run ≡ all_told lines (λ i. slice_get state i) shape.ranks)

-- What becomes of the ranks by such a log can be counted.
abbrev pub RecordsAreCountable : Type 0
RecordsAreCountable =
    (shape : Sizes) (lines : List Line) (ts : List Turn) (state : List Spot) → IsScript shape.ranks lines →
    IsWay shape.eager shape.ranks lines ts state → AreAtRest shape.ranks lines (λ i. slice_get state i) →
    IsCountable shape (finished shape.ranks (told_way lines shape.ranks ts))

-- these moves, the newest first, lead from the first state to one at which no rank has a move left
abbrev pub IsEndWay : Sizes → List Line → List Turn → Type 0
IsEndWay shape lines ts =
    (state : List Spot) × IsWay shape.eager shape.ranks lines ts state
    × AreAtRest shape.ranks lines (λ i. slice_get state i)
