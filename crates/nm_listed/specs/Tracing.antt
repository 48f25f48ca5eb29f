-- The trace that was chosen among those of the ends of a search.
use Rattle.std.specs.Prelude.{◌≡◌, ℕ, ◌-◌, ◌<◌, true, false, List, Some, Vec, length, map, slice_get}
use Rattle.nm_types.specs.declared.scripts.Line.{Line}
use Rattle.nm_types.specs.Sizes.{Sizes}
use Rattle.nm_report.specs.declared.records.RunRecord.{RunRecord}
use Rattle.nm_report.specs.Lawful.{IsRunIn}
use Rattle.nm_report.specs.Report.{report_text}
use Rattle.nm_outcomes.specs.RankStates.{Spot}
use Rattle.nm_explored.specs.declared.choices.moves.Turn.{Turn}
use Rattle.nm_explored.specs.declared.ends.End.{End}
use Rattle.nm_explored.specs.Ends.{AreEndsByWay, all_told, told_at_end}
use Rattle.nm_explored.specs.Rests.{AreAtRest}
use Rattle.nm_explored.specs.Met.{IsWay}
use Rattle.nm_listed.specs.Finding.{text_of_told}
use Rattle.nm_listed.specs.declared.tracing.Traced.{Traced}
use Rattle.nm_listed.specs.declared.tracing.Traced.TheVariants.{Trace, Fewer}

-- the turns of a way
abbrev pub turns_of : {A : Type 0} → Vec Turn A → List Turn
turns_of path = path.items

-- the way to an end
abbrev pub way_of : End → List Turn
way_of end = end.path.items

-- these moves, the newest first, lead to a state at which no rank has a move left, and this is the report of what is
-- told there
pub record IsReportByWay (shape : Sizes) (lines : List Line) (text : List ℕ) (ts : List Turn) : Type 0 where
  pub state : List Spot
  pub way : IsWay shape.eager shape.ranks lines ts state
  pub rest : AreAtRest shape.ranks lines (λ i. slice_get state i)
  pub text_is : text ≡ text_of_told shape (all_told lines (λ i. slice_get state i) shape.ranks)

-- these are the reports of some ends, and the ways to them
pub record AreReported (shape : Sizes) (lines : List Line) (texts : List (List ℕ)) (ways : List (List Turn)) : Type 0
  where
    pub ends : List End
    pub by_way : AreEndsByWay shape lines ends
    pub texts_are : texts ≡ map (λ end. text_of_told shape (told_at_end end)) ends
    pub ways_are : ways ≡ map way_of ends

-- it is the trace of a lawful run that has this report
pub record IsTraceWith (shape : Sizes) (lines : List Line) (text trace : List ℕ) : Type 0 where
  pub run : RunRecord
  pub lawful : IsRunIn shape lines run
  pub report : report_text false run ≡ text
  pub trace_is : trace ≡ report_text true run

-- .. and the report has this number in the list
pub record IsChosenTrace (shape : Sizes) (lines : List Line) (list : List (List ℕ)) (number : ℕ) (trace : List ℕ)
    : Type 0 where
  pub text : List ℕ
  pub there : slice_get list (number - 1) ≡ Some text
  pub traced : IsTraceWith shape lines text trace

-- the trace of the run with this number was chosen, or there are fewer
abbrev pub IsChosen : Sizes → List Line → List (List ℕ) → ℕ → Traced → Type 0
IsChosen shape lines list number (Trace trace) = IsChosenTrace shape lines list number trace.items
IsChosen shape lines list number (Fewer count) = (count ≡ length list) × (count < number)
IsChosen shape lines list number _ = ⊥
