-- What the first moves lead to is there, and nothing else.
use Rattle.std.proofs.Common.{◌≡◌, ℕ, ◌<◌, List, Some}
use Rattle.std.specs.List.{slice_get}
use Rattle.nm_lawful.specs.declared.moves.Move.{Move}
use Rattle.nm_search.specs.Lists.{Has}
use Rattle.nm_lawful.specs.Moves.{Goes, next_lem, report_lem}
use Rattle.nm_lawful.specs.Ranks.{RankState}
use Rattle.nm_lawful.proofs.searches.successors.Given as goal

abbrev pub invariant-loop-by : goal.invariant-loop-by
invariant-loop-by l =
    record {
      all : (k : ℕ) → k < l.by-index → (m : Move) (t : List RankState) → slice_get l.by-items k ≡ Some m →
          next_lem l.report.lines.now (report_lem l.report.told.now l.report.waits.now) l.report.until l.state m ≡ Some t → Has l.states.items t;
      only : (t : List RankState) → Has l.states.items t →
          Goes l.report.lines.now (report_lem l.report.told.now l.report.waits.now) l.report.until l.state t;
    }
