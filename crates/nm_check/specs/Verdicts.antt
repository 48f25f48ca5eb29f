-- The verdict on a run: the first rule that is broken, in order.
use Rattle.std.specs.Prelude.{◌≢◌, ℕ, ◌<◌, IsSomeAnd, List}
use Rattle.std.specs.List.{slice_get}
use Rattle.nm_types.specs.declared.scripts.Line.{Line}
use Rattle.nm_types.specs.Commands.{commands_of}
use Rattle.nm_types.specs.Sizes.{Sizes}
use Rattle.nm_history.specs.Quiescence.{Ended, Packets, EachRank, EachPair}
use Rattle.nm_history.specs.RankRun.{IsRankRun}
use Rattle.nm_history.specs.Run.{IsRunOf}
use Rattle.nm_report.specs.declared.records.RunRecord.{RunRecord}
use Rattle.nm_report.specs.Cells.{AllCellsFree}
use Rattle.nm_report.specs.Ends.{are_done, ends_of, packets_of}
use Rattle.nm_report.specs.Lawful.{IsRunIn}
use Rattle.nm_check_rank.specs.FirstBroken.{IsFirstBroken}
use Rattle.nm_check_rank.specs.OwnBreaks.{IsBreach}
use Rattle.nm_check_rank.specs.OwnClauses.{KeepsOwn, own_order}
use Rattle.nm_check_rank.specs.declared.clauses.OwnClause.{OwnClause}
use Rattle.nm_check_rank.specs.declared.paired.breaches.Breach.{Breach}
use Rattle.nm_check.specs.CarriedClauses.{KeepsCarried, PairDelivered, StandsBefore, carried_order}
use Rattle.nm_check.specs.declared.clauses.CarriedClause.{CarriedClause}
use Rattle.nm_check.specs.RestClauses.{KeepsRest, rest_order}
use Rattle.nm_check.specs.declared.rest.clauses.RestClause.{RestClause}
use Rattle.nm_check.specs.declared.verdicts.Verdict.{Verdict}
use Rattle.nm_check.specs.declared.verdicts.Verdict.TheVariants.{Holds, Own, Carried, Rest, Home, Done}

-- the rank with this number runs its own commands
abbrev pub RunsItsOwn : Sizes → List Line → ℕ → Ended → Type 0
RunsItsOwn shape lines i rank = IsRankRun shape (commands_of i lines) rank.at rank.events

-- The ranks before rank i run their own commands, and of its rules this is the first that is broken.
pub record BreaksOwn (shape : Sizes) (lines : List Line) (ranks : List Ended) (c : OwnClause) (i : ℕ)
    : Type 0 where
  pub earlier : EachRank (λ k rank. k < i → RunsItsOwn shape lines k rank) ranks
  pub first :
      IsSomeAnd (slice_get ranks i)
      (λ rank. IsFirstBroken (KeepsOwn shape (commands_of i lines) rank.at rank.events) own_order c)

-- a rank breaks a rule of its own run first there
abbrev pub IsBreachOf : Sizes → List Line → List Ended → ℕ → Breach → Type 0
IsBreachOf shape lines ranks rank b =
    IsSomeAnd (slice_get ranks rank) (λ e. IsBreach shape (commands_of rank lines) e.at e.events b)

-- All ranks run their own commands, the messages of the pairs before this one are delivered, and of
-- its rules this is the first that is broken.
pub record BreaksCarried (shape : Sizes) (lines : List Line) (ranks : List Ended)
    (c : CarriedClause) (i j : ℕ) : Type 0 where
  pub runs : EachRank (RunsItsOwn shape lines) ranks
  pub earlier :
      EachPair (λ k l hk hl. StandsBefore k l i j → PairDelivered lines k l hk hl) ranks
  pub first :
      IsSomeAnd (slice_get ranks i) (λ a. IsSomeAnd (slice_get ranks j)
      (λ b. IsFirstBroken
      (KeepsCarried i j (commands_of i lines) (commands_of j lines) a.events b.events)
      carried_order c))

-- All ranks run their own commands, all messages are delivered, and of the rules of rest this is the
-- first that is broken.
pub record BreaksRest (shape : Sizes) (lines : List Line) (ranks : List Ended)
    (packets : List Packets) (c : RestClause) : Type 0 where
  pub runs : EachRank (RunsItsOwn shape lines) ranks
  pub delivered : EachPair (PairDelivered lines) ranks
  pub first : IsFirstBroken (KeepsRest lines ranks packets) rest_order c

-- The verdict on a record, by the lines of the script. It holds exactly where the record is of a run
-- of them; else it names the first rule that is broken.
abbrev pub Judges : List Line → RunRecord → Verdict → Type 0
Judges lines run Holds = IsRunIn run.shape lines run
Judges lines run (Own clause rank) = BreaksOwn run.shape lines (ends_of run.ranks) clause rank
Judges lines run (Carried clause from to) =
    BreaksCarried run.shape lines (ends_of run.ranks) clause from to
Judges lines run (Rest clause) =
    BreaksRest run.shape lines (ends_of run.ranks) (packets_of run.pairs) clause
Judges lines run Home =
    IsRunOf run.shape lines (ends_of run.ranks) (packets_of run.pairs) × (¬ AllCellsFree run)
Judges lines run Done =
    IsRunOf run.shape lines (ends_of run.ranks) (packets_of run.pairs)
    × AllCellsFree run × (run.done ≢ are_done (ends_of run.ranks))
