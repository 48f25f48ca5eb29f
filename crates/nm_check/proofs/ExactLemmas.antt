-- Where the record is of a run, no rule is broken.
use Rattle.std.proofs.Common.{◌≡◌, ℕ, Option, Some, None, List, refl}
use Rattle.std.specs.Prelude.{IfSome, IsSomeAnd}
use Rattle.std.specs.List.{slice_get}
use Rattle.nm_types.specs.declared.scripts.Line.{Line}
use Rattle.nm_types.specs.Commands.{Numbered, commands_of}
use Rattle.nm_types.specs.Sizes.{Sizes}
use Rattle.nm_history.specs.declared.events.Event.{Event}
use Rattle.nm_history.specs.Delivery.{AreDelivered}
use Rattle.nm_history.specs.Quiescence.{AreQuiescent, Ended, Packets}
use Rattle.nm_history.specs.RankRun.{IsRankRun}
use Rattle.nm_report.specs.declared.records.RunRecord.{RunRecord}
use Rattle.nm_report.specs.Ends.{ends_of}
use Rattle.nm_report.specs.Lawful.{IsRunIn}
use Rattle.nm_check_rank.specs.OwnClauses.{KeepsOwn}
use Rattle.nm_check_rank.specs.declared.clauses.OwnClause.{OwnClause}
use Rattle.nm_check_rank.specs.declared.clauses.OwnClause.TheVariants as own
use Rattle.nm_check.specs.CarriedClauses.{KeepsCarried}
use Rattle.nm_check.specs.declared.clauses.CarriedClause.{CarriedClause}
use Rattle.nm_check.specs.declared.clauses.CarriedClause.TheVariants as carried
use Rattle.nm_check.specs.RestClauses.{KeepsRest}
use Rattle.nm_check.specs.declared.rest.clauses.RestClause.{RestClause}
use Rattle.nm_check.specs.declared.rest.clauses.RestClause.TheVariants as rest
use Rattle.nm_check.specs.Verdicts.{Judges}
use Rattle.nm_check.specs.declared.verdicts.Verdict.{Verdict}
use Rattle.nm_check.specs.declared.verdicts.Verdict.TheVariants.{Holds, Own, Carried, Rest, Home, Done}

keeps_own : (shape : Sizes) (commands : List Numbered) (at : ℕ) (h : List Event) (c : OwnClause) →
    IsRankRun shape commands at h → KeepsOwn shape commands at h c
keeps_own shape commands at h own.Answers run = run.answers
keeps_own shape commands at h own.Starts run = run.starts
keeps_own shape commands at h own.Numbers run = run.numbers
keeps_own shape commands at h own.Cancels run = run.cancels
keeps_own shape commands at h own.Wholes run = run.wholes
keeps_own shape commands at h own.Ends run = run.ends
keeps_own shape commands at h own.Stamps run = run.stamps
keeps_own shape commands at h own.Claims run = run.claims

keeps_carried : (i j : ℕ) (ci cj : List Numbered) (hi hj : List Event) (c : CarriedClause) →
    AreDelivered i j ci cj hi hj → KeepsCarried i j ci cj hi hj c
keeps_carried i j ci cj hi hj carried.Messages are = are.messages
keeps_carried i j ci cj hi hj carried.Bodies are = are.bodies
keeps_carried i j ci cj hi hj carried.Outs are = are.outs
keeps_carried i j ci cj hi hj carried.Withdrawals are = are.withdrawals

keeps_rest : (lines : List Line) (ranks : List Ended) (packets : List Packets) (c : RestClause) →
    AreQuiescent lines ranks packets → KeepsRest lines ranks packets c
keeps_rest lines ranks packets rest.Arrived are = are.arrived
keeps_rest lines ranks packets rest.Eager are = are.eager
keeps_rest lines ranks packets rest.Asked are = are.asked
keeps_rest lines ranks packets rest.Recalls are = are.recalls
keeps_rest lines ranks packets rest.Waits are = are.waits
keeps_rest lines ranks packets rest.Counts are = are.counts

-- what is so of each, and not so of the one that there is
not_both : {X : Type 0} (o : Option X) (P Q : X → Type 0) → IfSome o P → IsSomeAnd o Q → ((x : X) → P x → Q x → ⊥) → ⊥
not_both None P Q each there clash = there
not_both (Some x) P Q each there clash = clash x each there

-- the only verdict on a run is that it holds
pub only_holds : (lines : List Line) (run : RunRecord) (v : Verdict) → IsRunIn run.shape lines run →
    Judges lines run v → v ≡ Holds
only_holds lines run Holds is judged = refl
only_holds lines run (Own clause i) is judged =
    absurd (not_both (slice_get (ends_of run.ranks) i) _ _ (is.lawful.rank_runs i) judged.first
    (λ rank runs broken. broken.broken (keeps_own run.shape (commands_of i lines) rank.at rank.events clause runs)))
only_holds lines run (Carried clause i j) is judged =
    absurd (not_both (slice_get (ends_of run.ranks) i) _ _ (is.lawful.delivered i) judged.first
    (λ a to_each there. not_both (slice_get (ends_of run.ranks) j) _ _ (to_each j) there
    (λ b are broken. broken.broken (keeps_carried i j (commands_of i lines) (commands_of j lines) a.events b.events
    clause are))))
only_holds lines run (Rest clause) is judged =
    absurd (judged.first.broken (keeps_rest lines (ends_of run.ranks) _ clause is.lawful.quiescent))
only_holds lines run Home is judged = absurd (judged.1 is.home)
only_holds lines run Done is judged = absurd (judged.2 is.ended)
