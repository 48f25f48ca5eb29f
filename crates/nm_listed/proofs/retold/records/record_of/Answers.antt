-- The parts of the record.
use Rattle.std.proofs.Common.{◌≡◌, ◌<◌, ℕ, List, length, refl, sym, ◌∙◌, ap, subst, arith}
use Rattle.std.specs.List.{slice_get}
use Rattle.nm_history.specs.Quiescence.{Ended, packets_of as packets_due}
use Rattle.nm_report.specs.declared.accounts.RankAccount.{RankAccount}
use Rattle.nm_report.specs.Ends.{are_done, ends_of}
use Rattle.nm_outcomes.specs.RankStates.{Spot}
use Rattle.nm_listed.specs.Records.{AreCountable, all_ended}
use Rattle.nm_listed.proofs.RecordLemmas.{accounts_all, done_is, ends_countable, ends_few, ends_many}
use Rattle.nm_listed.proofs.retold.records.record_of.Goals as goal
use Rattle.nm_listed.proofs.retold.records.record_of.Goals.{In_ok-push_accounts}

pub push_accounts-requires-clause-few : goal.push_accounts-requires-clause-few
push_accounts-requires-clause-few c = λ i spot low here.
    c.requires.countable.few i spot (subst (λ (n : ℕ). i < n) c.ranks.ensures.value low)
    (ap (λ (ss : List Spot). slice_get ss i) (sym (c.as_slice.ensures.value ∙ c.into_parts-log.ensures.states)) ∙ here)

-- what became of all ranks
all : (c : In_ok-push_accounts) →
    ends_of c.push_accounts.new.accounts.items ≡ all_ended c.args.lines.now c.args.telling c.args.shape.ranks
all c =
    accounts_all c.args.shape c.args.lines.now c.args.telling (ends_of c.push_accounts.new.accounts.items)
    (ends_of c.new-ranks.result.items) c.into_vec-entries.result.items c.as_slice.result.now c.ranks.result
    (ap (λ (rs : List RankAccount). ends_of rs) c.new-ranks.ensures.items)
    (c.into_vec-entries.ensures ∙ c.into_parts-log.ensures.log)
    (c.as_slice.ensures.value ∙ c.into_parts-log.ensures.states) c.ranks.ensures.value c.in_ok-push_accounts.ensures

pub counts-requires-clause-few : goal.counts-requires-clause-few
counts-requires-clause-few c =
    let few = ends_few c.args.shape c.args.lines.now c.args.telling c.requires.countable in
    let same = ap (λ (es : List Ended). length es)
    (ap (λ (rs : List RankAccount). ends_of rs) c.as_slice-2.ensures.value
    ∙ all (goal.at.counts-requires-clause-few c).In_ok-push_accounts) in
    let many = ends_many c.as_slice-2.result.now in
    omega (arith, few, same, many)

pub counts-requires-clause-countable : goal.counts-requires-clause-countable
counts-requires-clause-countable c =
    subst (λ (es : List Ended). AreCountable es)
    (sym (ap (λ (rs : List RankAccount). ends_of rs) c.as_slice-2.ensures.value
    ∙ all (goal.at.counts-requires-clause-countable c).In_ok-push_accounts))
    (ends_countable c.args.shape c.args.lines.now c.args.telling c.requires.countable)

pub returns : goal.returns
returns c = record {
  shaped = refl;
  ranks = ap (λ (rs : List RankAccount). ends_of rs) c.from_vec.ensures
      ∙ all (goal.at.returns c).In_ok-push_accounts;
  pairs = c.in_ok-pairs.ensures
      ∙ ap (λ (rs : List RankAccount). packets_due c.args.lines.now (ends_of rs))
      (c.as_slice-2.ensures.value ∙ sym c.from_vec.ensures);
  cells = c.all_home.ensures;
  done = c.are_done-done.ensures ∙ done_is c.as_slice-3.result.now
      ∙ ap (λ (rs : List RankAccount). are_done (ends_of rs))
      (c.as_slice-3.ensures.value ∙ sym c.from_vec.ensures);
}
