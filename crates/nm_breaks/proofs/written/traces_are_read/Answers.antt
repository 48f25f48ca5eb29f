use Rattle.std.proofs.Common.{refl, sym, ◌∙◌}
use Rattle.std.proofs.lemmas.List.{length-map}
use Rattle.nm_history.specs.Quiescence.{Ended}
use Rattle.nm_report.specs.declared.accounts.RankAccount.{RankAccount}
use Rattle.nm_report.specs.Ends.{ends_of}
use Rattle.nm_breaks.proofs.WrittenLemmas.{ends_in}
use Rattle.nm_breaks.proofs.written.traces_are_read.Goals as goal

ended : RankAccount → Ended
ended rank = record { at = rank.at; waits = rank.waits; events = rank.history.events }

pub returns : goal.returns
unfolding ended
returns c = λ lines lawful. record {
  spelled = refl;
  shaped = refl;
  whole = sym (length-map c.args.run.now.ranks ended) ∙ lawful.lawful.one_each;
  ends = ends_in c.args.run.now.shape lines (ends_of c.args.run.now.ranks)
      (rw c.as_slice.ensures at c.ranks_fit.ensures) lawful.lawful.rank_runs;
  pairs = rw c.as_slice-2.ensures at c.pairs_fit.ensures;
  cells = c.cells_fit.ensures;
}
