-- One change more.
use Rattle.std.proofs.Common.{List, arith, subst}
use Rattle.std.proofs.lemmas.List.{take_all}
use Rattle.nm_why.specs.declared.changes.Change.{Change}
use Rattle.nm_why.specs.Cures.{AreCures}
use Rattle.nm_why.proofs.ListLemmas.{empty_has}
use Rattle.nm_why.proofs.CureLemmas.{cures_more, others_more}
use Rattle.nm_why.proofs.cures.cures_among.Goals as goal

pub loop-change-init : goal.loop-change-init
loop-change-init g c = record {
  cures = λ change at. absurd (empty_has c.new-cures.result.items change c.new-cures.ensures.items at);
  others = λ change at. absurd (omega (arith, at.1));
}

pub loop-change-preserved : goal.loop-change-preserved
loop-change-preserved g c =
    let before = c.loop-change.invariant in
    record {
      cures =
          cures_more c.args.shape c.args.lines.now _ c.in_ok-trial.trial c.loop-change.cures.items
          c.file.new.cures.items before.cures c.in_ok-trial.ensures c.in_ok-file.ensures.cures;
      others =
          others_more c.args.shape c.args.lines.now c.args.changes.now c.loop-change.change-index _
          c.in_ok-trial.trial c.loop-change.cures.items c.file.new.cures.items c.loop-change.undecided.items
          c.file.new.undecided.items c.loop-change-test.true before.others c.in_ok-trial.ensures
          c.in_ok-file.ensures.kept.0 c.in_ok-file.ensures.kept.1 c.in_ok-file.ensures.filed;
    }

pub returns : goal.returns
returns g c =
    subst (λ (changes : List Change). AreCures c.args.shape c.args.lines.now changes
    (record { cures = c.loop-change.cures; undecided = c.loop-change.undecided }))
    (take_all c.loop-change.change-index c.args.changes.now c.loop-change-test.false) c.loop-change.invariant
