-- One edit more.
use Rattle.std.proofs.Common.{List, arith, subst, sym}
use Rattle.std.specs.Prelude.{Contains}
use Rattle.std.proofs.lemmas.List.{take_all}
use Rattle.nm_why.specs.declared.changes.Edit.{Edit}
use Rattle.nm_why.proofs.CandidateLemmas.{edits_more}
use Rattle.nm_why.proofs.candidates.push_edits.Goals as goal

pub loop-edit-init : goal.loop-edit-init
loop-edit-init c = record {
  kept = λ x at. at;
  added = λ edit other at is not. absurd (omega (arith, at.1));
}

pub loop-edit-preserved : goal.loop-edit-preserved
loop-edit-preserved c =
    let before = c.loop-edit.invariant in
    record {
      kept = λ x at. c.in_ok-push_edit.ensures.kept x (before.kept x at);
      added =
          edits_more c.args.place c.args.command.now c.args.edits.now c.loop-edit.edit-index _ _ _
          c.loop-edit-test.true c.in_ok-push_edit.ensures.kept c.in_ok-push_edit.ensures.added before.added;
    }

pub returns-clause-kept : goal.returns-clause-kept
returns-clause-kept c = c.loop-edit.invariant.kept

pub returns-clause-added : goal.returns-clause-added
returns-clause-added c = λ edit other at is not.
    c.loop-edit.invariant.added edit other
    (subst (λ (es : List Edit). Contains es edit)
    (sym (take_all c.loop-edit.edit-index c.args.edits.now c.loop-edit-test.false)) at) is not
