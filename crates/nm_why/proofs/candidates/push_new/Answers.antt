-- It is there, or was pushed.
use Rattle.std.proofs.Common.{List, subst}
use Rattle.std.specs.Prelude.{Contains}
use Rattle.nm_why.specs.declared.changes.Edit.{Edit}
use Rattle.nm_why.proofs.ListLemmas.{has_push, keeps_push}
use Rattle.nm_why.proofs.candidates.push_new.Goals as goal

pub returns-then-has-clause-kept : goal.returns-then-has-clause-kept
returns-then-has-clause-kept c = λ x at. at

pub returns-then-has-clause-there : goal.returns-then-has-clause-there
returns-then-has-clause-there c =
    subst (λ (es : List Edit). Contains es c.args.edit) c.as_slice.ensures.value (c.has.ensures c.if-has.true)

pub returns-clause-kept : goal.returns-clause-kept
returns-clause-kept c = keeps_push _ _ _ c.in_ok-push.ensures.items

pub returns-clause-there : goal.returns-clause-there
returns-clause-there c = has_push _ _ _ c.in_ok-push.ensures.items
