-- An edit that is the same is this one.
use Rattle.std.proofs.Common.{subst}
use Rattle.std.specs.Prelude.{Contains}
use Rattle.std.proofs.lemmas.List.Elements.{Contains-get_or}
use Rattle.nm_why.specs.declared.changes.Edit.{Edit}
use Rattle.nm_why.proofs.candidates.has.Goals as goal

pub returns-then-is_same : goal.returns-then-is_same
returns-then-is_same c = λ yes.
    subst (λ (e : Edit). Contains c.args.edits.now e) (c.is_same.ensures c.if-is_same.true)
    (Contains-get_or c.args.edits.now c.loop-own.own-index _ c.loop-own-test.true)
