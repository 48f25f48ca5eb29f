-- The tag is the one that is named.
use Rattle.std.proofs.Common.{◌≡◌, Some, ◌∙◌, subst, sym}
use Rattle.std.specs.Prelude.{Contains}
use Rattle.std.proofs.lemmas.Result.{on_ok_weaker}
use Rattle.nm_types.specs.declared.messages.TagPick.{TagPick}
use Rattle.nm_why.specs.declared.changes.Edit.TheVariants.{Tag}
use Rattle.nm_why.proofs.candidates.push_tag.Goals as goal

pub returns-in-Some-clause-there : goal.returns-in-Some-clause-there
returns-in-Some-clause-there c =
    on_ok_weaker c.push_new.result
    (λ at own is.
    let both : Some c.in-Some.tag ≡ Some own = sym c.in-Some.is ∙ is in
    let one : c.in-Some.tag ≡ own = cc in
    subst (λ (tag : TagPick). Contains c.push_new.new.edits.items (Tag tag)) one at)
    c.push_new.ensures.there
