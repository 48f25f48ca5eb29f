-- The context is the one that is named.
use Rattle.std.proofs.Common.{◌≡◌, ℕ, Some, ◌∙◌, subst, sym}
use Rattle.std.specs.Prelude.{Contains}
use Rattle.std.proofs.lemmas.Result.{on_ok_weaker}
use Rattle.nm_why.specs.declared.changes.Edit.TheVariants.{Context}
use Rattle.nm_why.proofs.candidates.push_context.Goals as goal

pub returns-in-Some-clause-there : goal.returns-in-Some-clause-there
returns-in-Some-clause-there c =
    on_ok_weaker c.push_new.result
    (λ at own is.
    let both : Some c.in-Some.ctx ≡ Some own = sym c.in-Some.is ∙ is in
    let one : c.in-Some.ctx ≡ own = cc in
    subst (λ (ctx : ℕ). Contains c.push_new.new.edits.items (Context ctx)) one at)
    c.push_new.ensures.there
