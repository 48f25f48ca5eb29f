-- The other one is the next.
use Rattle.std.proofs.Common.{◌≡◌, ℕ, Some, ◌∙◌, subst, sym}
use Rattle.std.specs.Prelude.{Contains}
use Rattle.std.proofs.lemmas.Result.{on_ok_weaker}
use Rattle.nm_why.specs.declared.changes.Change.TheVariants.{Swapped}
use Rattle.nm_why.proofs.candidates.push_swap.Goals as goal

pub returns-in-Some-clause-swapped : goal.returns-in-Some-clause-swapped
returns-in-Some-clause-swapped c =
    on_ok_weaker c.push.result
    (λ at own is.
    let both : Some c.in-Some.other ≡ Some own = sym c.in-Some.is ∙ is in
    let one : c.in-Some.other ≡ own = cc in
    subst (λ (other : ℕ). Contains c.push.new.changes.items (Swapped c.args.place other)) one at)
    c.push.ensures.there
