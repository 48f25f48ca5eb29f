-- Too few arguments, or too many.
use Rattle.std.proofs.Common.{◌≡◌, ℕ, List, length, Err, eqb, false}
use Rattle.std.proofs.lemmas.Bool.{ne_eqb}
use Rattle.nm_plans.specs.declared.faults.PlanKind.TheVariants as kind
use Rattle.nm_plans.specs.declared.keywords.PlanKeyword.{PlanKeyword}
use Rattle.nm_plans.specs.Commands.{arguments_of}
use Rattle.nm_plans.specs.Grammar.{arguments}

pub other_arguments : (ranks : ℕ) (k : PlanKeyword) (ws : List (List ℕ))
    → (length ws ≡ length (arguments k) → ⊥) → arguments_of ranks k ws ≡ Err kind.Count
unfolding arguments_of
other_arguments ranks k ws other =
    let no : eqb (length ws) (length (arguments k)) ≡ false = ne_eqb _ _ other in
    rw no
