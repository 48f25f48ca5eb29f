-- The first rule that is broken, in an order of rules.
use Rattle.std.proofs.Common.{List, [], ◌∷◌, ◌++◌, refl}
use Rattle.std.specs.Prelude.{All}
use Rattle.std.proofs.lemmas.List.Elements.{All-cons, All-nil}
use Rattle.nm_check_rank.specs.FirstBroken.{IsFirstBroken}

module _ {C : Type 0} (Keeps : C → Type 0) where
  pub first_broken : (earlier : List C) (c : C) (later : List C) → All Keeps earlier → (Keeps c → ⊥) →
      IsFirstBroken Keeps (earlier ++ c ∷ later) c
  first_broken earlier c later kept broken = record {
    earlier = earlier;
    later = later;
    split = refl;
    kept = kept;
    broken = broken;
  }

  pub kept_none : All Keeps []
  kept_none = All-nil Keeps

  pub kept_one : (c : C) (cs : List C) → Keeps c → All Keeps cs → All Keeps (c ∷ cs)
  kept_one c cs here kept = All-cons Keeps c cs here kept
