-- The commands of a part that it needs.
use Rattle.std.proofs.Common.{◌≡◌, ◌⊎◌, inl, inr, ℕ, ◌+◌, ◌<◌, ◌≤◌, List, arith, subst}
use Rattle.std.specs.Prelude.{Contains, remove}
use Rattle.std.proofs.lemmas.Bool.{cases_lt}
use Rattle.nm_types.specs.declared.scripts.Line.{Line}
use Rattle.nm_types.specs.Sizes.{Sizes}
use Rattle.nm_why.specs.declared.hangs.Aim.{Aim}
use Rattle.nm_why.specs.declared.hangs.Meets.{Meets}
use Rattle.nm_why.specs.declared.hangs.Meets.TheVariants.{Yes, No}
use Rattle.nm_why.specs.Hangs.{Does, IsMeeting}
use Rattle.nm_why.specs.Lists.{Keeps}
use Rattle.nm_why.specs.Parts.{lines_at}

-- without this command it is no such part, or a search gave up there
abbrev pub IsNeeded : Aim → Sizes → List Line → List ℕ → List ℕ → ℕ → Type 0
IsNeeded aim shape lines places undecided k =
    (¬ (Does aim shape (lines_at lines (remove places k)))) ⊎ Contains undecided k

-- one command more that was looked at
pub needed_more : (aim : Aim) (shape : Sizes) (lines : List Line) (places others : List ℕ) (from k : ℕ)
    (old new : List ℕ) (said : Meets) →
    ((j : ℕ) → from ≤ j → j < k → IsNeeded aim shape lines places old j) → Keeps old new →
    (said ≡ No) ⊎ Contains new k → others ≡ remove places k → IsMeeting aim shape (lines_at lines others) said →
    (j : ℕ) → from ≤ j → j < k + 1 → IsNeeded aim shape lines places new j
needed_more aim shape lines places others from k old new said before kept here is found j later low =
    elim (cases_lt j k) [
      | inl less ↦ was (before j later less)
      | inr more ↦
          subst (λ (i : ℕ). IsNeeded aim shape lines places new i) (omega (arith, low, more)) (now here)
    ]
  where
    was : IsNeeded aim shape lines places old j → IsNeeded aim shape lines places new j
    was (inl never) = inl never
    was (inr at) = inr (kept j at)

    now : (said ≡ No) ⊎ Contains new k → IsNeeded aim shape lines places new k
    now (inl never) =
        inl
        (subst (λ (ps : List ℕ). ¬ (Does aim shape (lines_at lines ps))) is
        (subst (λ (m : Meets). IsMeeting aim shape (lines_at lines others) m) never found))
    now (inr at) = inr at

-- the part does it without this command, too
pub does_without : (aim : Aim) (shape : Sizes) (lines : List Line) (places others : List ℕ) (k : ℕ) (said : Meets) →
    said ≡ Yes → others ≡ remove places k → IsMeeting aim shape (lines_at lines others) said →
    Does aim shape (lines_at lines (remove places k))
does_without aim shape lines places others k said so is found =
    subst (λ (ps : List ℕ). Does aim shape (lines_at lines ps)) is
    (subst (λ (m : Meets). IsMeeting aim shape (lines_at lines others) m) so found)
