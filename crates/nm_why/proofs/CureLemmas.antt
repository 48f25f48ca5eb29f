-- One change more that was tried.
use Rattle.std.proofs.Common.{◌≡◌, ◌⊎◌, inl, inr, ℕ, ◌+◌, ◌<◌, Some, None, List, length, take, get_or, sym, ◌∙◌, subst}
use Rattle.std.specs.Prelude.{Contains}
use Rattle.nm_types.specs.declared.scripts.Line.{Line}
use Rattle.nm_types.specs.Sizes.{Sizes}
use Rattle.nm_why.specs.declared.changes.Change.{Change}
use Rattle.nm_why.specs.declared.cures.Trial.{Trial}
use Rattle.nm_why.specs.declared.cures.Trial.TheVariants.{Cured, Not, Unknown}
use Rattle.nm_why.specs.declared.hangs.Fate.{Fate}
use Rattle.nm_why.specs.declared.hangs.Fate.TheVariants.{Ends, Hangs, Either, MayHang, Open}
use Rattle.nm_types.specs.Limits.{IsScript}
use Rattle.nm_why.specs.Changes.{changed}
use Rattle.nm_why.specs.Cures.{IsCure, IsSafe, IsTrial, IsTrialOf, trial_by}
use Rattle.nm_why.specs.Hangs.{IsFate}
use Rattle.nm_why.specs.Lists.{AddsOnly, Keeps}
use Rattle.nm_why.proofs.ListLemmas.{taken_cases}

-- all of these are cures
abbrev pub AllCure : Sizes → List Line → List Change → Type 0
AllCure shape lines cures = (c : Change) → Contains cures c → IsCure shape lines c

-- each of the others is none, but for those at which a search gave up
abbrev pub Others : Sizes → List Line → List Change → List Change → List Change → Type 0
Others shape lines tried cures undecided =
    (c : Change) → Contains tried c → Contains cures c ⊎ (Contains undecided c ⊎ (¬ (IsCure shape lines c)))

pub cures_more : (shape : Sizes) (lines : List Line) (change : Change) (trial : Trial) (old new : List Change) →
    AllCure shape lines old → IsTrial shape lines change trial →
    AddsOnly (λ (c : Change). (c ≡ change) × (trial ≡ Cured)) old new → AllCure shape lines new
cures_more shape lines change trial old new all is adds c at = by_place (adds c at)
  where
    by_place : Contains old c ⊎ ((c ≡ change) × (trial ≡ Cured)) → IsCure shape lines c
    by_place (inl before) = all c before
    by_place (inr last) =
        subst (λ (x : Change). IsCure shape lines x) (sym last.0)
        (subst (λ (t : Trial). IsTrial shape lines change t) last.1 is)

pub others_more : (shape : Sizes) (lines : List Line) (changes : List Change) (k : ℕ) (d : Change) (trial : Trial)
    (cures new_cures undecided new_undecided : List Change) → k < length changes →
    Others shape lines (take k changes) cures undecided → IsTrial shape lines (get_or changes k d) trial →
    Keeps cures new_cures → Keeps undecided new_undecided →
    Contains new_cures (get_or changes k d) ⊎ (Contains new_undecided (get_or changes k d) ⊎ (trial ≡ Not)) →
    Others shape lines (take (k + 1) changes) new_cures new_undecided
others_more shape lines changes k d trial cures new_cures undecided new_undecided low others is kept also filed c at =
    by_place (taken_cases changes k d c low at)
  where
    old : Contains cures c ⊎ (Contains undecided c ⊎ (¬ (IsCure shape lines c))) →
        Contains new_cures c ⊎ (Contains new_undecided c ⊎ (¬ (IsCure shape lines c)))
    old (inl a) = inl (kept c a)
    old (inr (inl a)) = inr (inl (also c a))
    old (inr (inr never)) = inr (inr never)

    new : Contains new_cures (get_or changes k d) ⊎ (Contains new_undecided (get_or changes k d) ⊎ (trial ≡ Not)) →
        Contains new_cures (get_or changes k d)
        ⊎ (Contains new_undecided (get_or changes k d) ⊎ (¬ (IsCure shape lines (get_or changes k d))))
    new (inl a) = inl a
    new (inr (inl a)) = inr (inl a)
    new (inr (inr never)) = inr (inr (subst (λ (t : Trial). IsTrial shape lines (get_or changes k d) t) never is))

    by_place : Contains (take k changes) c ⊎ (get_or changes k d ≡ c) →
        Contains new_cures c ⊎ (Contains new_undecided c ⊎ (¬ (IsCure shape lines c)))
    by_place (inl before) = old (others c before)
    by_place (inr last) =
        subst
        (λ (x : Change). Contains new_cures x ⊎ (Contains new_undecided x ⊎ (¬ (IsCure shape lines x))))
        last (new filed)

-- what is said of lines whose runs end so is right
pub trial_right : (fate : Fate) (shape : Sizes) (lines : List Line) → IsScript shape.ranks lines →
    IsFate shape lines fate → IsTrialOf shape lines (trial_by fate)
trial_right Ends shape lines script never = (script, never)
trial_right Hangs shape lines script all = λ safe. safe.1 all.0
trial_right Either shape lines script either = λ safe. safe.1 either.0
trial_right MayHang shape lines script hang = λ safe. safe.1 hang
trial_right Open shape lines script unknown = tt

-- .. where the lines are these
pub trial_at : (fate : Fate) (shape : Sizes) (lines others : List Line) (said : Trial) → IsScript shape.ranks lines →
    said ≡ trial_by fate → lines ≡ others → IsFate shape lines fate → IsTrialOf shape others said
trial_at fate shape lines others said script is same found =
    subst (λ (l : List Line). IsTrialOf shape l said) same
    (subst (λ (t : Trial). IsTrialOf shape lines t) (sym is) (trial_right fate shape lines script found))

-- what is said of the lines after a change is said of the change
pub trial_some : (shape : Sizes) (lines others : List Line) (change : Change) → Some others ≡ changed lines change →
    (said : Trial) → IsTrialOf shape others said → IsTrial shape lines change said
trial_some shape lines others change is Cured safe = (others, sym is, safe)
trial_some shape lines others change is Not never = λ cure.
    let both : Some others ≡ Some cure.0 = is ∙ cure.1 in
    let one : cure.0 ≡ others = cc in
    never (subst (λ (l : List Line). IsSafe shape l) one cure.2)
trial_some shape lines others change is Unknown unknown = tt

-- a change that the lines don't have is no cure
pub no_cure : (shape : Sizes) (lines : List Line) (change : Change) → None ≡ changed lines change →
    ¬ (IsCure shape lines change)
no_cure shape lines change is cure = let both : None ≡ Some cure.0 = is ∙ cure.1 in cc
