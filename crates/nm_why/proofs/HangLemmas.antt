-- What a script does that can hang, and one that can't.
use Rattle.nm_types.specs.declared.scripts.Line.{Line}
use Rattle.std.proofs.Common.{◌≡◌, List, subst, sym}
use Rattle.nm_types.specs.Sizes.{Sizes}
use Rattle.nm_why.specs.declared.hangs.Aim.{Aim}
use Rattle.nm_why.specs.declared.hangs.Aim.TheVariants.{Hang, Both}
use Rattle.nm_why.specs.declared.hangs.Fate.{Fate}
use Rattle.nm_why.specs.declared.hangs.Meets.{Meets}
use Rattle.nm_why.specs.declared.hangs.Fate.TheVariants.{Ends, Hangs, Either, MayHang, Open}
use Rattle.nm_why.specs.Hangs.{CanEnd, CanHang, Does, IsFate, IsMeeting, meets_of}

-- where it can't hang, it does neither
pub does_not : (aim : Aim) (shape : Sizes) (lines : List Line) → (¬ (CanHang shape lines)) → ¬ (Does aim shape lines)
does_not Hang shape lines never = never
does_not Both shape lines never = λ both. never both.0

-- where it can hang and can end, it does both
pub does_either : (aim : Aim) (shape : Sizes) (lines : List Line) → CanHang shape lines → CanEnd shape lines →
    Does aim shape lines
does_either Hang shape lines hang end = hang
does_either Both shape lines hang end = (hang, end)

-- what is said of a script whose runs end so is right
pub meets_right : (aim : Aim) (fate : Fate) (shape : Sizes) (lines : List Line) → IsFate shape lines fate →
    IsMeeting aim shape lines (meets_of aim fate)
meets_right aim Ends shape lines never = does_not aim shape lines never
meets_right Hang Hangs shape lines all = all.0
meets_right Both Hangs shape lines all = λ both. all.1 both.1
meets_right aim Either shape lines either = does_either aim shape lines either.0 either.1
meets_right Hang MayHang shape lines hang = hang
meets_right Both MayHang shape lines hang = tt
meets_right aim Open shape lines unknown = tt

-- .. of lines that are the part's
pub meets_at : (aim : Aim) (fate : Fate) (shape : Sizes) (lines part : List Line) (said : Meets) →
    said ≡ meets_of aim fate → lines ≡ part → IsFate shape lines fate → IsMeeting aim shape part said
meets_at aim fate shape lines part said is same found =
    subst (λ (m : Meets). IsMeeting aim shape part m) (sym is)
    (meets_right aim fate shape part (subst (λ (l : List Line). IsFate shape l fate) same found))
