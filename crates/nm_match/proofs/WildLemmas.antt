-- Receives that name a source and a tag stand apart from the others, and where no others wait, one bucket can
-- have the oldest.
use Rattle.std.proofs.Common.{◌≡◌, ℕ, Bool, true, false, cond, Option, Some, None, List, sym, ◌∙◌, ap, subst}
use Rattle.std.proofs.Common.{slice_get}
use Rattle.std.specs.Prelude.{IfSome}
use Rattle.nm_types.proofs.ListLemmas.{find_passes}
use Rattle.nm_match.specs.declared.picks.Picks.{Picks}
use Rattle.nm_match.specs.Buckets.{AreBuckets}
use Rattle.nm_match.specs.Picks.{same_picks}
use Rattle.nm_match.proofs.BucketLemmas.{front_is_found}
use Rattle.nm_match.specs.SameKeys.{same_picks-true}

-- what both are, the one that is chosen is
pub either_is : {X : Type 0} (b : Bool) {x y z : X} → x ≡ z → y ≡ z → cond b x y ≡ z
either_is true first second = first
either_is false first second = second

-- the oldest of a bucket has its key
pub front_key : {X : Type 0} {key : X → Picks} {queue : List (ℕ × X)} {next : ℕ} {bucket : Picks → List (ℕ × X)} →
    AreBuckets key queue next bucket → (k : Picks) (o : Option (ℕ × X)) → o ≡ slice_get (bucket k) 0 →
    (P : Picks → ℕ × X → Type 0) → IfSome o (λ x. P k x) → IfSome o (λ x. P (key x.1) x)
front_key are k None front P holds = holds
front_key {X} {key} {queue} are k (Some x) front P holds =
    subst (λ (l : Picks). P l x) (same_picks-true k (key x.1)
    (find_passes (λ (y : ℕ × X). same_picks k (key y.1)) queue x
    (sym (front ∙ ap (λ (l : List (ℕ × X)). slice_get l 0) (are.holds k)
    ∙ front_is_found (λ (y : ℕ × X). same_picks k (key y.1)) queue)))) holds
