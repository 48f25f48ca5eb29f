-- Lists by place.
use Rattle.std.proofs.Common.{◌≡◌, ℕ, zero, suc, ◌<◌, ◌⊎◌, Some, List, [], ◌∷◌, ◌++◌, length}
use Rattle.std.proofs.Common.{map, replicate, sym, refl, ap, inl, inr, subst, ⊎_elim, arith}
use Rattle.std.specs.Prelude.{slice_get}
use mathlib.Core.Option as maybe
use lib.ListN.{get_elem?}
use Rattle.nm_chain.specs.Spoken.{Each}

pub get_snoc : {A : Type 0} (xs : List A) (x : A) (k : ℕ) (y : A)
    → slice_get (xs ++ x ∷ []) k ≡ Some y → (slice_get xs k ≡ Some y) ⊎ ((k ≡ length xs) × (x ≡ y))
get_snoc [] x zero y e = inr (refl, cc)
get_snoc [] x (suc k) y e = inl e
get_snoc (z ∷ zs) x zero y e = inl e
get_snoc (z ∷ zs) x (suc k) y e = ⊎_elim (λ t. inl t) (λ t. inr (ap suc t.0, t.1))
    (get_snoc zs x k y e)

pub get_mapped : {A B : Type 0} (f : A → B) (xs : List A) (k : ℕ) (y : B)
    → get_elem? (map f xs) k ≡ maybe.some y → (x : A) × (slice_get xs k ≡ Some x) × (f x ≡ y)
get_mapped f [] k y e = absurd (maybe.some-ne-none y (sym e))
get_mapped f (x ∷ xs) zero y e = (x, refl, maybe.some-injective (f x) y e)
get_mapped f (x ∷ xs) (suc k) y e = get_mapped f xs k y e

-- the homes of slots that are equal at the start
pub at_replicate : {A : Type 0} (x : A) (k c : ℕ) → c < k → get_elem? (map maybe.some (replicate k x)) c
    ≡ maybe.some (maybe.some x)
at_replicate x zero c h = absurd (omega arith)
at_replicate x (suc k) zero h = refl
at_replicate x (suc k) (suc c) h = at_replicate x k c (omega arith)

-- an entry of a view of which all are so
pub each_at : {E : Type 0} (P : E → Type 0) (es : List E) → Each P es → (k : ℕ) (e : E)
    → get_elem? es k ≡ maybe.some e → P e
each_at P [] h k e at = absurd (maybe.some-ne-none e (sym at))
each_at P (x ∷ xs) h zero e at = subst P (maybe.some-injective x e at) h.0
each_at P (x ∷ xs) h (suc k) e at = each_at P xs h.1 k e at
