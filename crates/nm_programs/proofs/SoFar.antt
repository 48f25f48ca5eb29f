-- A list that is gone through, and a list that is made of it place by place.
use Rattle.std.proofs.Common.{◌≡◌, ℕ, zero, suc, ◌+◌, Some, List, [], ◌∷◌, ◌++◌, length, refl, sym, ◌∙◌, ap, subst, arith}
use Rattle.std.proofs.Common.{append_assoc, append-nil, length-append}
use Rattle.std.specs.List.{AllZip, slice_get}
use Rattle.std.proofs.lemmas.Slice.Zip.{AllZip-long}

-- R holds of what was gone through and what was made of it, and this is left
pub record SoFar {A B : Type 0} (R : A → B → Type 0) (xs rest : List A) (ys : List B) : Type 0 where
  pub before : List A
  pub is : before ++ rest ≡ xs
  pub all : AllZip R before ys

zip_push : {A B : Type 0} (R : A → B → Type 0) (xs : List A) (ys : List B) (x : A) (y : B) → AllZip R xs ys → R x y →
    AllZip R (xs ++ x ∷ []) (ys ++ y ∷ [])
zip_push R [] [] x y all one = (one, tt)
zip_push R [] (z ∷ ys) x y all one = absurd all
zip_push R (z ∷ xs) [] x y all one = absurd all
zip_push R (w ∷ xs) (z ∷ ys) x y all one = (all.0, zip_push R xs ys x y all.1 one)

get_behind : {A : Type 0} (xs rest : List A) (x : A) (k : ℕ) → k ≡ length xs → slice_get (xs ++ x ∷ rest) k ≡ Some x
get_behind [] rest x zero is = refl
get_behind [] rest x (suc k) is = absurd (omega (arith, is))
get_behind (y ∷ xs) rest x zero is = absurd (omega (arith, is))
get_behind (y ∷ xs) rest x (suc k) is = get_behind xs rest x k (omega (arith, is))

-- one place of two lists
pub zip_at : {A B : Type 0} (R : A → B → Type 0) (xs : List A) (ys : List B) (k : ℕ) (y : B) → AllZip R xs ys →
    slice_get ys k ≡ Some y → (x : A) × (slice_get xs k ≡ Some x) × R x y
zip_at R [] [] k y all here = cc
zip_at R [] (z ∷ ys) k y all here = absurd all
zip_at R (x ∷ xs) [] k y all here = absurd all
zip_at {A} {B} R (x ∷ xs) (z ∷ ys) zero y all here =
    let same : z ≡ y = cc in
    (x, refl, subst (λ (w : B). R x w) same all.0)
zip_at R (x ∷ xs) (z ∷ ys) (suc k) y all here = zip_at R xs ys k y all.1 here

module _ {A B : Type 0} (R : A → B → Type 0) (xs : List A) where
  pub none_yet : (rest : List A) (ys : List B) → rest ≡ xs → ys ≡ [] → SoFar R xs rest ys
  none_yet rest ys all none =
      record { before = []; is = all; all = subst (λ (zs : List B). AllZip R [] zs) (sym none) tt }

  pub one_more : (rest later : List A) (ys more : List B) (x : A) (y : B) → rest ≡ x ∷ later → more ≡ ys ++ y ∷ [] →
      SoFar R xs rest ys → R x y → SoFar R xs later more
  one_more rest later ys more x y split grown so_far one = record {
    before = so_far.before ++ x ∷ [];
    is = append_assoc so_far.before (x ∷ []) later
        ∙ ap (λ (zs : List A). so_far.before ++ zs) (sym split) ∙ so_far.is;
    all = subst (λ (zs : List B). AllZip R (so_far.before ++ x ∷ []) zs) (sym grown)
        (zip_push R so_far.before ys x y so_far.all one);
  }

  pub all_done : (rest : List A) (ys : List B) → rest ≡ [] → SoFar R xs rest ys → AllZip R xs ys
  all_done rest ys none so_far = subst (λ (zs : List A). AllZip R zs ys)
      (sym (append-nil so_far.before) ∙ ap (λ (zs : List A). so_far.before ++ zs) (sym none) ∙ so_far.is) so_far.all

  pub counted : (rest : List A) (ys : List B) → SoFar R xs rest ys → length ys + length rest ≡ length xs
  counted rest ys so_far =
      ap (λ (k : ℕ). k + length rest) (AllZip-long R so_far.before ys so_far.all)
      ∙ sym (length-append so_far.before rest) ∙ ap length so_far.is

  pub next_is : (rest later : List A) (ys : List B) (x : A) (k : ℕ) → k ≡ length ys → rest ≡ x ∷ later →
      SoFar R xs rest ys → slice_get xs k ≡ Some x
  next_is rest later ys x k place split so_far =
      ap (λ (zs : List A). slice_get zs k) (sym so_far.is)
      ∙ ap (λ (zs : List A). slice_get (so_far.before ++ zs) k) split
      ∙ get_behind so_far.before later x k (place ∙ AllZip-long R so_far.before ys so_far.all)
