-- What escaped text holds.
use Rattle.std.proofs.Common.{◌≡◌, ℕ, List, [], ◌∷◌, ◌++◌, Bool, true, false, cond, not, ◌&&◌, ◌==◌, refl, ap, ◌∙◌}
use Rattle.std.proofs.Common.{codes}
use Rattle.std.specs.List.{AllByRecursion}
use Rattle.nm_picture.specs.Markup.{escaped, escaped_byte, is_plain, is_printable}

-- what holds of both lists holds of the whole
both : (xs ys : List ℕ) → AllByRecursion (λ b. is_plain b ≡ true) xs → AllByRecursion (λ b. is_plain b ≡ true) ys →
    AllByRecursion (λ b. is_plain b ≡ true) (xs ++ ys)
both [] ys h k = k
both (x ∷ xs) ys h k = (h.0, both xs ys h.1 k)

-- a byte by its tests
by_tests : (b : ℕ) (less greater amp printed : Bool) → (b == 60) ≡ less → (b == 62) ≡ greater →
    is_printable b ≡ printed →
    AllByRecursion (λ b. is_plain b ≡ true)
    (cond less (codes "&lt;")
    (cond greater (codes "&gt;") (cond amp (codes "&amp;") (cond printed (b ∷ []) (codes "?")))))
by_tests b true greater amp printed l g a = (refl, (refl, (refl, (refl, tt))))
by_tests b false true amp printed l g a = (refl, (refl, (refl, (refl, tt))))
by_tests b false false true printed l g a = (refl, (refl, (refl, (refl, (refl, tt)))))
by_tests b false false false true l g a = (
  ap (λ x. not x && not (b == 62) && is_printable b) l ∙ ap (λ x. not false && not x && is_printable b) g
      ∙ ap (λ x. not false && not false && x) a,
  tt,
)
by_tests b false false false false l g a = (refl, tt)

pub escaped-plain : (text : List ℕ) → AllByRecursion (λ b. is_plain b ≡ true) (escaped text)
escaped-plain [] = tt
escaped-plain (b ∷ text) =
    both (escaped_byte b) (escaped text)
    (by_tests b (b == 60) (b == 62) (b == 38) (is_printable b) refl refl refl)
    (escaped-plain text)
