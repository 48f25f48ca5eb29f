-- What is given of the first elements of a list, with one more.
use Rattle.std.proofs.Common.{◌≡◌, ℕ, ◌+◌, ◌<◌, List, [], ◌∷◌, ◌++◌, ◌∙◌, Option, ap, get_or, length, subst, sym, take}
use Rattle.std.specs.Prelude.{filter_map}
use Rattle.std.specs.List.{cons_option}
use Rattle.std.proofs.lemmas.List.{take_more}
use Rattle.std.proofs.lemmas.List.Elements.{filter_map-append}

pub given_more : {X Y : Type 0} (f : X → Option Y) (xs ys : List X) (k : ℕ) (d : X) (old new : List Y) (o : Option Y) →
    xs ≡ ys → k < length xs → old ≡ filter_map f (take k ys) → o ≡ f (get_or xs k d) → new ≡ old ++ cons_option o [] →
    new ≡ filter_map f (take (k + 1) ys)
given_more {X} {Y} f xs ys k d old new o same low are is more =
    subst (λ (zs : List X). new ≡ filter_map f (take (k + 1) zs)) same
    (more
    ∙ ap (λ (l : List Y). l ++ cons_option o []) (are ∙ ap (λ (zs : List X). filter_map f (take k zs)) (sym same))
    ∙ ap (λ (p : Option Y). filter_map f (take k xs) ++ cons_option p []) is
    ∙ sym (ap (λ (l : List X). filter_map f l) (take_more xs k d low)
    ∙ filter_map-append f (take k xs) (get_or xs k d ∷ [])))
