-- Which messages the letters end.
use Rattle.std.proofs.Common.{◌≡◌, ℕ, ◌<◌, ◌==◌, zero, suc, Bool, true, false, Option, None, List}
use Rattle.std.proofs.Common.{[], ◌∷◌, ◌++◌, cond, map, refl, ◌∙◌, ap, append-nil, arith}
use Rattle.std.specs.Prelude.{replicate}
use Rattle.std.specs.List.{cons_option, filter_map}
use Rattle.std.proofs.lemmas.List.Elements.{filter_map-append}
use Rattle.nm_sending.specs.Letters.{Letter, last_ends}
use Rattle.nm_sending.specs.Departures.{ends_to}

pub ends-append : (to : ℕ) (xs ys : List Letter) → ends_to to (xs ++ ys) ≡ ends_to to xs ++ ends_to to ys
ends-append to xs ys = filter_map-append (λ (l : Letter). cond (l.to == to) l.ends None) xs ys

ends_by : (b : Bool) (o : Option ℕ) (ns : List ℕ) → o ≡ None → cons_option (cond b o None) ns ≡ ns
ends_by true o ns none = ap (λ (x : Option ℕ). cons_option x ns) none
ends_by false o ns none = refl

-- a letter that ends no message
pub ends-none : (to : ℕ) (l : Letter) (rest : List Letter) → l.ends ≡ None
    → ends_to to (l ∷ rest) ≡ ends_to to rest
ends-none to l rest none = ends_by (l.to == to) l.ends (ends_to to rest) none

-- one more letter, which ends no message
pub ends-push_none : (to : ℕ) (letters : List Letter) (l : Letter) → l.ends ≡ None
    → ends_to to (letters ++ l ∷ []) ≡ ends_to to letters
ends-push_none to letters l none =
    ends-append to letters (l ∷ []) ∙ ap (λ (ns : List ℕ). ends_to to letters ++ ns) (ends-none to l [] none)
    ∙ append-nil (ends_to to letters)

-- letters with which none leaves
left_none : (count : ℕ) → filter_map {Y = ℕ} (λ o. o) (replicate count None) ≡ []
left_none zero = refl
left_none (suc before) = left_none before

-- where a message leaves with the last of some letters, just that one leaves with them
pub left_last : (count : ℕ) (ends : Option ℕ) → 0 < count
    → filter_map (λ o. o) (last_ends count ends) ≡ cons_option ends []
left_last zero ends some' = absurd (omega (arith, some'))
left_last (suc before) ends some' =
    filter_map-append (λ (o : Option ℕ). o) (replicate before None) (ends ∷ [])
    ∙ ap (λ (ns : List ℕ). ns ++ cons_option ends []) (left_none before)

-- the messages that leave with letters, letter by letter
pub left_each : (letters : List Letter)
    → filter_map (λ l. l.ends) letters ≡ filter_map (λ o. o) (map (λ l. l.ends) letters)
left_each [] = refl
left_each (l ∷ letters) = ap (λ (ns : List ℕ). cons_option l.ends ns) (left_each letters)
