-- Lists of pieces, and the numbers of places.
use Rattle.std.proofs.Common.{◌≡◌, ℕ, ◌+◌, ◌*◌, ◌<◌, Some, None, List, [], ◌∷◌, ◌++◌}
use Rattle.std.proofs.Common.{length, map, sym, refl, ap, ◌∙◌, arith}
use Rattle.std.proofs.lemmas.List.{map-append}
use mathlib.Core.Option as maybe
use lib.ListN.{get_elem?}
use Rattle.nm_chain.proofs.PairLemmas.{one_pair, pair_low}
use Rattle.nm_types.specs.declared.packets.Piece.{Piece}
use Rattle.nm_copyring.specs.Rule.{Load, place}

-- the pieces that these hold
pieces : List Load → List Piece
pieces [] = []
pieces (None ∷ ys) = pieces ys
pieces (Some p ∷ ys) = p ∷ pieces ys

pieces_back : (ps : List Piece) → pieces (map Some ps) ≡ ps
unfolding pieces
pieces_back [] = refl
pieces_back (p ∷ ps) = ap (λ u. p ∷ u) (pieces_back ps)

-- what was put is what was got and what waits
pub joined : (put got waits : List Piece) → map Some put ≡ map Some got ++ map Some waits
    → put ≡ got ++ waits
joined put got waits e = sym (pieces_back put)
    ∙ ap pieces (e ∙ sym (map-append Some got waits)) ∙ pieces_back (got ++ waits)

-- one more piece
pub more : (ps : List Piece) (p : Piece) → map Some (ps ++ p ∷ []) ≡ map Some ps ++ Some p ∷ []
more ps p = map-append Some ps (p ∷ [])

pub first_is : (p q : Piece) (ps : List Piece) (ys : List Load) → map Some (p ∷ ps) ≡ Some q ∷ ys
    → p ≡ q
first_is p q ps ys e = cc

pub none_first : (y : Load) (ys : List Load) → [] ≡ y ∷ ys → ⊥
none_first y ys e = cc

pub at_middle : (xs ys : List Piece) (y : Piece)
    → get_elem? (xs ++ y ∷ ys) (length xs) ≡ maybe.some y
at_middle [] ys y = refl
at_middle (x ∷ xs) ys y = at_middle xs ys y

-- two numbers of one place are of one pair
pub one_place : (n i j k a b c : ℕ) → j < n → b < n → k < 4 → c < 4 → place n i j k ≡ place n a b c
    → (i ≡ a) × (j ≡ b)
one_place n i j k a b c lj lb lk lc e =
    one_pair n i j a b lj lb (let s : i * n + j ≡ a * n + b = omega arith in s)

pub place_low : (n i j k : ℕ) → i < n → j < n → k < 4 → place n i j k < 4 * (n * n)
place_low n i j k li lj lk = let at = pair_low n i j li lj in omega arith
