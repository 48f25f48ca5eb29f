-- Lines that are put one by one.
use Rattle.std.proofs.Common.{◌≡◌, ℕ, zero, suc, ◌+◌, List, [], ◌∷◌, ◌++◌, map, reverse, sym, ◌∙◌, ap, arith}
use Rattle.std.proofs.Common.{append_assoc}
use Rattle.std.specs.List.{range_with_len}
use Rattle.std.proofs.lemmas.List.{reverse-append}
use Rattle.std.proofs.lemmas.List.FromFn.{map-range_with_len_more}

-- one number more, at the end
range_push : (a n last : ℕ) → a + n ≡ last → range_with_len a (suc n) ≡ range_with_len a n ++ last ∷ []
range_push a zero last is = ap (λ (k : ℕ). k ∷ []) (omega (arith, is))
range_push a (suc n) last is =
    ap (λ (ks : List ℕ). a ∷ ks) (range_push (a + 1) n last (omega (arith, is)))

-- in rising order, from 0
pub one_more : {X : Type 0} (f : ℕ → X) (front old new : List X) (k : ℕ) (x : X)
    → x ≡ f k
    → old ≡ front ++ map f (range_with_len 0 k)
    → new ≡ old ++ x ∷ []
    → new ≡ front ++ map f (range_with_len 0 (k + 1))
one_more {X} f front old new k x is so_far put =
    put ∙ ap (λ (y : X). old ++ y ∷ []) is ∙ ap (λ xs. xs ++ f k ∷ []) so_far
    ∙ append_assoc front (map f (range_with_len 0 k)) (f k ∷ [])
    ∙ ap (λ xs. front ++ xs) (sym (map-range_with_len_more f 0 k k (omega arith)))

-- in falling order, to 0: what is put and what is still to put are all
pub one_less : {X : Type 0} (f : ℕ → X) (old new all : List X) (k n : ℕ) (x : X)
    → n ≡ suc k
    → x ≡ f k
    → old ++ map f (reverse (range_with_len 0 n)) ≡ all
    → new ≡ old ++ x ∷ []
    → new ++ map f (reverse (range_with_len 0 k)) ≡ all
one_less {X} f old new all k n x one is so_far put =
    let rest = reverse (range_with_len 0 k) in
    let turned : reverse (range_with_len 0 n) ≡ k ∷ rest =
    ap (λ m. reverse (range_with_len 0 m)) one ∙ ap reverse (range_push 0 k k (omega arith))
    ∙ reverse-append (range_with_len 0 k) (k ∷ []) in
    ap (λ xs. xs ++ map f rest) (put ∙ ap (λ (y : X). old ++ y ∷ []) is) ∙ append_assoc old (f k ∷ []) (map f rest)
    ∙ ap (λ ks. old ++ map f ks) (sym turned) ∙ so_far
