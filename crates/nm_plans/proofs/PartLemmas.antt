-- Parts of bodies, and commands of each part.
use Rattle.std.proofs.Common.{◌≡◌, ℕ, suc, ◌+◌, ◌-◌, ◌*◌, ◌/◌, ◌<◌, ◌≤◌, List, [], ◌∷◌, ◌++◌, length, map, take, drop}
use Rattle.std.proofs.Common.{get_or, sym, ap, ◌∙◌, arith, append_assoc, length-drop}
use Rattle.std.specs.List.{range_with_len}
use Rattle.std.proofs.lemmas.List.{length-map, map-append, get_or-drop}
use Rattle.std.proofs.lemmas.List.FromFn.{length-range_with_len, map-range_with_len_more}
use Rattle.std.proofs.Math.Nat.{div-mul-le_self, div-le_of_le-mul, mul-le-mul_right}
use Rattle.std.proofs.Math.Seq.{take-suc}
use Rattle.std.proofs.lemmas.Nat.{le-div}
use Rattle.nm_types.specs.declared.scripts.Command.{Command}
use Rattle.nm_types.specs.declared.scripts.Line.{Line}

-- one byte more of those from a start on
pub part_more : (xs ys zs : List ℕ) (start place b : ℕ) → start ≤ place → place < length xs
    → b ≡ get_or xs place 0 → ys ≡ take (place - start) (drop start xs) → zs ≡ ys ++ b ∷ []
    → zs ≡ take (place + 1 - start) (drop start xs)
part_more xs ys zs start place b le lt byte so_far put =
    let j : ℕ = place - start in
    let n : place + 1 - start ≡ suc j = omega arith in
    let at : start + j ≡ place = omega arith in
    let inside : j < length (drop start xs) = omega (arith, length-drop start xs) in
    let here : get_or (drop start xs) j 0 ≡ b =
    get_or-drop start xs j 0 ∙ ap (λ i. get_or xs i 0) at ∙ sym byte in
    put ∙ ap (λ zs. zs ++ b ∷ []) so_far ∙ ap (λ x. take j (drop start xs) ++ x ∷ []) (sym here)
    ∙ sym (take-suc (drop start xs) j 0 inside) ∙ ap (λ m. take m (drop start xs)) (sym n)

-- a part ends where the next one begins, which is no earlier than where it begins
pub starts_rise : (parts k len : ℕ) → 0 < parts → k * len / parts ≤ (k + 1) * len / parts
starts_rise parts k len some =
    le-div (k * len / parts) ((k + 1) * len) parts some
    (omega (arith, div-mul-le_self (k * len) parts))

-- a part ends within the body
pub starts_within : (parts k len : ℕ) → 0 < parts → k ≤ parts → k * len / parts ≤ len
starts_within parts k len some le = div-le_of_le-mul parts (mul-le-mul_right len le)

-- the line of one part more
pub part_line_more : (g : Command → Line) (f : ℕ → Command) (front old new : List Line) (k : ℕ) (x : Line)
    → x ≡ g (f k) → old ≡ front ++ map g (map f (range_with_len 0 k)) → new ≡ old ++ x ∷ []
    → new ≡ front ++ map g (map f (range_with_len 0 (k + 1)))
part_line_more g f front old new k x is so_far put =
    let more = ap (map g) (map-range_with_len_more f 0 k k (omega arith))
    ∙ map-append g (map f (range_with_len 0 k)) (f k ∷ []) in
    put ∙ ap (λ (y : Line). old ++ y ∷ []) is ∙ ap (λ xs. xs ++ g (f k) ∷ []) so_far
    ∙ append_assoc front (map g (map f (range_with_len 0 k))) (g (f k) ∷ [])
    ∙ ap (λ xs. front ++ xs) (sym more)

-- as many as there are parts
pub part_lengths : (f : ℕ → Command) (n : ℕ) → length (map f (range_with_len 0 n)) ≡ n
part_lengths f n = length-map (range_with_len 0 n) f ∙ length-range_with_len 0 n
