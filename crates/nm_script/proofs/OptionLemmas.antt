-- What the words begin with.
use Rattle.std.proofs.Common.{◌≡◌, ℕ, ◌+◌, ◌≤◌, ◌<◌, ◌^◌, inl, inr, List, ◌∷◌, ◌++◌, length, Some, None}
use Rattle.std.proofs.Common.{sym, ap, ◌∙◌, arith, codes, decimal, length-append}
use Rattle.std.proofs.Common.{true, false}
use Rattle.std.specs.Str.{bytes_eq}
use Rattle.std.proofs.lemmas.List.{append_cancel_left}
use Rattle.std.proofs.lemmas.Slice.Eq.{bytes_eq-Decides}
use Rattle.nm_script.specs.Decimal.{number_of}
use Rattle.nm_script.proofs.NumberLemmas.{number_again, number_taken}
use Rattle.nm_script.specs.ArgumentWords.{IsOption}

-- the number that a word spells is the one that is read
pub read : (most n : ℕ) (word : List ℕ) → most < 2 ^ 16 → Some n ≡ number_of (most + 1) word →
    (n ≤ most) × (word ≡ decimal n)
read most n word small h =
    let p = number_taken (most + 1) n word (omega arith) (sym h) in
    (omega (arith, p.0), p.1)

-- and is read again
pub again : (most n : ℕ) (word : List ℕ) → most < 2 ^ 16 → n ≤ most → word ≡ decimal n →
    number_of (most + 1) word ≡ Some n
again most n word small within is =
    ap (number_of (most + 1)) is ∙ number_again (most + 1) n (omega arith) (omega arith)

-- a word that spells a number in range is not refused
pub refused : (most n : ℕ) (word : List ℕ) → most < 2 ^ 16 → n ≤ most → None ≡ number_of (most + 1) word →
    word ≡ decimal n → ⊥
refused most n word small within none is =
    let h : None ≡ Some n = none ∙ again most n word small within is in cc

-- the same number is read of it
pub same : (most n value : ℕ) (word : List ℕ) → most < 2 ^ 16 → value ≤ most →
    Some n ≡ number_of (most + 1) word → word ≡ decimal value → n ≡ value
same most n value word small within some is =
    let h : Some n ≡ Some value = some ∙ again most value word small within is in cc

-- a name is no name that is joined with a value
no_joined : (name value : List ℕ) → name ≡ (name ++ codes "=") ++ value → ⊥
no_joined name value h =
    let many : length name ≡ length name + 1 + length value =
    ap length h ∙ (length-append (name ++ codes "=") value
    ∙ ap (λ n. n + length value) (length-append name (codes "="))) in
    omega (arith, many)

-- where the first word is an option's name, its value is the next one
pub apart : (name word : List ℕ) (words rest others : List (List ℕ)) (value : ℕ) → words ≡ word ∷ rest →
    word ≡ name → IsOption name value words others → rest ≡ decimal value ∷ others
apart name word words rest others value is named (inl h) =
    let same : word ∷ rest ≡ name ∷ decimal value ∷ others = sym is ∙ h in cc
apart name word words rest others value is named (inr h) =
    let same : word ∷ rest ≡ ((name ++ codes "=") ++ decimal value) ∷ others = sym is ∙ h in
    let both : word ≡ (name ++ codes "=") ++ decimal value = cc in
    absurd (no_joined name (decimal value) (sym named ∙ both))

-- else its value is joined with it
pub joined : (name word : List ℕ) (words rest others : List (List ℕ)) (value : ℕ) → words ≡ word ∷ rest →
    (word ≡ name → ⊥) → IsOption name value words others →
    (word ≡ (name ++ codes "=") ++ decimal value) × (rest ≡ others)
joined name word words rest others value is other (inl h) =
    let same : word ∷ rest ≡ name ∷ decimal value ∷ others = sym is ∙ h in
    let named : word ≡ name = cc in
    absurd (other named)
joined name word words rest others value is other (inr h) =
    let same : word ∷ rest ≡ ((name ++ codes "=") ++ decimal value) ∷ others = sym is ∙ h in
    (cc, cc)

-- bytes that were compared
pub is_name : {bytes name word : List ℕ} → bytes ≡ word → bytes_eq bytes name ≡ true → word ≡ name
is_name {bytes = bytes} {name = name} is equal = sym is ∙ (bytes_eq-Decides bytes name).0 equal

pub is_other : {bytes name word : List ℕ} → bytes ≡ word → bytes_eq bytes name ≡ false → word ≡ name → ⊥
is_other {bytes = bytes} {name = name} is differs named =
    let equal = (bytes_eq-Decides bytes name).1 (is ∙ named) in cc

-- the value of an option that stands as two words, and what stands behind it
pub value_apart : (name word second : List ℕ) (words rest behind others : List (List ℕ)) (value : ℕ) →
    words ≡ word ∷ rest → word ≡ name → rest ≡ second ∷ behind → IsOption name value words others →
    (second ≡ decimal value) × (behind ≡ others)
value_apart name word second words rest behind others value is named next h =
    let both : second ∷ behind ≡ decimal value ∷ others =
    sym next ∙ apart name word words rest others value is named h in
    (cc, cc)

-- and of one that stands as one
pub value_joined : (name front word second : List ℕ) (words rest others : List (List ℕ)) (value : ℕ) →
    front ≡ name ++ codes "=" → words ≡ word ∷ rest → (word ≡ name → ⊥) → word ≡ front ++ second →
    IsOption name value words others → (second ≡ decimal value) × (rest ≡ others)
value_joined name front word second words rest others value fronted is other behind h =
    let p = joined name word words rest others value is other h in
    let both : front ++ second ≡ front ++ decimal value =
    sym behind ∙ (p.0 ∙ ap (λ xs. xs ++ decimal value) (sym fronted)) in
    (append_cancel_left front second (decimal value) both, p.1)

-- the words begin with an option that stands as two words
pub option_apart : (name word second : List ℕ) (words rest others : List (List ℕ)) (value : ℕ) →
    words ≡ word ∷ rest → word ≡ name → rest ≡ second ∷ others → second ≡ decimal value →
    IsOption name value words others
option_apart name word second words rest others value is named next spelled = inl cc

-- or as one
pub option_joined : (name front word second : List ℕ) (words others : List (List ℕ)) (value : ℕ) →
    front ≡ name ++ codes "=" → words ≡ word ∷ others → word ≡ front ++ second → second ≡ decimal value →
    IsOption name value words others
option_joined name front word second words others value fronted is behind spelled = inr cc
