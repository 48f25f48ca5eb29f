-- The first piece that is due of some grants, and those that are due after it.
use Rattle.std.proofs.Common.{◌≡◌, ℕ, zero, suc, ◌+◌, ◌-◌, ◌<◌, ◌≤◌, Bool, true, false}
use Rattle.std.proofs.Common.{if◌then◌else◌, Option, Some, None, List, [], ◌∷◌, ◌++◌, length, drop, slice_get}
use Rattle.std.proofs.Common.{nat_eq, nat_lt, nat_le, min, refl, sym, ap, ◌∙◌, subst, append_assoc, length-append}
use Rattle.std.proofs.Common.{true≢false, arith}
use Rattle.std.proofs.lemmas.Bool.Decides.{nat_tests}
use Rattle.std.specs.Map.{lookup, set_value}
use Rattle.std.specs.Option.{option_map, option_map_or}
use Rattle.nm_types.specs.declared.limits.TheConstants.{MAX_PIECE}
use Rattle.nm_history.specs.Pieces.{Due, due_from}
use Rattle.nm_rndv.specs.Grants.{Granted, came, due_in, due_of, expected_in, first_unfinished, fresh, is_open}
use Rattle.nm_rndv.specs.Grants.{is_open_in, with_more, with_piece}
use Rattle.nm_rndv.specs.Pieces.{piece_size}
use Rattle.nm_receiving.specs.Pieces.{due_of_grant, due_of_grants}
use Rattle.nm_types.proofs.NumberLemmas.{lt_false}

lt_true : (x y : ℕ) → x < y → nat_lt x y ≡ true
lt_true x y h = grind (arith, nat_tests)

lt_is : (x y : ℕ) → nat_lt x y ≡ true → x < y
lt_is x y h = grind (arith, nat_tests)

le_is : (x y : ℕ) → nat_lt x y ≡ false → y ≤ x
le_is x y h = grind (arith, nat_tests)

-- nothing is due past the end
pub due_from-past : (turns n at len : ℕ) → len ≤ at → due_from turns n at len ≡ []
due_from-past zero n at len past = refl
due_from-past (suc turns) n at len past = rw (lt_false at len past) refl

-- how many turns there are does not matter, where they are enough
pub due_from-turns : (t u n at len : ℕ) → len ≤ at + t → len ≤ at + u → due_from t n at len ≡ due_from u n at len
due_from-turns zero u n at len enough _ = sym (due_from-past u n at len (omega arith))
due_from-turns (suc t) zero n at len _ enough = due_from-past (suc t) n at len (omega arith)
due_from-turns (suc t) (suc u) n at len first second =
    by (nat_lt at len) refl (due_from-turns t u n (at + MAX_PIECE) len (omega arith) (omega arith))
  where
    by : (b : Bool) → nat_lt at len ≡ b
        → due_from t n (at + MAX_PIECE) len ≡ due_from u n (at + MAX_PIECE) len
        → due_from (suc t) n at len ≡ due_from (suc u) n at len
    by true e rest = rw e
        (ap (λ ds. record { n = n; at = at; size = min MAX_PIECE (len - at); last = nat_le len (at + MAX_PIECE) } ∷ ds)
        rest)
    by false e rest = rw e refl

-- the next piece of a grant that is not whole
abbrev pub next_due : ℕ × Granted → Due
next_due e = record { n = e.0; at = came e.1; size = piece_size (due_of e.1); last = nat_le (due_of e.1) MAX_PIECE }

last_is : (at len : ℕ) → nat_le len (at + MAX_PIECE) ≡ nat_le (len - at) MAX_PIECE
last_is at len = grind (arith, nat_tests)

came_below : (g : Granted) → is_open g ≡ true → came g < g.len
came_below g is = by g.bytes is
  where
    by : (o : Option (List ℕ)) → option_map_or (λ bytes. nat_lt (length bytes) g.len) o false ≡ true →
        option_map_or length o 0 < g.len
    by None h = absurd cc
    by (Some bytes) h = lt_is (length bytes) g.len h

-- what is due of a grant that is not whole: its next piece, and those behind it
pub due_of_grant-open : (e : ℕ × Granted) → is_open e.1 ≡ true
    → due_of_grant e ≡ next_due e ∷ due_from (due_of e.1) e.0 (came e.1 + MAX_PIECE) e.1.len
due_of_grant-open e is = rw is (by (due_of e.1) refl)
  where
    below : came e.1 < e.1.len
    below = came_below e.1 is

    by : (t : ℕ) → due_of e.1 ≡ t → due_from t e.0 (came e.1) e.1.len ≡ next_due e ∷ due_from t e.0
        (came e.1 + MAX_PIECE) e.1.len
    by zero none = absurd (let h : ⊥ = omega (arith, none, below) in h)
    by (suc t) some = rw (lt_true (came e.1) e.1.len below, last_is (came e.1) e.1.len)
        (ap (λ ds. next_due e ∷ ds) (due_from-turns t (suc t) e.0 (came e.1 + MAX_PIECE) e.1.len (omega (arith, some))
        (omega (arith, some))))

-- nothing is due of one that is
pub due_of_grants-closed : (e : ℕ × Granted) (es : List (ℕ × Granted)) → is_open e.1 ≡ false →
    due_of_grants (e ∷ es) ≡ due_of_grants es
due_of_grants-closed e es not' = rw not' refl

-- the first piece that is due is the next one of the first grant that is not whole
pub due_of_grants-first : (es : List (ℕ × Granted)) → slice_get (due_of_grants es) 0 ≡ option_map next_due
    (first_unfinished es)
due_of_grants-first [] = refl
due_of_grants-first (e ∷ es) = by (is_open e.1) refl (due_of_grants-first es)
  where
    by : (b : Bool) → is_open e.1 ≡ b
        → slice_get (due_of_grants es) 0 ≡ option_map next_due (first_unfinished es)
        → slice_get (due_of_grants (e ∷ es)) 0 ≡ option_map next_due (first_unfinished (e ∷ es))
    by true is later = rw (due_of_grant-open e is, is) refl
    by false not' later = rw not' later

pub due_of_grants-append : (xs ys : List (ℕ × Granted)) → due_of_grants (xs ++ ys) ≡ due_of_grants xs ++ due_of_grants
    ys
due_of_grants-append [] ys = refl
due_of_grants-append (e ∷ xs) ys =
    ap (λ ds. due_of_grant e ++ ds) (due_of_grants-append xs ys)
    ∙ sym (append_assoc (due_of_grant e) (due_of_grants xs) (due_of_grants ys))

-- what is due of a grant of which nothing came
pub due_of_grant-fresh : (n len : ℕ) → due_of_grant (n, fresh len) ≡ due_from len n 0 len
due_of_grant-fresh n len = by (nat_lt 0 len) refl
  where
    by : (b : Bool) → nat_lt 0 len ≡ b → due_of_grant (n, fresh len) ≡ due_from len n 0 len
    by true is = rw is (due_from-turns (len - 0) len n 0 len (omega arith) (omega arith))
    by false not' = rw not' (sym (due_from-past len n 0 len (le_is 0 len not')))

-- what is due of a grant after its next piece
pub due_of_grant-after : (n len : ℕ) (o : Option (List ℕ)) (bytes : List ℕ) →
    is_open (record { len = len; bytes = o }) ≡ true
    → length bytes ≡ piece_size (due_of (record { len = len; bytes = o }))
    → due_of_grant (n, with_more (record { len = len; bytes = o }) bytes)
    ≡ due_from (due_of (record { len = len; bytes = o })) n (came (record { len = len; bytes = o }) + MAX_PIECE) len
due_of_grant-after n len None bytes is size = absurd cc
due_of_grant-after n len (Some bs) bytes is size = by (nat_lt (length (bs ++ bytes)) len) refl
  where
    below : length bs < len
    below = lt_is (length bs) len is

    by : (b : Bool) → nat_lt (length (bs ++ bytes)) len ≡ b
        → (if nat_lt (length (bs ++ bytes)) len then due_from (len - length (bs ++ bytes)) n
        (length (bs ++ bytes)) len else [])
        ≡ due_from (len - length bs) n (length bs + MAX_PIECE) len
    by true e =
        let full : length (bs ++ bytes) ≡ length bs + MAX_PIECE =
        omega (arith, length-append bs bytes, size, below, lt_is (length (bs ++ bytes)) len e) in
        rw e (rw full (due_from-turns (len - (length bs + MAX_PIECE)) (len - length bs) n (length bs + MAX_PIECE) len
        (omega arith) (omega arith)))
    by false e = rw e (sym (due_from-past (len - length bs) n (length bs + MAX_PIECE) len
        (omega (arith, length-append bs bytes, size, below, le_is (length (bs ++ bytes)) len e))))

self : (n : ℕ) → nat_eq n n ≡ true
self n = grind (arith, nat_tests)

front_after : (e : ℕ × Granted) (es : List (ℕ × Granted)) (bytes : List ℕ) → is_open e.1 ≡ true
    → length bytes ≡ piece_size (due_of e.1)
    → due_of_grants (with_piece (e ∷ es) e.0 bytes) ≡ drop 1 (due_of_grants (e ∷ es))
front_after e es bytes is size =
    rw (self e.0) (rw (due_of_grant-open e is)
    (ap (λ ds. ds ++ due_of_grants es) (due_of_grant-after e.0 e.1.len e.1.bytes bytes is size)))

-- a piece of a message that stands later leaves the front
with_piece-later : (e : ℕ × Granted) (es : List (ℕ × Granted)) (n : ℕ) (bytes : List ℕ) → nat_eq n e.0 ≡ false
    → with_piece (e ∷ es) n bytes ≡ e ∷ with_piece es n bytes
with_piece-later e es n bytes other = rw other (by (lookup (nat_eq n) es))
  where
    by : (o : Option Granted) → option_map_or (λ g. e ∷ set_value (nat_eq n) es (with_more g bytes)) o (e ∷ es)
        ≡ e ∷ option_map_or (λ g. set_value (nat_eq n) es (with_more g bytes)) o es
    by None = refl
    by (Some g) = refl

-- after the next piece, all but the first are still due
pub due_of_grants-after : (es : List (ℕ × Granted)) (n at : ℕ) (bytes : List ℕ) → expected_in es ≡ Some (n, at)
    → length bytes ≡ piece_size (due_in es) → is_open_in es n ≡ true
    → due_of_grants (with_piece es n bytes) ≡ drop 1 (due_of_grants es)
due_of_grants-after [] n at bytes expected size is = absurd cc
due_of_grants-after (e ∷ es) n at bytes expected size open' =
    by (is_open e.1) refl (due_of_grants-after es n at bytes)
  where
    by_name : (b : Bool) → nat_eq n e.0 ≡ b → is_open e.1 ≡ false
        → (is_open_in es n ≡ true → due_of_grants (with_piece es n bytes) ≡ drop 1 (due_of_grants es))
        → due_of_grants (with_piece (e ∷ es) n bytes) ≡ drop 1 (due_of_grants (e ∷ es))
    by_name true same not' later = absurd (true≢false (sym (rw same at open') ∙ not'))
    by_name false other not' later =
        ap due_of_grants (with_piece-later e es n bytes other)
        ∙ due_of_grants-closed e (with_piece es n bytes) not'
        ∙ later (rw other at open')
        ∙ ap (λ ds. drop 1 ds) (sym (due_of_grants-closed e es not'))

    by : (b : Bool) → is_open e.1 ≡ b
        → (expected_in es ≡ Some (n, at) → length bytes ≡ piece_size (due_in es) → is_open_in es n ≡ true
        → due_of_grants (with_piece es n bytes) ≡ drop 1 (due_of_grants es))
        → due_of_grants (with_piece (e ∷ es) n bytes) ≡ drop 1 (due_of_grants (e ∷ es))
    by true is later =
        let named : e.0 ≡ n = ap (λ o. option_map_or (λ p. p.0) o n) (rw is at expected) in
        let sized : length bytes ≡ piece_size (due_of e.1) = rw is at size in
        let P : ℕ → Type 0 = λ m. due_of_grants (with_piece (e ∷ es) m bytes) ≡ drop 1 (due_of_grants (e ∷ es)) in
        subst P named (front_after e es bytes is sized)
    by false not' later = by_name (nat_eq n e.0) refl not' (later (rw not' at expected) (rw not' at size))
