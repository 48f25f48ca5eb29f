-- A piece continues what was granted exactly where it is the first that is due.
use Rattle.std.proofs.Common.{◌≡◌, ℕ, ◌==◌, Bool, true, false, ◌&&◌, ◌↔◌, if◌then◌else◌, Option, Some, None}
use Rattle.std.proofs.Common.{IsTrue, length, slice_get, nat_le, refl, sym, ap, ◌∙◌, arith}
use Rattle.std.proofs.lemmas.Bool.Decides.{nat_tests}
use Rattle.std.specs.Option.{option_map, option_map_or}
use Rattle.nm_types.specs.declared.limits.TheConstants.{MAX_PIECE}
use Rattle.nm_types.specs.declared.packets.Joined.{Joined}
use Rattle.nm_types.specs.declared.packets.Joined.TheVariants as joined
use Rattle.nm_types.specs.declared.packets.Piece.{Piece}
use Rattle.nm_history.specs.Effects.{whole_if}
use Rattle.nm_history.specs.Pieces.{is_due, piece_makes}
use Rattle.nm_rndv.specs.Grants.{Continues, Granted, Granting, came, due_in, due_of, first_unfinished, grants_from}
use Rattle.nm_rndv.specs.Grants.{joined_by}
use Rattle.nm_rndv.specs.Pieces.{piece_size}
use Rattle.nm_receiving.specs.Pieces.{due_of_grants}
use Rattle.nm_receiving.proofs.PieceLemmas.{due_of_grants-first, next_due}
use Rattle.nm_types.proofs.TruthLemmas.{same_test}

-- what the three tests of a piece say
three : (a b c d e f : ℕ) → (a == b && c == d && e == f) ≡ true → (a ≡ b) × (c ≡ d) × (e ≡ f)
three a b c d e f h = (grind (arith, nat_tests), grind (arith, nat_tests), grind (arith, nat_tests))

three_tests : (a b c d e f : ℕ) → a ≡ b → c ≡ d → e ≡ f → (a == b && c == d && e == f) ≡ true
three_tests a b c d e f x y z = grind (arith, nat_tests)

-- a piece is the last exactly where it has all that is due
last_true : (size due : ℕ) → size ≡ piece_size due → (size == due) ≡ true → nat_le due MAX_PIECE ≡ true
last_true size due is all = grind (arith, nat_tests)

last_false : (size due : ℕ) → size ≡ piece_size due → (size == due) ≡ false → nat_le due MAX_PIECE ≡ false
last_false size due is part = grind (arith, nat_tests)

-- the grant that a piece continues
record Next (v : Granting) (p : Piece) : Type 0 where
  e : ℕ × Granted
  first : first_unfinished (grants_from v p.from) ≡ Some e
  n : p.n ≡ e.0
  at : p.at ≡ came e.1
  size : length p.bytes ≡ piece_size (due_of e.1)

next_of : (v : Granting) (p : Piece) → Continues v p → Next v p
next_of v p fit = by (first_unfinished (grants_from v p.from)) refl
  where
    by : (o : Option (ℕ × Granted)) → first_unfinished (grants_from v p.from) ≡ o → Next v p
    by None none = absurd (let h = rw none at fit.expected in cc)
    by (Some e) some =
        let h : Some (e.0, came e.1) ≡ Some (p.n, p.at) = rw some at fit.expected in
        record {
          e = e;
          first = some;
          n = sym (ap (λ o. option_map_or (λ x. x.0) o e.0) h);
          at = sym (ap (λ o. option_map_or (λ x. x.1) o (came e.1)) h);
          size = rw some at fit.size;
        }

continues_of : (v : Granting) (p : Piece) → Next v p → Continues v p
continues_of v p next =
    record { expected = rw (next.first, next.n, next.at) refl; size = rw next.first next.size }

next_is_due : (v : Granting) (p : Piece) (next : Next v p) → is_due p (next_due next.e) ≡ true
next_is_due v p next = three_tests p.n next.e.0 p.at (came next.e.1) (length p.bytes) (piece_size (due_of next.e.1))
    next.n next.at next.size

pub fits-first : (v : Granting) (p : Piece) (b : Bool) → (IsTrue b ↔ Continues v p)
    → b ≡ option_map_or (is_due p) (slice_get (due_of_grants (grants_from v p.from)) 0) false
fits-first v p b fits = rw (due_of_grants-first (grants_from v p.from))
    (by (first_unfinished (grants_from v p.from)) refl)
  where
    by : (o : Option (ℕ × Granted)) → first_unfinished (grants_from v p.from) ≡ o
        → b ≡ option_map_or (is_due p) (option_map next_due o) false
    by None none = same_test b false (λ fit. absurd (let h = rw none at (fits.0 fit).expected in cc)) (λ h. absurd cc)
    by (Some e) some = same_test b (is_due p (next_due e)) there back
      where
        there : b ≡ true → is_due p (next_due e) ≡ true
        there fit =
            let next = next_of v p (fits.0 fit) in
            let same : e ≡ next.e = ap (λ o. option_map_or (λ x. x) o e) (sym some ∙ next.first) in
            rw same (next_is_due v p next)

        back : is_due p (next_due e) ≡ true → b ≡ true
        back is =
            let t = three p.n e.0 p.at (came e.1) (length p.bytes) (piece_size (due_of e.1)) is in
            fits.1 (continues_of v p (record { e = e; first = some; n = t.0; at = t.1; size = t.2 }))

-- what a piece that continues makes happen, by whether it is the last
made : (v : Granting) (p : Piece) (next : Next v p)
    → piece_makes p.from (slice_get (due_of_grants (grants_from v p.from)) 0) p
    ≡ whole_if (nat_le (due_of next.e.1) MAX_PIECE) p.from p.n
made v p next = rw (due_of_grants-first (grants_from v p.from), next.first, next_is_due v p next) refl

due_is : (v : Granting) (p : Piece) (next : Next v p) → due_in (grants_from v p.from) ≡ due_of next.e.1
due_is v p next = rw next.first refl

not_whole : (b : Bool) → (if b then joined.Begun else joined.More) ≡ joined.Whole → ⊥
not_whole true h = cc
not_whole false h = cc

-- what it did to its message says the same
pub joined-made : (v : Granting) (p : Piece) (did : Joined) → Continues v p
    → did ≡ joined_by (due_in (grants_from v p.from)) p.at (length p.bytes)
    → (b : Bool) → (b ≡ true → did ≡ joined.Whole) → (b ≡ false → did ≡ joined.Whole → ⊥)
    → whole_if b p.from p.n ≡ piece_makes p.from (slice_get (due_of_grants (grants_from v p.from)) 0) p
joined-made v p did fit is b whole part =
    sym (made v p next ∙ ap (λ b. whole_if b p.from p.n)
    (by (length p.bytes == due) refl b whole part
    (is ∙ ap (λ d. joined_by d p.at (length p.bytes)) (due_is v p next))))
  where
    next : Next v p
    next = next_of v p fit

    due : ℕ
    due = due_of next.e.1

    by : (all : Bool) → (length p.bytes == due) ≡ all → (b : Bool) → (b ≡ true → did ≡ joined.Whole) →
        (b ≡ false → did ≡ joined.Whole → ⊥)
        → did ≡ joined_by due p.at (length p.bytes) → nat_le due MAX_PIECE ≡ b
    by true all true whole part is = last_true (length p.bytes) due next.size all
    by true all false whole part is = absurd (part refl (is ∙ rw all refl))
    by false some true whole part is = absurd (not_whole (p.at == 0) (sym (is ∙ rw some refl) ∙ whole refl))
    by false some false whole part is = last_false (length p.bytes) due next.size some
