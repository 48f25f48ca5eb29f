-- What was granted stays what is due.
use Rattle.std.proofs.Common.{◌≡◌, ℕ, zero, suc, ◌+◌, ◌≤◌, Bool, true, false, Option, Some, None, List, [], ◌∷◌, ◌++◌}
use Rattle.std.proofs.Common.{length, drop, slice_get, nat_eq, refl, sym, ap, ◌∙◌, add-one, append_assoc}
use Rattle.std.proofs.Common.{length-append, arith}
use Rattle.std.proofs.lemmas.List.{append-nil, drop-append-le}
use Rattle.std.specs.Map.{lookup, set_value}
use Rattle.std.specs.Option.{option_map, option_map_or}
use Rattle.nm_history.specs.declared.events.Event.{Event}
use Rattle.nm_history.specs.declared.plain.Pair.{Pair}
use Rattle.nm_history.specs.Pieces.{Due, due_of, due_of_all, due_pieces, granted}
use Rattle.nm_rndv.specs.Grants.{Granted, due_in, expected_in, first_unfinished, fresh, is_open_in, is_whole_in}
use Rattle.nm_rndv.specs.Grants.{taken_in, with_piece, without_bytes}
use Rattle.nm_rndv.specs.Pieces.{piece_size}
use Rattle.nm_receiving.specs.Pieces.{AreDue, due_of_grant, due_of_grants}
use Rattle.nm_receiving.proofs.PieceLemmas.{due_of_grants-append, due_of_grants-after, due_of_grants-closed}
use Rattle.nm_receiving.proofs.PieceLemmas.{due_of_grants-first, due_of_grant-fresh, next_due}
use Rattle.nm_rndv.proofs.GrantLemmas.{closed_whole as closed}

due_of_all-push : (pairs : List Pair) (pair : Pair) → due_of_all (pairs ++ pair ∷ []) ≡ due_of_all pairs ++ due_of pair
due_of_all-push [] pair = append-nil (due_of pair)
due_of_all-push (p ∷ pairs) pair =
    ap (λ ds. due_of p ++ ds) (due_of_all-push pairs pair)
    ∙ sym (append_assoc (due_of p) (due_of_all pairs) (due_of pair))

first_left : (xs : List Due) (place : ℕ) → slice_get (drop place xs) 0 ≡ slice_get xs place
first_left [] zero = refl
first_left [] (suc place) = refl
first_left (x ∷ xs) zero = refl
first_left (x ∷ xs) (suc place) = first_left xs place

left_is_within : (xs : List Due) (place : ℕ) (d : Due) → slice_get xs place ≡ Some d → place + 1 ≤ length xs
left_is_within [] zero d is = absurd cc
left_is_within [] (suc place) d is = absurd cc
left_is_within (x ∷ xs) zero d is = omega arith
left_is_within (x ∷ xs) (suc place) d is = let h = left_is_within xs place d is in omega (arith, h)

drop_next : (xs : List Due) (place : ℕ) → drop 1 (drop place xs) ≡ drop (suc place) xs
drop_next [] zero = refl
drop_next [] (suc place) = refl
drop_next (x ∷ xs) zero = refl
drop_next (x ∷ xs) (suc place) = drop_next xs place

drop_one : (xs : List Due) (place : ℕ) → drop 1 (drop place xs) ≡ drop (place + 1) xs
drop_one xs place = drop_next xs place ∙ ap (λ k. drop k xs) (sym (add-one place))

due_after : (h events : List Event) (from : ℕ) (pair : Pair) → granted (h ++ events) from ≡ granted h from ++ pair ∷ []
    → due_pieces (h ++ events) from ≡ due_pieces h from ++ due_of pair
due_after h events from pair grown = ap due_of_all grown ∙ due_of_all-push (granted h from) pair

pub due-first : (grants : List (ℕ × Granted)) (h : List Event) (from place : ℕ) → AreDue grants h from place
    → slice_get (due_of_grants grants) 0 ≡ slice_get (due_pieces h from) place
due-first grants h from place are = ap (λ ds. slice_get ds 0) are.rest ∙ first_left (due_pieces h from) place

there : (grants : List (ℕ × Granted)) (n at : ℕ) → expected_in grants ≡ Some (n, at) →
    (d : Due) × (slice_get (due_of_grants grants) 0 ≡ Some d)
there grants n at expected = by (first_unfinished grants) refl
  where
    by : (o : Option (ℕ × Granted)) → first_unfinished grants ≡ o →
        (d : Due) × (slice_get (due_of_grants grants) 0 ≡ Some d)
    by None none = absurd (let e = rw none at expected in cc)
    by (Some e) some = (next_due e, due_of_grants-first grants ∙ ap (λ o. option_map next_due o) some)

pub due-piece : (grants : List (ℕ × Granted)) (h : List Event) (from place n at : ℕ) (bytes : List ℕ)
    → expected_in grants ≡ Some (n, at) → length bytes ≡ piece_size (due_in grants) → is_open_in grants n ≡ true
    → AreDue grants h from place → AreDue (with_piece grants n bytes) h from (place + 1)
due-piece grants h from place n at bytes expected size is are =
    let d = there grants n at expected in
    record {
      came = left_is_within (due_pieces h from) place d.0 (sym (due-first grants h from place are) ∙ d.1);
      rest = due_of_grants-after grants n at bytes expected size is ∙ ap (λ ds. drop 1 ds) are.rest
          ∙ drop_one (due_pieces h from) place;
    }

fresh_due : (grants : List (ℕ × Granted)) (pair : Pair)
    → due_of_grants (grants ++ (pair.arrival.n, fresh pair.arrival.env.len) ∷ []) ≡ due_of_grants grants ++ due_of pair
fresh_due grants pair =
    due_of_grants-append grants _
    ∙ ap (λ ds. due_of_grants grants ++ ds) (append-nil _ ∙ due_of_grant-fresh pair.arrival.n pair.arrival.env.len)

pub due-grant : (grants : List (ℕ × Granted)) (h events : List Event) (from place : ℕ) (pair : Pair)
    → granted (h ++ events) from ≡ granted h from ++ pair ∷ [] → AreDue grants h from place
    → AreDue (grants ++ (pair.arrival.n, fresh pair.arrival.env.len) ∷ []) (h ++ events) from place
due-grant grants h events from place pair grown are =
    let due = due_after h events from pair grown in
    record {
      came = rw due (omega (arith, length-append (due_pieces h from) (due_of pair), are.came));
      rest = fresh_due grants pair ∙ ap (λ ds. ds ++ due_of pair) are.rest
          ∙ sym (drop-append-le place (due_pieces h from) (due_of pair) are.came) ∙ ap (λ ds. drop place ds) (sym due);
    }

pub due-empty : (grants : List (ℕ × Granted)) (h : List Event) (from place n : ℕ) → AreDue grants h from place
    → AreDue (grants ++ (n, fresh 0) ∷ []) h from place
due-empty grants h from place n are =
    record { came = are.came; rest = due_of_grants-append grants _ ∙ append-nil (due_of_grants grants) ∙ are.rest }

pub due-other : (grants : List (ℕ × Granted)) (h events : List Event) (from place : ℕ)
    → granted (h ++ events) from ≡ granted h from → AreDue grants h from place → AreDue grants (h ++ events) from place
due-other grants h events from place same are =
    let due : due_pieces (h ++ events) from ≡ due_pieces h from = ap due_of_all same in
    record { came = rw due are.came; rest = rw due are.rest }

taken_same : (es : List (ℕ × Granted)) (n : ℕ) → is_whole_in es n ≡ true →
    due_of_grants (taken_in es n) ≡ due_of_grants es
taken_same [] n whole = refl
taken_same (e ∷ es) n whole = by (nat_eq n e.0) refl (taken_same es n)
  where
    later : (o : Option Granted) → option_map_or (λ g. e ∷ set_value (nat_eq n) es (without_bytes g)) o (e ∷ es)
        ≡ e ∷ option_map_or (λ g. set_value (nat_eq n) es (without_bytes g)) o es
    later None = refl
    later (Some g) = refl

    by : (b : Bool) → nat_eq n e.0 ≡ b → (is_whole_in es n ≡ true → due_of_grants (taken_in es n) ≡ due_of_grants es)
        → due_of_grants (taken_in (e ∷ es) n) ≡ due_of_grants (e ∷ es)
    by true same rest = rw same (sym (due_of_grants-closed e es (closed e.1 (rw same at whole))))
    by false other rest =
        rw other (ap due_of_grants (later (lookup (nat_eq n) es)) ∙ ap (λ ds. due_of_grant e ++ ds)
        (rest (rw other at whole)))

pub due-taken : (grants : List (ℕ × Granted)) (h : List Event) (from place n : ℕ) → is_whole_in grants n ≡ true
    → AreDue grants h from place → AreDue (taken_in grants n) h from place
due-taken grants h from place n whole are = record { came = are.came; rest = taken_same grants n whole ∙ are.rest }
