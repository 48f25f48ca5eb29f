-- One packet, one piece or one event more.
use Rattle.std.proofs.Common.{◌≡◌, ℕ, suc, ◌+◌, Bool, true, false, cond, List, [], ◌∷◌, ◌++◌, length, refl, sym, ◌∙◌}
use Rattle.std.proofs.Common.{ap, append_assoc, append-nil, arith}
use Rattle.std.specs.Prelude.{fold}
use Rattle.std.specs.List.{filter}
use Rattle.std.proofs.lemmas.List.Elements.{filter-append}
use Rattle.nm_history.specs.declared.events.Event.{Event}
use Rattle.nm_history.specs.declared.events.Happened.{Happened}
use Rattle.nm_history.specs.declared.plain.Pair.{Pair}
use Rattle.nm_history.specs.Matching.{matched_pairs}
use Rattle.nm_history.proofs.MatchingLemmas.{matched_pairs-append}
use Rattle.nm_history.specs.Bytes.{eager_bytes, piece_bytes, pulled_bytes, taken_bytes}
use Rattle.nm_history.specs.Clock.{AreStamped, stamped}
use Rattle.nm_history.specs.Effects.{happenings}
use Rattle.nm_history.specs.Known.{Known, Taken, known_after}
use Rattle.nm_history.specs.Pieces.{Due, Pulled, count_continued, due_of, due_of_all, due_pieces, granted, is_granted}

pub fold-append : {X Y : Type 0} (f : Y → X → Y) (y : Y) (xs xs' : List X) → fold f y (xs ++ xs') ≡ fold f
    (fold f y xs) xs'
fold-append f y [] xs' = refl
fold-append f y (x ∷ xs) xs' = fold-append f (f y x) xs xs'

pub due_of_all-append : (pairs more : List Pair) → due_of_all (pairs ++ more) ≡ due_of_all pairs ++ due_of_all more
due_of_all-append [] more = refl
due_of_all-append (pair ∷ pairs) more =
    ap (λ (rest : List Due). due_of pair ++ rest) (due_of_all-append pairs more)
    ∙ sym (append_assoc (due_of pair) (due_of_all pairs) (due_of_all more))

-- the pieces that are due stay due, before those of later pairs
pub due_pieces-append : (h more : List Event) (from : ℕ) →
    (rest : List Due) × (due_pieces (h ++ more) from ≡ due_pieces h from ++ rest)
due_pieces-append h more from =
    let later = matched_pairs-append h more in
    let grants : granted (h ++ more) from ≡ granted h from ++ filter (is_granted from) later.0 =
    ap (λ (pairs : List Pair). filter (is_granted from) pairs) later.1 ∙ filter-append (is_granted from)
    (matched_pairs h) later.0 in (
      due_of_all (filter (is_granted from) later.0),
      ap due_of_all grants ∙ due_of_all-append (granted h from)
          (filter (is_granted from) later.0),
    )

pub eager_bytes-push : (n : ℕ) (known : Known) (packets : List Taken) (t : Taken) →
    eager_bytes n known (packets ++ t ∷ []) ≡ eager_bytes n known packets ++ taken_bytes n
    (fold known_after known packets) t
eager_bytes-push n known [] t = append-nil (taken_bytes n known t)
eager_bytes-push n known (x ∷ packets) t =
    ap (λ (rest : List ℕ). taken_bytes n known x ++ rest) (eager_bytes-push n (known_after known x) packets t)
    ∙ sym (append_assoc (taken_bytes n known x) (eager_bytes n (known_after known x) packets)
    (taken_bytes n (fold known_after (known_after known x) packets) t))

pub piece_bytes-push : (n : ℕ) (pieces : List Pulled) (d : Pulled) → piece_bytes n (pieces ++ d ∷ [])
    ≡ piece_bytes n pieces ++ pulled_bytes n d
piece_bytes-push n [] d = append-nil (pulled_bytes n d)
piece_bytes-push n (x ∷ pieces) d =
    ap (λ (rest : List ℕ). pulled_bytes n x ++ rest) (piece_bytes-push n pieces d)
    ∙ sym (append_assoc (pulled_bytes n x) (piece_bytes n pieces) (pulled_bytes n d))

pub count_continued-push : (pieces : List Pulled) (d : Pulled) → count_continued (pieces ++ d ∷ []) ≡ count_continued
    pieces + cond d.continued 1 0
count_continued-push [] d = by_test d.continued where
  by_test : (b : Bool) → length (cond b (d ∷ []) []) ≡ 0 + cond b 1 0
  by_test true = refl
  by_test false = refl
count_continued-push (x ∷ pieces) d = by_test x.continued (count_continued-push pieces d) where
  by_test : (b : Bool) → count_continued (pieces ++ d ∷ []) ≡ count_continued pieces + cond d.continued 1 0 →
      length (cond b (x ∷ filter (λ d. d.continued) (pieces ++ d ∷ []))
      (filter (λ d. d.continued) (pieces ++ d ∷ []))) ≡ length
      (cond b (x ∷ filter (λ d. d.continued) pieces) (filter (λ d. d.continued) pieces)) + cond d.continued 1 0
  by_test true same = omega (arith, same)
  by_test false same = same

pub stamped-follow : (clock : ℕ) (ws : List Happened) → AreStamped clock (stamped clock ws)
stamped-follow clock [] = tt
stamped-follow clock (w ∷ ws) = (refl, stamped-follow (clock + 1) ws)

pub stamped-same : (clock : ℕ) (ws : List Happened) → happenings (stamped clock ws) ≡ ws
stamped-same clock [] = refl
stamped-same clock (w ∷ ws) = ap (λ (rest : List Happened). w ∷ rest) (stamped-same (clock + 1) ws)

pub stamped-count : (clock : ℕ) (ws : List Happened) → length (stamped clock ws) ≡ length ws
stamped-count clock [] = refl
stamped-count clock (w ∷ ws) = ap (λ (k : ℕ). suc k) (stamped-count (clock + 1) ws)
