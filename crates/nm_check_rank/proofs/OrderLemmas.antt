-- The lines of the commands of a rank and of those that ran, one after another.
use Rattle.std.proofs.Common.{◌≡◌, ℕ, suc, ◌+◌, ◌<◌, ◌==◌, Bool, true, false, cond, List, []}
use Rattle.std.proofs.Common.{◌∷◌, ◌++◌}
use Rattle.std.proofs.Common.{length, map, take, get_or, refl, sym, ◌∙◌, ap, arith, append-nil}
use Rattle.std.proofs.lemmas.Bool.Decides.{nat_tests}
use Rattle.std.proofs.lemmas.List.{length-take-le}
use Rattle.nm_types.specs.Commands.{Numbered, commands_from, commands_of}
use Rattle.nm_types.specs.declared.scripts.Line.{Line}
use Rattle.nm_types.proofs.ListLemmas.{take_next}

abbrev lines_from : ℕ → ℕ → List Line → List ℕ
lines_from rank n xs = map (λ (c : Numbered). c.line) (commands_from rank n xs)

lines_push : (rank n : ℕ) (xs : List Line) (l : Line) →
    lines_from rank n (xs ++ l ∷ []) ≡ lines_from rank n xs ++ cond (l.rank == rank) ((n + length xs) ∷ []) []
lines_push rank n [] l = by_rank (l.rank == rank) (omega arith)
  where
    by_rank : (b : Bool) → n ≡ n + 0 →
        map (λ (c : Numbered). c.line) (cond b (record { line = n; command = l.command } ∷ []) []) ≡ cond b
        ((n + 0) ∷ []) []
    by_rank true same = ap (λ (m : ℕ). m ∷ []) same
    by_rank false same = refl
lines_push rank n (x ∷ xs) l =
    by_rank (x.rank == rank)
    (lines_push rank (n + 1) xs l ∙ ap (λ (m : ℕ). lines_from rank (n + 1) xs ++ cond (l.rank == rank)
    (m ∷ []) []) shift)
  where
    shift : (n + 1) + length xs ≡ n + suc (length xs)
    shift = omega arith

    by_rank : (b : Bool) →
        lines_from rank (n + 1) (xs ++ l ∷ []) ≡ lines_from rank (n + 1) xs ++ cond (l.rank == rank)
        ((n + suc (length xs)) ∷ []) [] →
        map (λ (c : Numbered). c.line)
        (cond b (record { line = n; command = x.command } ∷ commands_from rank (n + 1) (xs ++ l ∷ []))
        (commands_from rank (n + 1) (xs ++ l ∷ [])))
        ≡ map (λ (c : Numbered). c.line)
        (cond b (record { line = n; command = x.command } ∷ commands_from rank (n + 1) xs)
        (commands_from rank (n + 1) xs))
        ++ cond (l.rank == rank) ((n + suc (length xs)) ∷ []) []
    by_rank true later = ap (λ (ls : List ℕ). n ∷ ls) later
    by_rank false later = later

module _ (rank : ℕ) (lines : List Line) (k : ℕ) (l : Line) (inside : k < length lines) (is : l ≡ get_or lines k l) where
  own_next : map (λ (c : Numbered). c.line) (commands_of rank (take (k + 1) lines))
      ≡ map (λ (c : Numbered). c.line) (commands_of rank (take k lines)) ++ cond (l.rank == rank) ((k + 2) ∷ []) []
  own_next =
      let counted : length (take k lines) ≡ k = length-take-le k lines (omega (arith, inside)) in
      let place : 2 + length (take k lines) ≡ k + 2 = omega (arith, counted) in
      ap (λ (ls : List Line). lines_from rank 2 ls) (take_next lines k l inside is) ∙ lines_push rank 2 (take k lines) l
      ∙ ap (λ (m : ℕ). lines_from rank 2 (take k lines) ++ cond (l.rank == rank) (m ∷ []) []) place

  by_test : (own : List ℕ) (b : Bool) → (l.rank == rank) ≡ b →
      own ≡ map (λ c. c.line) (commands_of rank (take k lines)) →
      own ++ cond b ((k + 2) ∷ []) [] ≡ map (λ c. c.line) (commands_of rank (take (k + 1) lines))
  by_test own b is are = let back = sym is in (λ i. are i ++ cond (back i) ((k + 2) ∷ []) []) ∙ sym own_next

  -- the line of one more command
  pub own_line : (own : List ℕ) → l.rank ≡ rank → own ≡ map (λ c. c.line) (commands_of rank (take k lines)) →
      own ++ (k + 2) ∷ [] ≡ map (λ c. c.line) (commands_of rank (take (k + 1) lines))
  own_line own ours are = by_test own true (grind (arith, nat_tests)) are

  -- .. of another rank's
  pub other_line : (own : List ℕ) → (l.rank ≡ rank → ⊥) → own ≡ map (λ c. c.line) (commands_of rank (take k lines)) →
      own ≡ map (λ c. c.line) (commands_of rank (take (k + 1) lines))
  other_line own others are = sym (append-nil own) ∙ by_test own false (grind (arith, nat_tests)) are
