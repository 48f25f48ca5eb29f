-- The command of each line of a script.
use Rattle.std.proofs.Common.{◌≡◌, ℕ, ◌+◌, ◌<◌, ◌==◌, zero, suc, Bool, true, false, cond, Option, Some, None, List}
use Rattle.std.proofs.Common.{[], ◌∷◌, refl, ◌∙◌, ap, arith}
use Rattle.std.specs.Prelude.{option_and_then, option_map}
use Rattle.std.specs.List.{find, slice_get}
use Rattle.std.proofs.lemmas.Bool.Decides.{nat_tests}
use Rattle.nm_types.specs.declared.scripts.Line.{Line}
use Rattle.nm_types.specs.Commands.{Numbered, command_at, commands_from, commands_of, numbered}
use Rattle.nm_types.proofs.NumberLemmas.{eq_less, eq_false}

itself : (n : ℕ) → (n == n) ≡ true
itself n = grind (arith, nat_tests)

none_before : (rank number line : ℕ) (lines : List Line) → line < number →
    find (λ d. d.line == line) (commands_from rank number lines) ≡ None
none_before rank number line [] low = refl
none_before rank number line (l ∷ lines) low =
    by_rank (l.rank == rank) (none_before rank (number + 1) line lines (omega arith))
  where
    by_rank : (b : Bool) → find (λ d. d.line == line) (commands_from rank (number + 1) lines) ≡ None →
        find (λ d. d.line == line) (cond b (numbered number l ∷ commands_from rank (number + 1) lines)
        (commands_from rank (number + 1) lines)) ≡ None
    by_rank true later = rw (eq_false number line low) later
    by_rank false later = later

-- the command of the line at a place, where it is the rank's
abbrev own_command : ℕ → ℕ → Option Line → Option Numbered
own_command rank line o = option_and_then (λ l. cond (l.rank == rank) (Some (numbered line l)) None) o

found_at : (rank number k line : ℕ) (lines : List Line) → number + k ≡ line →
    find (λ d. d.line == line) (commands_from rank number lines) ≡ own_command rank line (slice_get lines k)
found_at rank number k line [] at = refl
found_at rank number zero line (l ∷ lines) at = by_rank (l.rank == rank) number (omega (arith, at))
  where
    by_rank : (b : Bool) (m : ℕ) → m ≡ line → find (λ d. d.line == line)
        (cond b (numbered m l ∷ commands_from rank (number + 1) lines) (commands_from rank (number + 1) lines))
        ≡ cond b (Some (numbered line l)) None
    by_rank true m same = rw (same, itself line) refl
    by_rank false m same = none_before rank (number + 1) line lines (omega (arith, at))
found_at rank number (suc k) line (l ∷ lines) at =
    by_rank (l.rank == rank) (found_at rank (number + 1) k line lines (omega (arith, at)))
  where
    by_rank : (b : Bool) → find (λ d. d.line == line)
        (commands_from rank (number + 1) lines) ≡ own_command rank line (slice_get lines k) →
        find (λ d. d.line == line) (cond b (numbered number l ∷ commands_from rank (number + 1) lines)
        (commands_from rank (number + 1) lines))
        ≡ own_command rank line (slice_get lines k)
    by_rank true later = rw (eq_less number line (omega (arith, at))) later
    by_rank false later = later

-- the command of a line, by the line at its place
pub command_is : (rank line : ℕ) (lines : List Line) (k : ℕ) → k + 2 ≡ line →
    command_at (commands_of rank lines) line ≡ option_and_then (λ l. cond (l.rank == rank) (Some l.command) None)
    (slice_get lines k)
command_is rank line lines k at =
    ap (λ (o : Option Numbered). option_map (λ c. c.command) o) (found_at rank 2 k line lines (omega (arith, at)))
    ∙ by_line (slice_get lines k)
  where
    by_line : (o : Option Line) → option_map (λ c. c.command) (own_command rank line o) ≡ option_and_then
        (λ l. cond (l.rank == rank) (Some l.command) None) o
    by_line None = refl
    by_line (Some l) = by_rank (l.rank == rank)
      where
        by_rank : (b : Bool) → option_map (λ (c : Numbered). c.command)
            (cond b (Some (numbered line l)) None) ≡ cond b (Some l.command) None
        by_rank true = refl
        by_rank false = refl

-- there is none below line 2
pub no_command : (rank line : ℕ) (lines : List Line) → line < 2 → command_at (commands_of rank lines) line ≡ None
no_command rank line lines low = ap (λ (o : Option Numbered). option_map (λ c. c.command) o)
    (none_before rank 2 line lines low)
