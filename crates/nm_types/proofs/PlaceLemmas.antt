-- The commands of a rank, and their lines.
use Rattle.std.proofs.Common.{◌≡◌, ℕ, ◌+◌, ◌≤◌, ◌==◌, zero, suc, Bool, true, false, cond, Some, List, [], ◌∷◌}
use Rattle.std.proofs.Common.{refl, subst, arith}
use Rattle.std.specs.List.{find, slice_get}
use Rattle.std.proofs.lemmas.Bool.Decides.{nat_tests}
use Rattle.nm_types.specs.declared.scripts.Line.{Line}
use Rattle.nm_types.specs.Commands.{Numbered, command_at, commands_from, commands_of, numbered}
use Rattle.nm_types.proofs.NumberLemmas.{eq_later}

itself : (n : ℕ) → (n == n) ≡ true
itself n = grind (arith, nat_tests)

at_own : (number k : ℕ) (x : Numbered) (rest : List Numbered) (c : Numbered) → x.line ≡ number →
    ((j : ℕ) → slice_get rest j ≡ Some c → (number + 1 ≤ c.line) × (find (λ d. d.line == c.line) rest ≡ Some c)) →
    slice_get (x ∷ rest) k ≡ Some c →
    (number ≤ c.line) × (find (λ d. d.line == c.line) (x ∷ rest) ≡ Some c)
at_own number zero x rest c is later here =
    let same : x ≡ c = cc in
    subst (λ (c : Numbered). (number ≤ c.line) × (find (λ d. d.line == c.line) (x ∷ rest) ≡ Some c)) same
    (omega (arith, is), rw (itself x.line) refl)
at_own number (suc k) x rest c is later here =
    let more = later k here in
    (omega (arith, more.0), rw (is, eq_later number c.line more.0) more.1)

own_line : (rank number : ℕ) (lines : List Line) (k : ℕ) (c : Numbered) →
    slice_get (commands_from rank number lines) k ≡ Some c →
    (number ≤ c.line) × (find (λ d. d.line == c.line) (commands_from rank number lines) ≡ Some c)
own_line rank number [] k c here = absurd (grind arith)
own_line rank number (l ∷ lines) k c here =
    by_rank (l.rank == rank) here (own_line rank (number + 1) lines)
  where
    by_rank : (b : Bool) →
        slice_get (cond b (numbered number l ∷ commands_from rank (number + 1) lines)
        (commands_from rank (number + 1) lines)) k ≡ Some c →
        ((j : ℕ) (c : Numbered) → slice_get (commands_from rank (number + 1) lines) j ≡ Some c →
        (number + 1 ≤ c.line) × (find (λ d. d.line == c.line) (commands_from rank (number + 1) lines) ≡ Some c)) →
        (number ≤ c.line) × (find (λ d. d.line == c.line)
        (cond b (numbered number l ∷ commands_from rank (number + 1) lines) (commands_from rank (number + 1) lines))
        ≡ Some c)
    by_rank true here later = at_own number k (numbered number l) (commands_from rank (number + 1) lines) c refl
        (λ j found. later j c found) here
    by_rank false here later = let more = later k c here in (omega (arith, more.0), more.1)

pub own : (rank : ℕ) (lines : List Line) (k : ℕ) (c : Numbered) → slice_get (commands_of rank lines) k ≡ Some c →
    command_at (commands_of rank lines) c.line ≡ Some c.command
own rank lines k c here = rw (own_line rank 2 lines k c here).1 refl

found_at : (rank number k : ℕ) (lines : List Line) (l : Line) → slice_get lines k ≡ Some l → l.rank ≡ rank →
    find (λ d. d.line == number + k) (commands_from rank number lines) ≡ Some (numbered (number + k) l)
found_at rank number k [] l here mine = absurd (grind arith)
found_at rank number zero (x ∷ lines) l here mine =
    let same : x ≡ l = cc in
    let sum : number + 0 ≡ number = omega arith in
    let own : (l.rank == rank) ≡ true = rw mine (itself rank) in
    rw (same, own, sum, itself number) refl
found_at rank number (suc k) (x ∷ lines) l here mine =
    let sum : (number + 1) + k ≡ number + suc k = omega arith in
    let other : (number == number + suc k) ≡ false = eq_later number (number + suc k) (omega arith) in
    by_rank (x.rank == rank) other (subst (λ (m : ℕ). find (λ d. d.line == m) (commands_from rank (number + 1) lines)
    ≡ Some (numbered m l)) sum (found_at rank (number + 1) k lines l here mine))
  where
    by_rank : (b : Bool) → (number == number + suc k) ≡ false →
        find (λ d. d.line == number + suc k) (commands_from rank (number + 1) lines) ≡ Some
        (numbered (number + suc k) l) →
        find (λ d. d.line == number + suc k)
        (cond b (numbered number x ∷ commands_from rank (number + 1) lines) (commands_from rank (number + 1) lines))
        ≡ Some (numbered (number + suc k) l)
    by_rank true other later = rw other later
    by_rank false other later = later

pub place : (rank : ℕ) (lines : List Line) (k : ℕ) (line : Line) → slice_get lines k ≡ Some line → line.rank ≡ rank →
    command_at (commands_of rank lines) (k + 2) ≡ Some line.command
place rank lines k line here mine =
    let sum : 2 + k ≡ k + 2 = omega arith in
    rw (subst (λ (m : ℕ). find (λ d. d.line == m) (commands_from rank 2 lines) ≡ Some (numbered m line)) sum
    (found_at rank 2 k lines line here mine)) refl
