-- The text of a record of one rank that waits.
use Rattle.std.proofs.Common.{◌≡◌, ℕ, false, List, [], ◌∷◌, ◌++◌, Result, Ok, Err, IfOk, Some}
use Rattle.std.proofs.Common.{ap, ◌∙◌, append-nil, append_assoc, codes, decimal}
use Rattle.nm_report.specs.declared.accounts.RankAccount.{RankAccount}
use Rattle.nm_report.specs.declared.records.RunRecord.{RunRecord}
use Rattle.nm_report.specs.Report.{report_text}
use Rattle.uses.specs.Standing.{standing_text}

-- one line of a rank, put together
line_is : (z d w t : List ℕ) → ((z ++ 32 ∷ (d ++ w)) ++ []) ++ t ≡ z ++ 32 ∷ (d ++ (w ++ t))
line_is z d w t = ap (λ (xs : List ℕ). xs ++ t) (append-nil (z ++ 32 ∷ (d ++ w)))
    ∙ append_assoc z (32 ∷ (d ++ w)) t ∙ ap (λ (xs : List ℕ). z ++ 32 ∷ xs) (append_assoc d w t)

-- and that of the cells
cells_are : (d y n e : List ℕ) → (d ++ (y ++ 32 ∷ (d ++ n))) ++ e ≡ d ++ (y ++ 32 ∷ (d ++ (n ++ e)))
cells_are d y n e = append_assoc d (y ++ 32 ∷ (d ++ n)) e
    ∙ ap (λ (xs : List ℕ). d ++ xs) (append_assoc y (32 ∷ (d ++ n)) e
    ∙ ap (λ (xs : List ℕ). y ++ 32 ∷ xs) (append_assoc d n e))

-- the report of one rank that waits at a line, whose cells are home
pub standing : (run : RunRecord) (a : RankAccount) (line : ℕ) → run.ranks ≡ a ∷ [] → a.history.events ≡ [] →
    a.waits ≡ Some line → run.cells ≡ record { total = 8; home = 8 } → run.done ≡ false →
    report_text false run ≡ standing_text line
standing run a line one none waits cells stuck =
    rw (one, none, waits, cells, stuck) (line_is (decimal 0) (decimal line) (codes " waits\n")
    (codes "cells " ++ ((decimal 8 ++ (codes " home" ++ 32 ∷ (decimal 8 ++ codes "\n"))) ++ codes "stuck\n"))
    ∙ ap (λ (xs : List ℕ). decimal 0 ++ 32 ∷ (decimal line ++ (codes " waits\n" ++ (codes "cells " ++ xs))))
    (cells_are (decimal 8) (codes " home") (codes "\n") (codes "stuck\n")))

-- what is written is that
pub also : {V E : Type 0} (bytes : V → List ℕ) (r : Result V E) (a b : List ℕ) → IfOk r (λ text. bytes text ≡ a) →
    a ≡ b → IfOk r (λ text. bytes text ≡ b)
also bytes (Ok text) a b is same = is ∙ same
also bytes (Err e) a b is same = tt
