use Rattle.std.proofs.Common.{ℕ, length, refl, sym, ap, ◌∙◌}
use Rattle.nm_trace.specs.Machine.{Closing}
use Rattle.nm_trace.specs.Outcome.{told}
use Rattle.nm_trace.proofs.StageLemmas.{cells_told, cells_refused}
use Rattle.nm_trace.proofs.reading.read_cells.Goals as goal

pub returns-in-Some-clause-told : goal.returns-in-Some-clause-told
returns-in-Some-clause-told c = λ pairs ends.
    let read = rw c.in-Some.is at c.in_ok-read.ensures.read in
    let number = rw c.in-Some.is at c.in_ok-read.ensures.number in
    let cells = c.in-Some.read.0 in
    let rest = c.in-Some.read.1.rest.now in
    cells_told (length ends) pairs ends refl c.args.text.rest.now c.args.text.number cells rest (sym read)
    ∙ ap (λ (n : ℕ). told (length ends) (Closing pairs ends cells) rest n) (sym number)

pub returns-in-None-clause-stops : goal.returns-in-None-clause-stops
returns-in-None-clause-stops c = λ pairs ends.
    let read = rw c.in-None.is at c.in_ok-read.ensures.read in
    rw c.fault.ensures
    (cells_refused (length ends) pairs ends refl c.args.text.rest.now c.args.text.number (sym read))
