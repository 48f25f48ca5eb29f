use Rattle.std.proofs.Common.{arith, ◌≡◌, ◌==◌, ℕ, ◌+◌, List, [], ◌∷◌, length, Ok, Err, true, false, sym, ◌∙◌}
use Rattle.std.proofs.lemmas.Bool.{eqb-true}
use Rattle.nm_trace.specs.Machine.{Over, Trace}
use Rattle.nm_trace.specs.Outcome.{told}
use Rattle.nm_trace.proofs.StageLemmas.{end_refused, end_told, over_refused, over_told}
use Rattle.nm_trace.proofs.reading.read_end.Goals as goal

-- nothing left
over_all : (ranks : ℕ) (trace : Trace) (rest : List ℕ) (number : ℕ) → (length rest == 0) ≡ true
    → told ranks (Over trace) rest number ≡ Ok trace
over_all ranks trace [] number h = over_told ranks trace number
over_all ranks trace (b ∷ rest) number h = absurd (omega (arith, eqb-true (length (b ∷ rest)) 0 h))

-- something left
over_more : (ranks : ℕ) (trace : Trace) (rest : List ℕ) (number : ℕ) → (length rest == 0) ≡ false
    → told ranks (Over trace) rest number ≡ Err number
over_more ranks trace [] number h = cc
over_more ranks trace (b ∷ rest) number h = over_refused ranks trace b rest number

pub returns-in_default-clause-stops : goal.returns-in_default-clause-stops
returns-in_default-clause-stops c = λ ranks pairs ends cells.
    let read = rw c.in_default.is at c.next_end.ensures.read in
    rw c.fault.ensures
    (end_refused ranks pairs ends cells c.args.text.rest.now c.args.text.number (sym read))

pub returns-then-is_empty-clause-told : goal.returns-then-is_empty-clause-told
returns-then-is_empty-clause-told c = λ ranks pairs ends cells.
    let read = rw c.in-Some.is at c.next_end.ensures.read in
    let rest = c.in-Some.after.rest.now in
    let trace : Trace = record { ends = ends; pairs = pairs; cells = cells; done = c.in-Some.done } in
    end_told ranks pairs ends cells c.args.text.rest.now c.args.text.number c.in-Some.done rest (sym read)
    ∙ over_all ranks trace rest (c.args.text.number + 1) (sym c.is_empty.ensures ∙ c.if-is_empty.true)

pub returns-else-is_empty-clause-stops : goal.returns-else-is_empty-clause-stops
returns-else-is_empty-clause-stops c = λ ranks pairs ends cells.
    let read = rw c.in-Some.is at c.next_end.ensures.read in
    let number = rw c.in-Some.is at c.next_end.ensures.number in
    let rest = c.in-Some.after.rest.now in
    let trace : Trace = record { ends = ends; pairs = pairs; cells = cells; done = c.in-Some.done } in
    rw (c.fault-else-is_empty.ensures, number)
    (end_told ranks pairs ends cells c.args.text.rest.now c.args.text.number c.in-Some.done rest (sym read)
    ∙ over_more ranks trace rest (c.args.text.number + 1) (sym c.is_empty.ensures ∙ c.if-is_empty.false))
