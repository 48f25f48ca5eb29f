use Rattle.std.proofs.Common.{arith, ◌≡◌, ℕ, [], ◌∷◌, ◌++◌, true, false, sym, ap, ◌∙◌}
use Rattle.nm_trace.specs.Answers.{is_due}
use Rattle.nm_trace.specs.Outcome.{tells, told}
use Rattle.nm_trace.proofs.StageLemmas.{event_given, event_passes, event_refused}
use Rattle.nm_trace.proofs.reading.read_event.Goals as goal

pub returns-then-not-is_due-clause-told : goal.returns-then-not-is_due-clause-told
returns-then-not-is_due-clause-told c = λ p events due same.
    let plain : is_due c.args.note.event.what ≡ false = grind (arith, c.is_due.ensures, c.if-not-is_due.true) in
    event_passes p events c.args.text.rest.now c.args.text.number c.args.note due same plain

pub returns-in-Some-clause-told : goal.returns-in-Some-clause-told
returns-in-Some-clause-told c = λ p events due same.
    let waits : is_due c.args.note.event.what ≡ true = grind (arith, c.is_due.ensures, c.if-not-is_due.false) in
    let read = rw c.in-Some.is at c.in_ok-read.ensures.read in
    let number = rw c.in-Some.is at c.in_ok-read.ensures.number in
    let event = c.in-Some.read.0 in
    let rest = c.in-Some.read.1.rest.now in
    event_given p events c.args.text.rest.now c.args.text.number c.args.note due event rest same waits (sym read)
    ∙ ap (λ (n : ℕ). told p.ranks (tells p (events ++ event ∷ []) due) rest n) (sym number)

pub returns-in-None-clause-stops : goal.returns-in-None-clause-stops
returns-in-None-clause-stops c = λ p events due same.
    let waits : is_due c.args.note.event.what ≡ true = grind (arith, c.is_due.ensures, c.if-not-is_due.false) in
    let read = rw c.in-None.is at c.in_ok-read.ensures.read in
    rw c.fault.ensures
    (event_refused p events c.args.text.rest.now c.args.text.number c.args.note due same waits (sym read))
