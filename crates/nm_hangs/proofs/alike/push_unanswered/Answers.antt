-- The line of the command that is next, or none.
use Rattle.std.proofs.Common.{ℕ, sym, ◌∙◌, ap}
use Rattle.std.specs.Prelude.{OnOk, Ok, Err, Result}
use Rattle.nm_explored.specs.Lines.{line_in}
use Rattle.nm_hangs.proofs.FitLemmas.{later_line, no_later_line}
use Rattle.nm_hangs.proofs.alike.push_unanswered.Goals as goal

on_ok : {X E P Q : Type 0} → (P → Q) → (r : Result X E) → OnOk r P → OnOk r Q
on_ok follows (Ok x) right = follows right
on_ok follows (Err e) right = tt

pub returns-in-Some-clause-added : goal.returns-in-Some-clause-added
returns-in-Some-clause-added c =
    on_ok
    (λ added line place number made order at.
    added line number
    (later_line c.args.lines.now c.args.i _ place c.in-Some.current line order
    (ap (λ (k : ℕ). line_in c.args.lines.now c.args.i k) (sym c.ran.ensures) ∙ sym (c.line_at.ensures c.requires.count)
    ∙ c.in-Some.is) at) made)
    c.push_started.result c.push_started.ensures.added

pub returns-in-None-clause-added : goal.returns-in-None-clause-added
returns-in-None-clause-added c line place number made order at =
    absurd
    (no_later_line c.args.lines.now c.args.i _ place line order
    (ap (λ (k : ℕ). line_in c.args.lines.now c.args.i k) (sym c.ran.ensures) ∙ sym (c.line_at.ensures c.requires.count)
    ∙ c.in-None.is) at)
