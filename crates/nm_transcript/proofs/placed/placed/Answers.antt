-- By the line of its call.
use Rattle.std.proofs.Common.{ℕ, Option, length, subst, sym}
use Rattle.std.specs.Prelude.{IfSome}
use Rattle.nm_history.specs.declared.events.Happened.{Happened}
use Rattle.nm_transcript.specs.Renumbered.{IsOneOf, line_of}
use Rattle.nm_transcript.proofs.PlaceLemmas.{line_given}
use Rattle.nm_transcript.proofs.placed.placed.Goals as goal

pub returns-in-None : goal.returns-in-None
returns-in-None c =
    subst (λ (o : Option ℕ). IfSome o (IsOneOf (length c.args.lines.now))) c.in-None.ensures tt

pub returns-in-Some-place_in : goal.returns-in-Some-place_in
returns-in-Some-place_in c =
    subst (λ (w : Happened). IfSome (line_of w) (IsOneOf (length c.args.lines.now))) (sym c.with_line.ensures)
    (line_given (IsOneOf (length c.args.lines.now)) c.args.what c.in-Some-place_in.place c.in-Some-place_in.ensures)
