-- A script is plain where no command fails the test.
use Rattle.std.proofs.Common.{sym, ◌∙◌, refl}
use Rattle.std.proofs.lemmas.Bool.{false≢true}
use Rattle.nm_types.specs.declared.scripts.Line.{Line}
use Rattle.nm_sure.specs.Plain.{is_plain}
use Rattle.nm_sure.proofs.Plainness.{none_fails, some_fails}
use Rattle.nm_sure.proofs.scripts.first_free.Goals as goal

pub returns-in-Some-clause-none : goal.returns-in-Some-clause-none
returns-in-Some-clause-none c = (
  λ no. absurd (false≢true (sym no)),
  λ plain. absurd (false≢true (sym (some_fails (λ (l : Line). is_plain l.command) c.args.script.now.lines c.in-Some.k
      (sym (rw c.as_slice.ensures at c.in-Some.ensures))) ∙ plain)),
)

pub returns-in-None-clause-none : goal.returns-in-None-clause-none
returns-in-None-clause-none c = (
  λ none. none_fails (λ (l : Line). is_plain l.command) c.args.script.now.lines
      (sym (rw c.as_slice.ensures at c.in-None.ensures)),
  λ plain. refl,
)
