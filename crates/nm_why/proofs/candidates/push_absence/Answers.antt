-- A command that may go is left out.
use Rattle.std.proofs.Common.{◌∙◌, sym}
use Rattle.std.proofs.lemmas.Bool.{false≢true}
use Rattle.nm_why.proofs.candidates.push_absence.Goals as goal

pub returns-then-not-may_go-clause-kept : goal.returns-then-not-may_go-clause-kept
returns-then-not-may_go-clause-kept c = λ x at. at

pub returns-then-not-may_go-clause-left_out : goal.returns-then-not-may_go-clause-left_out
returns-then-not-may_go-clause-left_out c = λ may.
    absurd (false≢true (sym c.if-not-may_go.true ∙ c.may_go.ensures ∙ may))

pub returns-clause-kept : goal.returns-clause-kept
returns-clause-kept c = c.in_ok-push.ensures.kept

pub returns-clause-left_out : goal.returns-clause-left_out
returns-clause-left_out c = λ may. c.in_ok-push.ensures.there
