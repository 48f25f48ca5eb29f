-- An edit is left out only where it changes nothing.
use Rattle.std.proofs.Common.{◌∙◌, sym}
use Rattle.std.proofs.lemmas.Bool.{false≢true}
use Rattle.nm_why.proofs.candidates.push_edit.Goals as goal

pub returns-then-not-differs-clause-kept : goal.returns-then-not-differs-clause-kept
returns-then-not-differs-clause-kept c = λ x at. at

pub returns-then-not-differs-clause-added : goal.returns-then-not-differs-clause-added
returns-then-not-differs-clause-added c = λ other is not.
    absurd (false≢true (sym c.if-not-differs.true ∙ c.differs.ensures other is not))

pub returns-clause-kept : goal.returns-clause-kept
returns-clause-kept c = c.in_ok-push.ensures.kept

pub returns-clause-added : goal.returns-clause-added
returns-clause-added c = λ other is not. c.in_ok-push.ensures.there
