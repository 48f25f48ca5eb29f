use Rattle.std.proofs.Common.{◌∙◌, subst}
use Rattle.nm_lookups.specs.SinceAnswer.{IsSince}
use Rattle.nm_lookups.specs.declared.asked.since.Since.{Since}
use Rattle.nm_lookups.proofs.SinceLemmas.{since_first, since_further, since_other}
use Rattle.nm_lookups.proofs.asked.since.Since.after_other.Goals as goal

pub returns-then-not-called : goal.returns-then-not-called
returns-then-not-called c = λ p h e here not is before.
    since_other p h c.args.k e here c.args.self not (is ∙ c.if-not-called.true) before

pub returns-in-Nothing : goal.returns-in-Nothing
returns-in-Nothing c = λ p h e here not is before.
    since_first p h c.args.k e here not (is ∙ c.if-not-called.false)
    (subst (λ (s : Since). IsSince p h c.args.k s) c.in-Nothing.is before)

pub returns-in_default : goal.returns-in_default
returns-in_default c = λ p h e here not is before.
    since_further p h c.args.k e here c.args.self not (is ∙ c.if-not-called.false) c.in_default.not-Nothing before
