use Rattle.std.proofs.Common.{subst}
use Rattle.nm_lookups.specs.SinceAnswer.{IsSince}
use Rattle.nm_lookups.specs.declared.asked.since.Since.{Since}
use Rattle.nm_lookups.proofs.SinceLemmas.{some_since}
use Rattle.nm_lookups.proofs.asked.since.Since.is_nothing.Goals as goal

pub returns-in-Nothing : goal.returns-in-Nothing
returns-in-Nothing c = λ p h k since. subst (λ (s : Since). IsSince p h k s) c.in-Nothing.is since

pub returns-in_default : goal.returns-in_default
returns-in_default c = λ p h k since. some_since p h k c.args.self c.in_default.not-Nothing since
