-- What is read of a source.
use Rattle.std.proofs.Common.{inl, inr}
use Rattle.nm_verdict.proofs.EndLemmas.{unless_unread}
use Rattle.nm_verdict.proofs.laws.sources_are_read.Goals as goal

pub returns-clause-read : goal.returns-clause-read
returns-clause-read c e done asked =
    elim done [
      | inl short ↦ inr (inr (inr short.memory))
      | inr said ↦ unless_unread said.0 said.1 (λ was. said.1.read.whole was asked)
    ]

pub returns-clause-quiet : goal.returns-clause-quiet
returns-clause-quiet c e done =
    elim done [
      | inl short ↦ inr (inr (inr short.memory))
      | inr said ↦ unless_unread said.0 said.1 said.1.read.quiet
    ]
