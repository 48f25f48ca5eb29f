-- Words that are not taken.
use Rattle.std.proofs.Common.{arith, inl, inr}
use Rattle.nm_verdict.proofs.EndLemmas.{not_taken_is, usage_is}
use Rattle.nm_verdict.proofs.laws.words_are_taken_or_not.Goals as goal

pub returns-clause-usage : goal.returns-clause-usage
returns-clause-usage c e done two =
    elim done [ inl short ↦ absurd (omega (arith, short.memory, two)) | inr said ↦ usage_is said.0 said.1 two ]

pub returns-clause-not_taken : goal.returns-clause-not_taken
returns-clause-not_taken c e done none =
    elim done [ inl short ↦ inr (inr short.memory) | inr said ↦ not_taken_is said.0 said.1 none ]
