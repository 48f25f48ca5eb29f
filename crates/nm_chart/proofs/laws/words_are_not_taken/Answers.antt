-- Words.
use Rattle.std.proofs.Common.{arith, inl, inr}
use Rattle.nm_chart.proofs.EndLemmas.{not_taken_is, usage_is}
use Rattle.nm_chart.proofs.laws.words_are_not_taken.Goals as goal

pub returns-clause-usage : goal.returns-clause-usage
returns-clause-usage c e done two =
    elim done [ inl short ↦ absurd (omega (arith, short.memory, two)) | inr said ↦ usage_is e said.0 said.1 two ]

pub returns-clause-not_taken : goal.returns-clause-not_taken
returns-clause-not_taken c e done some =
    elim done [ inl short ↦ inr (inr short.memory) | inr said ↦ not_taken_is e said.0 said.1 some ]
