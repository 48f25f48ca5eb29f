-- What is told of one report by its number.
use Rattle.std.proofs.Common.{arith, inl, inr}
use Rattle.nm_outcomes_top.proofs.EndLemmas.{told_is, weaker}
use Rattle.nm_outcomes_top.proofs.TellingLemmas.{fewer_of, no_low, traced_of}
use Rattle.nm_outcomes_top.proofs.laws.one_is_traced.Goals as goal

pub returns-clause-traced : goal.returns-clause-traced
returns-clause-traced c e done asked number taken is small =
    elim done [
      | inl short ↦ absurd (no_low e.status short.memory small)
      | inr said ↦ weaker e.input _ _ (λ bytes told. traced_of number e.status small is told)
          (told_is said.0 said.1 asked taken (elim small [ inl h ↦ inl h | inr h ↦ inr (inl h) ]))
    ]

pub returns-clause-fewer : goal.returns-clause-fewer
returns-clause-fewer c e done asked number taken is seven =
    elim done [
      | inl short ↦ absurd (omega (arith, short.memory, seven))
      | inr said ↦ weaker e.input _ _ (λ bytes told. fewer_of number e.status seven is told)
          (told_is said.0 said.1 asked taken (inr (inr (inl seven))))
    ]
