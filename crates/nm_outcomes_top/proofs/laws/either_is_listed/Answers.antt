-- All reports where each standard send may wait.
use Rattle.std.proofs.Common.{arith, inl, inr}
use Rattle.nm_outcomes_top.proofs.EndLemmas.{told_is, weaker}
use Rattle.nm_outcomes_top.proofs.SafeLemmas.{safe_of}
use Rattle.nm_outcomes_top.proofs.TellingLemmas.{joined_of, no_low}
use Rattle.nm_outcomes_top.proofs.laws.either_is_listed.Goals as goal

pub returns-clause-listed : goal.returns-clause-listed
returns-clause-listed c e done asked taken is small =
    elim done [
      | inl short ↦ absurd (no_low e.status short.memory small)
      | inr said ↦ weaker e.input _ _ (λ bytes told. joined_of e.status is told)
          (told_is said.0 said.1 asked taken (elim small [ inl h ↦ inl h | inr h ↦ inr (inl h) ]))
    ]

pub returns-clause-safe : goal.returns-clause-safe
returns-clause-safe c e done asked taken is none =
    elim done [
      | inl short ↦ absurd (omega (arith, short.memory, none))
      | inr said ↦ weaker e.input _ _ (λ bytes told. safe_of e.status none (joined_of e.status is told))
          (told_is said.0 said.1 asked taken (inl none))
    ]
