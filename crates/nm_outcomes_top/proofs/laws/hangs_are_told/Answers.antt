-- What is told of hangs.
use Rattle.std.proofs.Common.{arith, inl, inr}
use Rattle.nm_outcomes_top.proofs.EndLemmas.{told_is, weaker}
use Rattle.nm_outcomes_top.proofs.TellingLemmas.{hang_of, no_hang_of}
use Rattle.nm_outcomes_top.proofs.laws.hangs_are_told.Goals as goal

pub returns-clause-hangs : goal.returns-clause-hangs
returns-clause-hangs c e done asked taken is one =
    elim done [
      | inl short ↦ absurd (omega (arith, short.memory, one))
      | inr said ↦ weaker e.input _ _ (λ bytes told. hang_of e.status one is told)
          (told_is said.0 said.1 asked taken (inr (inl one)))
    ]

pub returns-clause-none : goal.returns-clause-none
returns-clause-none c e done asked taken is none =
    elim done [
      | inl short ↦ absurd (omega (arith, short.memory, none))
      | inr said ↦ weaker e.input _ _ (λ bytes told. no_hang_of e.status none is told)
          (told_is said.0 said.1 asked taken (inl none))
    ]
