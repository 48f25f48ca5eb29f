-- What is told of a given report.
use Rattle.std.proofs.Common.{arith, inl, inr}
use Rattle.nm_outcomes_top.proofs.EndLemmas.{no_report_is, told_is, weaker}
use Rattle.nm_outcomes_top.proofs.TellingLemmas.{among_of, not_among_of}
use Rattle.nm_outcomes_top.proofs.laws.one_is_looked_up.Goals as goal

pub returns-clause-among : goal.returns-clause-among
returns-clause-among c e done asked taken is none =
    elim done [
      | inl short ↦ absurd (omega (arith, short.memory, none))
      | inr said ↦ weaker e.input _ _ (λ bytes told. among_of e.status none is told)
          (told_is said.0 said.1 asked taken (inl none))
    ]

pub returns-clause-not_among : goal.returns-clause-not_among
returns-clause-not_among c e done asked taken is eight =
    elim done [
      | inl short ↦ absurd (omega (arith, short.memory, eight))
      | inr said ↦ weaker e.input _ _ (λ bytes told. not_among_of e.status eight is told)
          (told_is said.0 said.1 asked taken (inr (inr (inr eight))))
    ]

pub returns-clause-no_report : goal.returns-clause-no_report
returns-clause-no_report c e done asked taken nine =
    elim done [
      | inl short ↦ absurd (omega (arith, short.memory, nine))
      | inr said ↦ no_report_is said.0 said.1 asked taken nine
    ]
