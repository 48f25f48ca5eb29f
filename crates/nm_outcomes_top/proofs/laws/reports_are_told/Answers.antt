-- What is told of all reports.
use Rattle.std.proofs.Common.{arith, inl, inr}
use Rattle.nm_outcomes_top.proofs.EndLemmas.{outgrown_is, tells_is}
use Rattle.nm_types.proofs.OptionLemmas.{if_all as always}
use Rattle.nm_outcomes_top.proofs.laws.reports_are_told.Goals as goal

pub returns-clause-lists : goal.returns-clause-lists
returns-clause-lists c e done asked taken =
    elim done [
      | inl short ↦ always e.input _ (λ bytes script report ranks lines parts spelled. inr (inr (inr short.memory)))
      | inr said ↦ tells_is c.a_text_is_a_script_or_has_a_fault.ensures.not_both said.0 said.1 asked taken
    ]

pub returns-clause-outgrown : goal.returns-clause-outgrown
returns-clause-outgrown c e done asked taken ten =
    elim done [
      | inl short ↦ absurd (omega (arith, short.memory, ten))
      | inr said ↦ outgrown_is said.0 said.1 asked taken ten
    ]
