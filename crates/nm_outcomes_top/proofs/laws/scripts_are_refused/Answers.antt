-- Bytes that spell no script.
use Rattle.std.proofs.Common.{arith, inl, inr}
use Rattle.nm_outcomes_top.proofs.EndLemmas.{refused_is, refuses_is}
use Rattle.nm_types.proofs.OptionLemmas.{if_all as always}
use Rattle.nm_outcomes_top.proofs.laws.scripts_are_refused.Goals as goal

pub returns-clause-refused : goal.returns-clause-refused
returns-clause-refused c e done asked taken three =
    elim done [
      | inl short ↦ absurd (omega (arith, short.memory, three))
      | inr said ↦ refused_is said.0 said.1 asked taken three
    ]

pub returns-clause-refuses : goal.returns-clause-refuses
returns-clause-refuses c e done asked taken =
    elim done [
      | inl short ↦ always e.input _ (λ bytes script report line kind parts first. inr (inr (inr short.memory)))
      | inr said ↦
          refuses_is c.a_text_is_a_script_or_has_a_fault.ensures.not_both said.0 said.1 asked taken
    ]
