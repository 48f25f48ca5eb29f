-- Traces, and bytes that are none.
use Rattle.std.proofs.Common.{arith, inl, inr}
use Rattle.nm_chart.proofs.EndLemmas.{draws_is, refused_is, refuses_is}
use Rattle.nm_types.proofs.OptionLemmas.{if_all as always}
use Rattle.nm_chart.proofs.laws.traces_are_drawn_or_refused.Goals as goal

pub returns-clause-refused : goal.returns-clause-refused
returns-clause-refused c e done nine =
    elim done [ inl short ↦ absurd (omega (arith, short.memory, nine)) | inr said ↦ refused_is e said.0 said.1 nine ]

pub returns-clause-refuses : goal.returns-clause-refuses
returns-clause-refuses c e done none =
    elim done [
      | inl short ↦ always e.input _ (λ bytes line bad. inr (inr (inr short.memory)))
      | inr said ↦ refuses_is e said.0 said.1 none
    ]

pub returns-clause-draws : goal.returns-clause-draws
returns-clause-draws c e done none =
    elim done [
      | inl short ↦ always e.input _ (λ bytes run trace. inr (inr (inr short.memory)))
      | inr said ↦ draws_is e said.0 said.1 none
    ]
