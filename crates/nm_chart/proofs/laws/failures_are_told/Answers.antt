-- Failures.
use Rattle.std.proofs.Common.{arith, inl, inr}
use Rattle.nm_chart.proofs.EndLemmas.{not_six, status_is, unread_is, unwritten_is}
use Rattle.nm_chart.proofs.laws.failures_are_told.Goals as goal

pub returns-clause-unread : goal.returns-clause-unread
returns-clause-unread c e done four =
    elim done [ inl short ↦ absurd (omega (arith, short.memory, four)) | inr said ↦ unread_is e said.0 said.1 four ]

pub returns-clause-unwritten : goal.returns-clause-unwritten
returns-clause-unwritten c e done five =
    elim done [ inl short ↦ absurd (omega (arith, short.memory, five)) | inr said ↦ unwritten_is e said.0 said.1 five ]

pub returns-clause-memory : goal.returns-clause-memory
returns-clause-memory c e done six =
    elim done [ inl short ↦ short.unsaid | inr said ↦ absurd (not_six e said.0 said.1 six) ]

pub returns-clause-statuses : goal.returns-clause-statuses
returns-clause-statuses c e done =
    elim done [ inl short ↦ inr (inr (inr (inr (inl short.memory)))) | inr said ↦ status_is e said.0 said.1 ]
