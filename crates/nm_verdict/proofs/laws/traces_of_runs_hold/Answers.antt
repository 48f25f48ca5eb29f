-- Traces of runs, and the statuses.
use Rattle.std.proofs.Common.{inl, inr}
use Rattle.nm_verdict.proofs.EndLemmas.{holds_is, status_is}
use Rattle.nm_verdict.proofs.laws.traces_of_runs_hold.Goals as goal

pub returns-clause-holds : goal.returns-clause-holds
returns-clause-holds c e done line asked written =
    elim done [
      | inl short ↦ inr (inr (inr short.memory))
      | inr said ↦ holds_is said.0 said.1 line asked written
    ]

pub returns-clause-statuses : goal.returns-clause-statuses
returns-clause-statuses c e done =
    elim done [ inl short ↦ inr (inr (inr (inr short.memory))) | inr said ↦ status_is said.0 said.1 ]
