use Rattle.nm_chain.proofs.SpokenLemmas.{spoken_steps}
use Rattle.nm_chain.proofs.seats.laws.a_seat_changes_its_own_entry.Goals as goal

pub returns-clause-changes : goal.returns-clause-changes
returns-clause-changes g c =
    λ rank ledger views id e f s at same. spoken_steps rank ledger views s id e f at same
