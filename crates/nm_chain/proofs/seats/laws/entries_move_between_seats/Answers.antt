use Rattle.nm_chain.proofs.SpokenLemmas.{spoken_splits, spoken_joins}
use Rattle.nm_chain.proofs.seats.laws.entries_move_between_seats.Goals as goal

pub returns-clause-split : goal.returns-clause-split
returns-clause-split g c =
    λ rank ledger views id e es s at. spoken_splits rank ledger views s id e es at

pub returns-clause-join : goal.returns-clause-join
returns-clause-join g c = λ rank ledger views id other v w s at ne there.
    spoken_joins rank ledger views s id other v w at ne there
