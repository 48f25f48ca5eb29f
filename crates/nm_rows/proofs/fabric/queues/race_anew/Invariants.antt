use Rattle.nm_rows.proofs.fabric.queues.race_anew.Given as goal

abbrev pub ghosts-counted_race-L-Ledger : goal.ghosts-counted_race-L-Ledger
ghosts-counted_race-L-Ledger a = record { name = a.a_blank.name; parts = a.a_blank.parts }

abbrev pub ghosts-counted_race-M-Ledger : goal.ghosts-counted_race-M-Ledger
ghosts-counted_race-M-Ledger a = record { name = a.b_blank.name; parts = a.b_blank.parts }
