use Rattle.nm_rows.proofs.fabric.queues.misses_have_their_causes.Given as goal

abbrev pub ghosts-calls : goal.ghosts-calls
ghosts-calls g a = record { name = a.blank.name; parts = a.blank.parts }
