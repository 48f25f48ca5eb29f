use Rattle.uses.proofs.copyring.carrying.carry.Given as goal

abbrev pub ghosts-push_and_pull : goal.ghosts-push_and_pull
ghosts-push_and_pull a = record { name = a.blank.name; parts = a.blank.parts }
