-- The laws are lemmas.
use Rattle.nm_types.proofs.PlaceLemmas.{own, place}
use Rattle.nm_types.proofs.laws.commands_stand_at_their_lines.Goals as goal

pub returns-clause-own : goal.returns-clause-own
returns-clause-own c = own

pub returns-clause-place : goal.returns-clause-place
returns-clause-place c = place
