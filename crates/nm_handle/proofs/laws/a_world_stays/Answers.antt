-- Each is the same rank.
use Rattle.nm_handle.proofs.Beginning.{world_stays}
use Rattle.nm_handle.proofs.laws.a_world_stays.Goals as goal

pub returns : goal.returns
returns c shape old new world same = world_stays shape old new world same
