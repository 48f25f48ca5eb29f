-- Each is at its place.
use Rattle.nm_handle.proofs.Beginning.{world_in_order}
use Rattle.nm_handle.proofs.laws.all_in_order_are_a_world.Goals as goal

pub returns : goal.returns
returns c = world_in_order
