use Rattle.nm_calls.proofs.Longer.{stands_longer}
use Rattle.nm_calls.proofs.laws.a_call_to_come_changes_nothing.Goals as goal

pub returns : goal.returns
returns c = stands_longer
