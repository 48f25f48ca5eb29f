use Rattle.nm_calls.proofs.Longer.{last_next}
use Rattle.nm_calls.proofs.laws.a_call_to_come_is_next.Goals as goal

pub returns : goal.returns
returns c = last_next
