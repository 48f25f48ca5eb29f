use Rattle.nm_receiving.proofs.Changing.{quiet_events}
use Rattle.nm_receiving.proofs.laws.messages_stay.Goals as goal

pub returns : goal.returns
returns c = quiet_events
