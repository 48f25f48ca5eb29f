use Rattle.nm_eager.proofs.StreamLemmas.{messages_joined}
use Rattle.nm_eager.proofs.laws.streams_have_their_messages.Goals as goal

pub returns : goal.returns
returns c = messages_joined
