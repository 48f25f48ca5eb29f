-- Each is refuted by the rule that it breaks.
use Rattle.nm_channels.proofs.LongMessage as long_message
use Rattle.nm_channels.proofs.Stray as stray
use Rattle.nm_channels.specs.WrongEnds.WrongEnds.{Displaced, Early, Hasty, MadeByStray, OtherBytes}
use Rattle.nm_channels.proofs.worked_channels.wrong_ends.Goals as goal

pub returns : goal.returns
returns c Hasty = long_message.not_hasty
returns c Early = long_message.not_early
returns c Displaced = long_message.not_displaced
returns c OtherBytes = long_message.not_other_bytes
returns c MadeByStray = stray.makes_nothing
