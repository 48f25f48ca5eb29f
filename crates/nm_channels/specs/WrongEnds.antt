-- The worked logs with one thing turned wrong.
use Rattle.std.specs.Prelude.{[], ◌∷◌}
use Rattle.nm_history.specs.declared.events.Happened.TheVariants.{Whole}
use Rattle.nm_history.specs.Happens.{at}
use Rattle.nm_channels.specs.LongMessage as long_message
use Rattle.nm_channels.specs.LongMessage.{body, hasty, patient, receives}
use Rattle.nm_channels.specs.Stray as stray

-- logs that break a rule: a message leaves before it was cleared; an arrival has a stamp that the packet's
-- did not raise; a piece continues out of its place; a result shows other bytes than came; a stray makes
-- a message whole
pub data WrongEnds : Type 0 where
  Hasty : WrongEnds
  Early : WrongEnds
  Displaced : WrongEnds
  OtherBytes : WrongEnds
  MadeByStray : WrongEnds

-- they keep the rule that their name tells
abbrev pub KeepRule : WrongEnds → Type 0
KeepRule Hasty = long_message.AreEnded hasty (receives 2 0 body)
KeepRule Early = long_message.AreEnded patient (receives 1 0 body)
KeepRule Displaced = long_message.AreEnded patient (receives 2 1 body)
KeepRule OtherBytes = long_message.AreEnded patient (receives 2 0 (9 ∷ []))
KeepRule MadeByStray = stray.IsSound (at 13 (Whole 3 1) ∷ [])
