-- A message is announced, recalled, not withdrawn, and cleared; then its one piece goes.
use Rattle.std.specs.Prelude.{List}
use Rattle.nm_types.specs.Commands.{commands_of}
use Rattle.nm_history.specs.Sends.{sent_body}
use Rattle.nm_history.specs.Outgoing.{Called, CalledPiece, outgoing, ring}
use Rattle.nm_channels.specs.ClaimedThenRecalled.{script, only}

-- the packets that the history calls for
abbrev pub packets : List Called
packets = outgoing (sent_body (commands_of 0 script)) only 0

-- the pieces that it calls for
abbrev pub pieces : List CalledPiece
pieces = ring (sent_body (commands_of 0 script)) only 0
