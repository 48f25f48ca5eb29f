-- A rank that takes an empty message and then one that is too long for an eager one: a stray.
use Rattle.std.specs.Prelude.{false, List, [], ◌∷◌}
use Rattle.std.proofs.Math.Dec.{lit<, lit≤}
use Rattle.nm_types.specs.declared.messages.How.TheVariants.{Eager}
use Rattle.nm_types.specs.declared.packets.Packet.{Packet}
use Rattle.nm_types.specs.declared.packets.What.TheVariants as what
use Rattle.nm_history.specs.declared.events.Event.{Event}
use Rattle.nm_history.specs.declared.events.Happened.TheVariants.{Arrive, Whole, Ran}
use Rattle.nm_history.specs.Happens.{at}
use Rattle.nm_types.specs.declared.answers.Answer.TheVariants as answer
use Rattle.nm_channels.specs.Moments.{LogEntry}
use Rattle.nm_channels.specs.Moments.Cause.{Took}
use Rattle.nm_channels.specs.Sound.{AreSound}
use Rattle.nm_channels.specs.SmallLogs.{packet, acts, takes}

-- a packet that doesn't continue its stream
abbrev pub strays : Packet → List Event → LogEntry
strays p events =
    record { cause = Took (record { packet = p; continued = false }); events = events }

-- the stray makes these happen, and then a command ran
abbrev pub log : List Event → LogEntry → List LogEntry
log events later =
    takes (packet 3 0 7 (what.Head 1 0 0) [] (lit< tt) (lit≤ tt))
    (at 8
    (Arrive (record { n = 0; env = record { from = 3; tag = 1; ctx = 0; len = 0; how = Eager } }))
    ∷ at 9 (Whole 3 0) ∷ [])
    ∷ strays (packet 3 1 12 (what.Head 1 0 9) [] (lit< tt) (lit≤ tt)) events
    ∷ later ∷ []

-- a command that ran at this stamp
abbrev pub ran : List Event
ran = at 13 (Ran 2 answer.Nothing) ∷ []

-- the log is sound, with an eager limit of 8 bytes
abbrev pub IsSound : List Event → Type 0
IsSound events = AreSound 8 (λ s. []) [] (log events (acts ran))
