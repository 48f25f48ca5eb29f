-- Which receive belongs to which send: the messages from one rank to another with one tag in one
-- context, and the receives that name all of these, belong to each other in order.
use Rattle.std.specs.Prelude.{ℕ, ◌==◌, Bool, ◌&&◌, Option, Some, None, option_and_then, List}
use Rattle.std.specs.Prelude.{filter, position, slice_get}
use Rattle.std.specs.Option.{option_map_or}
use Rattle.nm_types.specs.declared.messages.Peer.TheVariants as peer
use Rattle.nm_types.specs.declared.messages.TagPick.TheVariants as pick
use Rattle.nm_types.specs.declared.scripts.Command.{Command}
use Rattle.nm_types.specs.declared.scripts.Command.TheVariants.{Send, Recv}
use Rattle.nm_types.specs.declared.scripts.Line.{Line}
use Rattle.nm_types.specs.Commands.{Numbered, commands_of}
use Rattle.nm_sure.specs.Names.{started}
use Rattle.std.specs.Prelude.{false}

-- from one rank to another, with a tag and a context
pub record Channel : Type 0 where
  pub from : ℕ
  pub to : ℕ
  pub tag : ℕ
  pub ctx : ℕ

-- two channels are the same
abbrev pub is_channel : Channel → Channel → Bool
is_channel a b = a.from == b.from && a.to == b.to && a.tag == b.tag && a.ctx == b.ctx

-- the channel of a rank's send
abbrev pub send_channel : ℕ → Command → Option Channel
send_channel rank (Send to q tag ctx sync body) =
    Some (record { from = rank; to = to; tag = tag; ctx = ctx })
send_channel rank _ = None

-- the channel of a rank's receive, if it names its source and its tag
abbrev pub receive_channel : ℕ → Command → Option Channel
receive_channel rank (Recv q (peer.One from) (pick.One tag) ctx cap) =
    Some (record { from = from; to = rank; tag = tag; ctx = ctx })
receive_channel rank _ = None

-- the sends of a channel that are taken, in order
abbrev pub sends_in : List Line → Channel → List Numbered
sends_in lines k =
    filter (λ c. option_map_or (is_channel k) (send_channel k.from c.command) false)
    (started (commands_of k.from lines))

-- the receives of a channel that are taken, in order
abbrev pub receives_in : List Line → Channel → List Numbered
receives_in lines k =
    filter (λ c. option_map_or (is_channel k) (receive_channel k.to c.command) false)
    (started (commands_of k.to lines))

-- the place of the start of a line
abbrev pub place_of : ℕ → List Numbered → Option ℕ
place_of line starts = position (λ c. c.line == line) starts

-- the send that the receive of a line belongs to
abbrev pub send_for : List Line → Channel → ℕ → Option Numbered
send_for lines k line =
    option_and_then (slice_get (sends_in lines k)) (place_of line (receives_in lines k))

-- the receive that the send of a line belongs to
abbrev pub receive_for : List Line → Channel → ℕ → Option Numbered
receive_for lines k line =
    option_and_then (slice_get (receives_in lines k)) (place_of line (sends_in lines k))
