-- The starts of each channel as they stand in two maps, and the partner of each.
use Rattle.std.specs.Prelude.{◌≡◌, ℕ, ◌==◌, ◌&&◌, Bool, is_none, if◌then◌else◌, Option, Some, None}
use Rattle.std.specs.Prelude.{option_and_then, option_map, List, [], ◌∷◌, length, map, slice_get, take}
use Rattle.std.specs.Option.{option_map_or}
use Rattle.std.specs.HashMap.{HashMap, get}
use Rattle.std.specs.declared.vec.Vec.{Vec}
use Rattle.nm_types.specs.declared.messages.Peer.TheVariants as peer
use Rattle.nm_types.specs.declared.messages.TagPick.TheVariants as pick
use Rattle.nm_types.specs.declared.scripts.Command.{Command}
use Rattle.nm_types.specs.declared.scripts.Command.TheVariants.{Send, Recv}
use Rattle.nm_types.specs.declared.scripts.Line.{Line}
use Rattle.nm_types.specs.Commands.{Numbered}
use Rattle.nm_sure.specs.declared.partners.Way.{Way}
use Rattle.nm_sure.specs.Channels.{Channel, receives_in, sends_in}
use Rattle.nm_sure.specs.Held.{held_at}

-- two channels are the same
abbrev pub same_way : Way → Way → Bool
same_way a b = a.from == b.from && (a.to == b.to && (a.tag == b.tag && a.ctx == b.ctx))

-- the channel of a send
abbrev pub way_of_send : ℕ → Command → Option Way
way_of_send rank (Send to q tag ctx sync body) =
    Some (record { from = rank; to = to; tag = tag; ctx = ctx })
way_of_send rank _ = None

-- the channel of a line's send, if it is one
abbrev pub send_way : Line → Option Way
send_way line = way_of_send line.rank line.command

-- the channel of a receive, if it names its source and its tag
abbrev pub way_of_receive : ℕ → Command → Option Way
way_of_receive rank (Recv q (peer.One from) (pick.One tag) ctx cap) =
    Some (record { from = from; to = rank; tag = tag; ctx = ctx })
way_of_receive rank _ = None

-- the channel of a line's receive, if it is one that names its source and its tag
abbrev pub receive_way : Line → Option Way
receive_way line = way_of_receive line.rank line.command

-- the channel that the map knows so
abbrev pub channel_of : Way → Channel
channel_of w = record { from = w.from; to = w.to; tag = w.tag; ctx = w.ctx }

-- the lines of a channel in a map
abbrev pub lines_at : {A S : Type 0} → HashMap Way (Vec ℕ A) S → Way → List ℕ
lines_at starts w = option_map_or (λ lines. lines.items) (get same_way starts w) []

-- the lines of a channel's sends
abbrev pub send_lines : List Line → Way → List ℕ
send_lines lines w = map (λ (c : Numbered). c.line) (sends_in lines (channel_of w))

-- the lines of a channel's receives
abbrev pub receive_lines : List Line → Way → List ℕ
receive_lines lines w = map (λ (c : Numbered). c.line) (receives_in lines (channel_of w))

-- the maps have the starts of these lines
pub record AreAllIn {A B S T : Type 0} (sends : HashMap Way (Vec ℕ A) S) (receives : HashMap Way (Vec ℕ B) T)
    (lines : List Line) : Type 0 where
  pub sent : (w : Way) → lines_at sends w ≡ send_lines lines w
  pub taken : (w : Way) → lines_at receives w ≡ receive_lines lines w

-- the number of a line that stands in this channel
abbrev pub number_if : Way → Option Way → ℕ → List ℕ
number_if w way number =
    option_map_or (λ v. if same_way v w then number ∷ [] else []) way []

-- the place of a start behind those in two maps
abbrev pub place_in : {A B S T : Type 0} → HashMap Way (Vec ℕ A) S → HashMap Way (Vec ℕ B) T → Line → Option ℕ
place_in sends receives line =
    option_map_or (λ w. Some (length (lines_at sends w))) (send_way line)
    (option_map (λ w. length (lines_at receives w)) (receive_way line))

-- the start that the start at a place of its channel belongs to, by two maps
abbrev pub partner_in : {A B S T : Type 0} → HashMap Way (Vec ℕ A) S → HashMap Way (Vec ℕ B) T → Line → ℕ → Option ℕ
partner_in sends receives line place =
    option_map_or (λ w. slice_get (lines_at receives w) place) (send_way line)
    (option_and_then (λ w. slice_get (lines_at sends w) place) (receive_way line))

-- the place of a start behind the lines before it
abbrev pub place_for : List Line → Line → Option ℕ
place_for lines line =
    option_map_or (λ w. Some (length (send_lines lines w))) (send_way line)
    (option_map (λ w. length (receive_lines lines w)) (receive_way line))

-- the place of the start of the line at a place of the script, if it is taken
abbrev pub place_at : List Line → ℕ → Option ℕ
place_at lines k =
    if is_none (held_at lines k) then option_and_then (place_for (take k lines)) (slice_get lines k)
    else None

-- the partner of a start at a place of its channel
abbrev pub partner_for : List Line → Line → ℕ → Option ℕ
partner_for lines line place =
    option_map_or (λ w. slice_get (receive_lines lines w) place) (send_way line)
    (option_and_then (λ w. slice_get (send_lines lines w) place) (receive_way line))

-- the partner of the start at a place of the script, if it is taken and has one
abbrev pub partner_at : List Line → ℕ → Option ℕ
partner_at lines k =
    option_and_then (λ line. option_and_then (partner_for lines line) (place_at lines k)) (slice_get lines k)
