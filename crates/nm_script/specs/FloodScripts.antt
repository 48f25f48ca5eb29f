-- The script of a flood: so many messages among the ranks of a run. All are sent, then all are
-- received, the last one first, and then each rank waits for its sends and for its receives.
use Rattle.std.specs.Prelude.{ℕ, ◌+◌, ◌*◌, ◌/◌, ◌%◌, ◌==◌, List, ◌++◌, map, reverse}
use Rattle.std.specs.List.{range_with_len}
use Rattle.nm_types.specs.declared.messages.Peer.TheVariants as peer
use Rattle.nm_types.specs.declared.messages.TagPick.TheVariants as pick
use Rattle.nm_types.specs.declared.scripts.Body.TheVariants.{Gen}
use Rattle.nm_types.specs.declared.scripts.Command.TheVariants.{Send, Recv, Wait}
use Rattle.nm_types.specs.declared.scripts.Line.{Line}
use Rattle.nm_script.specs.declared.flood.ways.Way.{Way}

-- the rank that message k comes from
abbrev pub sender : ℕ → ℕ → ℕ
sender ranks k = k % ranks

-- the rank that it goes to
abbrev pub destination : ℕ → ℕ → ℕ → ℕ
destination key ranks k = (sender ranks k + k / ranks + key) % ranks

-- both ranks of a message
abbrev pub way : ℕ → ℕ → ℕ → Way
way key ranks k = record { from = sender ranks k; to = destination key ranks k }

-- its tag
abbrev pub tag_of : ℕ → ℕ
tag_of k = k % 1000

-- its context
abbrev pub context_of : ℕ → ℕ
context_of k = k % 3

-- how many bytes it has
abbrev pub length_of : ℕ → ℕ → ℕ
length_of key k = (331 * k + 17 * key) % 2048

-- the line of its send, whose name is k; each eighth send is synchronous
abbrev pub send_line : ℕ → ℕ → ℕ → Line
send_line key ranks k =
    record {
      rank = sender ranks k;
      command =
          Send (destination key ranks k) k (tag_of k) (context_of k) (k % 8 == 7)
          (Gen (length_of key k));
    }

-- the line of its receive, whose name is 16384 + k
abbrev pub receive_line : ℕ → ℕ → ℕ → Line
receive_line key ranks k =
    record {
      rank = destination key ranks k;
      command =
          Recv (16384 + k) (peer.One (sender ranks k)) (pick.One (tag_of k)) (context_of k) 2048;
    }

-- the line in which its sender waits for the send
abbrev pub sender_waits : ℕ → ℕ → Line
sender_waits ranks k = record { rank = sender ranks k; command = Wait k }

-- the line in which its receiver waits for the receive
abbrev pub receiver_waits : ℕ → ℕ → ℕ → Line
receiver_waits key ranks k =
    record { rank = destination key ranks k; command = Wait (16384 + k) }

-- the lines of a flood, behind the line of its ranks
unfoldable pub flood_lines : ℕ → ℕ → ℕ → List Line
flood_lines key ranks messages =
    map (send_line key ranks) (range_with_len 0 messages)
    ++ map (receive_line key ranks) (reverse (range_with_len 0 messages))
    ++ map (sender_waits ranks) (range_with_len 0 messages)
    ++ map (receiver_waits key ranks) (range_with_len 0 messages)
