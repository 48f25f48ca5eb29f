-- What the packets that a rank took from another tell it.
use Rattle.std.specs.Prelude.{ℕ, ◌+◌, ◌-◌, Bool, if◌then◌else◌, List, [], ◌∷◌, ◌++◌, length, fold}
use Rattle.nm_types.specs.declared.packets.Packet.{Packet}
use Rattle.nm_types.specs.declared.packets.What.{What}
use Rattle.nm_types.specs.declared.packets.What.TheVariants.{Head, More, Ask, Clear}
use Rattle.nm_types.specs.declared.packets.What.TheVariants.{Withdraw, Withdrawn}

-- What is known of a rank by its packets: how many messages it announced, how many bytes the last
-- one still lacks, which messages it withdrew, which it cleared, which recalls it answered, and
-- which of these it answered as done, each in the order of the packets.
pub record Known : Type 0 where
  pub count : ℕ
  pub missing : ℕ
  pub withdrawn : List ℕ
  pub cleared : List ℕ
  pub answered : List ℕ
  pub undone : List ℕ

-- what is known where no packet came
abbrev pub nothing_known : Known
nothing_known =
    record { count = 0; missing = 0; withdrawn = []; cleared = []; answered = []; undone = [] }

-- what is known after a packet that continues its stream, with a payload of this size
abbrev pub learned : Known → What → ℕ → Known
learned known (Head tag ctx len) size =
    record known { count = known.count + 1; missing = len - size }
learned known (More n) size = record known { missing = known.missing - size }
learned known (Ask tag ctx len) size = record known { count = known.count + 1 }
learned known (Clear n) size = record known { cleared = known.cleared ++ n ∷ [] }
learned known (Withdraw n) size = record known { withdrawn = known.withdrawn ++ n ∷ [] }
learned known (Withdrawn n done) size =
    record known {
      answered = known.answered ++ n ∷ [];
      undone = if done then known.undone ++ n ∷ [] else known.undone;
    }

-- a packet that a rank took, and whether it continued its stream
pub record Taken : Type 0 where
  pub packet : Packet
  pub continued : Bool

-- what is known after one packet more: a stray tells nothing
abbrev pub known_after : Known → Taken → Known
known_after known t =
    if t.continued then learned known t.packet.what (length t.packet.payload) else known

-- what is known by the packets that a rank took from another
abbrev pub known_by : List Taken → Known
known_by packets = fold known_after nothing_known packets
