-- What stands in an outbox: letters, as notes stand for them.
use Rattle.std.specs.Prelude.{◌≡◌, ℕ, zero, suc, ◌+◌, ◌<◌, ◌≤◌, ◌==◌, Option, Some, None, List, [], ◌∷◌, ◌++◌}
use Rattle.std.specs.Prelude.{filter, length, map, MatchOption, if◌then◌else◌, slice_index_or, replicate}
use Rattle.std.specs.List.{AllByRecursion}
use Rattle.nm_types.specs.declared.limits.TheConstants.{MAX_PAYLOAD, MAX_STAMP}
use Rattle.nm_types.specs.declared.packets.Packet.{Packet}
use Rattle.nm_types.specs.declared.packets.What.{What}
use Rattle.nm_history.specs.Outgoing.{part_at}
use Rattle.nm_eager.specs.Cutting.{next_what, packet_count}
use Rattle.nm_sending.specs.Numbers.{AreInRange}
use Rattle.nm_sending.specs.Notes.{Bare, Cut, Matter, left_of, matter_of, to_of}
use Rattle.nm_sending.specs.declared.outbox.notes.Note.{Note}

-- a packet with the rank that it goes to, and the number of the eager message whose last packet it is, if
-- it is one's
pub record Letter : Type 0 where
  pub to : ℕ
  pub packet : Packet
  pub ends : Option ℕ

-- the packets to a rank, in order
abbrev pub packets_for : ℕ → List Letter → List Packet
packets_for to letters = map (λ l. l.packet) (filter (λ l. l.to == to) letters)

-- the packets are of this rank, with the numbers from this one on
abbrev pub AreNumbered : ℕ → ℕ → List Packet → Type 0
AreNumbered from number [] = Unit {0}
AreNumbered from number (p ∷ packets) =
    (p.from ≡ from) × (p.seq ≡ number) × AreNumbered from (number + 1) packets

-- The letters go to ranks of the run, and the packets to each rank are of this rank, numbered on from
-- those that were popped.
pub record AreLetters (from : ℕ) (popped : List ℕ) (letters : List Letter) : Type 0 where
  pub in_range : AllByRecursion (λ l. l.to < length popped) letters
  pub numbered :
      (to : ℕ) → AreNumbered from (slice_index_or popped to 0) (packets_for to letters)

-- what the next packet is
abbrev pub what_of : Matter → What
what_of (Bare what) = what
what_of (Cut cutting) = next_what cutting

-- the bytes of the next packet
abbrev pub payload_of : Matter → List ℕ
payload_of (Bare what) = []
payload_of (Cut cutting) = part_at MAX_PAYLOAD cutting.body cutting.given

-- the number of the eager message, if it is one
abbrev pub message_of : Matter → Option ℕ
message_of (Bare what) = None
message_of (Cut cutting) = Some cutting.n

-- what is left after the next packet
abbrev pub next_of : Matter → Matter
next_of (Bare what) = Bare what
next_of (Cut cutting) = Cut (record cutting { given = cutting.given + 1 })

-- there is a next packet
abbrev pub HasNext : Matter → Type 0
HasNext (Bare what) = Unit {0}
HasNext (Cut cutting) = cutting.given < packet_count cutting

-- so many packets are left: one without bytes, or those of the message that were not given
abbrev pub Fits : ℕ → Matter → Type 0
Fits left (Bare what) = left ≡ 1
Fits left (Cut cutting) = cutting.given + left ≡ packet_count cutting

-- the letters of so many packets of a rank to another, with numbers from this one on and this stamp: the
-- message leaves with the last one
abbrev pub letters_by :
    (left me to seq stamp : ℕ) → Matter → AreInRange seq left → stamp ≤ MAX_STAMP → List Letter
letters_by zero me to seq stamp matter numbers in_time = []
letters_by (suc more) me to seq stamp matter numbers in_time =
    record {
      to = to;
      packet = record {
        from = me;
        seq = seq;
        stamp = stamp;
        what = what_of matter;
        payload = payload_of matter;
        seq_in_range = numbers.0;
        stamp_in_range = in_time;
      };
      ends = if suc more == 1 then message_of matter else None;
    }
    ∷ letters_by more me to (seq + 1) stamp (next_of matter) numbers.1 in_time

-- the letters that a note of a rank stands for
abbrev pub letters_of : ℕ → Note → List Letter
letters_of me note =
    letters_by (left_of note.load) me (to_of note.load) note.seq note.stamp (matter_of note.load) note.numbers_in_range
    note.stamp_in_range

-- the letters that notes of a rank stand for, in order
abbrev pub letters_in : ℕ → List Note → List Letter
letters_in me [] = []
letters_in me (note ∷ notes) = letters_of me note ++ letters_in me notes

-- this is what is left of a note after its first packet, if there are more
abbrev pub IsRest : Note → Option Note → Type 0
IsRest note rest =
    MatchOption rest (left_of note.load ≡ 1) (λ r. (to_of r.load ≡ to_of note.load) × (r.seq ≡ note.seq + 1)
    × (r.stamp ≡ note.stamp) × (left_of r.load + 1 ≡ left_of note.load)
    × (matter_of r.load ≡ next_of (matter_of note.load)))

-- the messages that leave with so many letters: this one, if there is one, with the last, and none with
-- those before it
abbrev pub last_ends : ℕ → Option ℕ → List (Option ℕ)
last_ends zero ends = []
last_ends (suc before) ends = replicate before None ++ ends ∷ []
