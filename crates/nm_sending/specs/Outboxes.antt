-- What contracts see of an outbox, and how it goes on.
use Rattle.std.specs.Prelude.{◌≡◌, ℕ, ◌+◌, ◌-◌, ◌≤◌, Option, Some, None, List, [], ◌∷◌, ◌++◌}
use Rattle.std.specs.Prelude.{length, map, slice_index_or, slice_set}
use Rattle.std.specs.List.{AllByRecursion}
use Rattle.std.specs.Option.{option_map}
use Rattle.nm_types.specs.declared.packets.What.{What}
use Rattle.nm_history.specs.Outgoing.{AreCalled, IsCalled, bare, eager_packets}
use Rattle.nm_history.specs.Sends.{Sent}
use Rattle.nm_eager.specs.Cutting.{Cutting, IsMessageOf, packet_count}
use Rattle.nm_sending.specs.Letters.{AreLetters, Fits, Letter, last_ends, letters_in, packets_for}
use Rattle.nm_sending.specs.Notes.{left_of, matter_of}
use Rattle.nm_sending.specs.declared.outbox.notes.Note.{Note}

-- the rank, its letters in the order in which they were put, by rank how many packets were popped, and
-- for how many notes more there is room
pub record OutboxView : Type 0 where
  pub me : ℕ
  pub letters : List Letter
  pub popped : List ℕ
  pub spare : ℕ

-- how many packets to a rank were popped
abbrev pub popped_to : OutboxView → ℕ → ℕ
popped_to outbox to = slice_index_or outbox.popped to 0

-- how many packets to a rank were put: those that were popped, and those that are here
abbrev pub put_to : OutboxView → ℕ → ℕ
put_to outbox to = popped_to outbox to + length (packets_for to outbox.letters)

-- the letters stand at their numbers, the counts of those put are right, and none is above the greatest
pub record AreFields (me : ℕ) (letters : List Letter) (popped put : List ℕ) (most : ℕ) : Type 0 where
  pub lawful : AreLetters me popped letters
  pub ranks : length put ≡ length popped
  pub counts :
      (to : ℕ) →
      slice_index_or put to 0 ≡ slice_index_or popped to 0 + length (packets_for to letters)
  pub bounded : (to : ℕ) → slice_index_or put to 0 ≤ most

-- the letters of these notes are an outbox's, and each note stands for as many as are left of it
pub record AreNotes (me : ℕ) (notes : List Note) (popped put : List ℕ) (most : ℕ) : Type 0 where
  pub fields : AreFields me (letters_in me notes) popped put most
  pub fit : AllByRecursion (λ note. Fits (left_of note.load) (matter_of note.load)) notes

-- One packet without bytes was put for a rank, with its next number and this stamp. No message leaves
-- with it.
pub record PutsBare (to stamp : ℕ) (what : What) (old new : OutboxView) : Type 0 where
  pub letter : Letter
  pub outbox :
      new ≡ record old { letters = old.letters ++ letter ∷ []; spare = old.spare - 1 }
  pub receiver : letter.to ≡ to
  pub carried :
      (called : ℕ) → called ≤ stamp → IsCalled old.me (put_to old to) (bare called what) letter.packet
  pub stamped : letter.packet.stamp ≡ stamp
  pub left : letter.ends ≡ None

-- The packets of an eager message were put for its receiver, with the next numbers and this stamp. The
-- message leaves with the last one.
pub record PutsPackets (cutting : Cutting) (to stamp : ℕ) (old new : OutboxView) : Type 0 where
  pub added : List Letter
  pub outbox : new ≡ record old { letters = old.letters ++ added; spare = old.spare - 1 }
  pub receiver : AllByRecursion (λ l. l.to ≡ to) added
  pub many : length added ≡ packet_count cutting
  pub carried :
      (s : Sent) → IsMessageOf cutting s → s.stamp ≤ stamp →
      AreCalled old.me (put_to old to) (eager_packets s cutting.body) (map (λ l. l.packet) added)
  pub stamps : AllByRecursion (λ l. l.packet.stamp ≡ stamp) added
  pub left : map (λ l. l.ends) added ≡ last_ends (packet_count cutting) (Some cutting.n)

-- The first letter was popped, and this message leaves with it, if there is one: its receiver and its
-- number.
pub record Pops (ended : Option (ℕ × ℕ)) (old new : OutboxView) : Type 0 where
  pub letter : Letter
  pub letters : old.letters ≡ letter ∷ new.letters
  pub outbox :
      new
      ≡ record old {
        letters = new.letters;
        popped = slice_set old.popped letter.to (popped_to old letter.to + 1);
        spare = new.spare;
      }
  pub room : old.spare ≤ new.spare
  pub left : ended ≡ option_map (λ n. (letter.to, n)) letter.ends
