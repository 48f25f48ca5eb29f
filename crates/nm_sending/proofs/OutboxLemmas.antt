-- How an outbox goes on.
use Rattle.std.proofs.Common.{◌≡◌, ℕ, ◌+◌, ◌-◌, ◌<◌, ◌≤◌, ◌==◌, Bool, true, false, cond, Bor, Option, Some, None}
use Rattle.std.proofs.Common.{List, []}
use Rattle.std.proofs.Common.{◌∷◌, ◌++◌, length, map, drop, get_or, refl, sym, ◌∙◌, ap, ap₂, subst, arith, max}
use Rattle.std.proofs.Common.{slice_get}
use Rattle.std.specs.Prelude.{option_to_list, IsSome, MatchOption}
use Rattle.std.specs.List.{AllByRecursion}
use Rattle.std.specs.Option.{option_map}
use Rattle.std.proofs.Math.ListN.{set}
use Rattle.nm_types.specs.declared.packets.Packet.{Packet}
use Rattle.nm_types.specs.declared.packets.What.{What}
use Rattle.nm_history.specs.Outgoing.{AreCalled, Called, eager_packets}
use Rattle.nm_history.specs.Sends.{Sent}
use Rattle.nm_eager.specs.Cutting.{Cutting, IsMessageOf, packet_count}
use Rattle.nm_sending.specs.Notes.{Bare, Cut, Matter, left_of, matter_of, to_of}
use Rattle.nm_sending.specs.declared.outbox.notes.Note.{Note}
use Rattle.nm_sending.specs.Letters.{Fits, IsRest, Letter, last_ends, letters_by, letters_in, letters_of}
use Rattle.nm_sending.specs.Letters.{message_of, packets_for, payload_of, what_of}
use Rattle.nm_sending.specs.Outboxes.{AreFields, AreNotes, OutboxView, Pops, PutsBare, PutsPackets, put_to}
use Rattle.nm_sending.proofs.LetterLemmas.{fields-more, fields-pop, number_first}
use Rattle.nm_sending.proofs.NoteLemmas.{First, called_by, ends_by, first_of, fits_rest, letters_append}
use Rattle.nm_sending.proofs.NoteLemmas.{letters_push, many_by, numbered_by, receiver_by, rest_of, same_packet}
use Rattle.nm_sending.proofs.NoteLemmas.{stamped_by}
use Rattle.nm_types.proofs.ListLemmas.{all_push}

-- the notes of a new outbox
pub notes-none : (me n : ℕ) (notes : List Note) (popped put : List ℕ) (most : ℕ) → notes ≡ []
    → AreFields me [] popped put most → AreNotes me notes popped put most
notes-none me n notes popped put most none fields = rw none (record { fields = fields; fit = tt })

-- the notes after one more
pub notes-put : (me : ℕ) (notes : List Note) (popped put : List ℕ) (most : ℕ) (note : Note) (last : ℕ)
    → AreNotes me notes popped put most → to_of note.load < length popped
    → note.seq ≡ get_or popped (to_of note.load) 0 + length (packets_for (to_of note.load) (letters_in me notes))
    → Fits (left_of note.load) (matter_of note.load) → last ≡ note.seq + left_of note.load
    → AreNotes me (notes ++ note ∷ []) popped (set put (to_of note.load) last) (max most last)
notes-put me notes popped put most note last are inside next fits is =
    subst (λ (k : ℕ). AreNotes me (notes ++ note ∷ []) popped (set put (to_of note.load) k) (max most k)) (sym is)
    (record {
      fields = subst (λ (ls : List Letter). AreFields me ls popped
          (set put (to_of note.load) (note.seq + left_of note.load))
          (max most (note.seq + left_of note.load))) (sym (letters_push me notes note))
          (fields-more me (letters_in me notes) popped put most are.fields (letters_of me note) (to_of note.load)
          note.seq (left_of note.load) inside
          (receiver_by (left_of note.load) me (to_of note.load) note.seq note.stamp (matter_of note.load)
          note.numbers_in_range note.stamp_in_range)
          (numbered_by (left_of note.load) me (to_of note.load) note.seq note.stamp (matter_of note.load)
          note.numbers_in_range note.stamp_in_range)
          (many_by (left_of note.load) me (to_of note.load) note.seq note.stamp (matter_of note.load)
          note.numbers_in_range note.stamp_in_range)
          next);
      fit = all_push (λ (x : Note). Fits (left_of x.load) (matter_of x.load)) notes note are.fit fits;
    })

-- what is seen of an outbox after one note more
pub view-put : (old : OutboxView) (me : ℕ) (notes notes' : List Note) (popped : List ℕ) (spare spare' : ℕ)
    (note : Note)
    → ◌≡◌ {A = OutboxView} (record { me = me; letters = letters_in me notes; popped = popped; spare = spare }) old
    → notes' ≡ notes ++ note ∷ [] → spare' ≡ spare - 1
    → ◌≡◌ {A = OutboxView} (record { me = me; letters = letters_in me notes'; popped = popped; spare = spare' })
    (record old { letters = old.letters ++ letters_of old.me note; spare = old.spare - 1 })
view-put old me notes notes' popped spare spare' note view items room =
    let new : OutboxView = record { me = me; letters = letters_in me notes'; popped = popped; spare = spare' } in
    subst (λ (o : OutboxView). new
    ≡ record o { letters = o.letters ++ letters_of o.me note; spare = o.spare - 1 }) view
    (ap₂ (λ (ls : List Letter) (k : ℕ). record { me = me; letters = ls; popped = popped; spare = k })
    (ap (λ (ns : List Note). letters_in me ns) items ∙ letters_push me notes note) room)

-- what a packet without bytes puts
pub bare_put : (to stamp : ℕ) (w : What) (old new : OutboxView) (note : Note) → to_of note.load ≡ to
    → note.seq ≡ put_to old to → note.stamp ≡ stamp → left_of note.load ≡ 1 → matter_of note.load ≡ Bare w
    → new ≡ record old { letters = old.letters ++ letters_of old.me note; spare = old.spare - 1 }
    → PutsBare to stamp w old new
bare_put to stamp w old new note to_is number stamped one is put =
    let first = first_of old.me note in
    let rest = rest_of old.me note None one in
    let whole : letters_of old.me note ≡ first.letter ∷ [] =
    first.is ∙ ap (λ (ls : List Letter). first.letter ∷ ls) rest in
    record {
      letter = first.letter;
      outbox = put ∙ ap (λ (ls : List Letter). record old { letters = old.letters ++ ls; spare = old.spare - 1 })
          whole;
      receiver = first.to_is ∙ to_is;
      carried = λ called before. record {
        sender = first.from;
        numbered = first.number ∙ number;
        later = let at = first.stamped ∙ stamped in omega (arith, at, before);
        same = first.same ∙ ap (λ (m : Matter). what_of m) is;
        bytes = first.bytes ∙ ap (λ (m : Matter). payload_of m) is;
      };
      stamped = first.stamped ∙ stamped;
      left = first.ends ∙ ap (λ (m : Matter). cond (left_of note.load == 1) (message_of m) None) is
          ∙ by_test (left_of note.load == 1);
    }
  where
    by_test : (b : Bool) → ◌≡◌ {A = Option ℕ} (cond b None None) None
    by_test true = refl
    by_test false = refl

-- what an eager message puts
module _ (cutting : Cutting) (to stamp : ℕ) (old new : OutboxView) (note : Note) (to_is : to_of note.load ≡ to)
    (number : note.seq ≡ put_to old to) (stamped : note.stamp ≡ stamp)
    (all : left_of note.load ≡ packet_count cutting) (is : matter_of note.load ≡ Cut cutting)
    (none : cutting.given ≡ 0)
    (put : new ≡ record old { letters = old.letters ++ letters_of old.me note; spare = old.spare - 1 }) where
  called : (s : Sent) → IsMessageOf cutting s → s.stamp ≤ stamp
      → AreCalled old.me (put_to old to) (eager_packets s cutting.body)
      (map (λ l. l.packet) (letters_of old.me note))
  called s m later =
      let list = eager_packets s cutting.body in
      let whole : drop cutting.given list ≡ list = ap (λ (k : ℕ). drop k list) none in
      subst (λ (k : ℕ). AreCalled old.me k list (map (λ l. l.packet) (letters_of old.me note))) number
      (subst (λ (x : Matter). AreCalled old.me note.seq list (map (λ l. l.packet)
      (letters_by (left_of note.load) old.me (to_of note.load) note.seq note.stamp x note.numbers_in_range
      note.stamp_in_range)))
      (sym is)
      (subst (λ (cs : List Called). AreCalled old.me note.seq cs (map (λ l. l.packet)
      (letters_by (left_of note.load) old.me (to_of note.load) note.seq note.stamp (Cut cutting) note.numbers_in_range
      note.stamp_in_range))) whole
      (called_by s old.me (to_of note.load) note.stamp (omega (arith, later, stamped)) (left_of note.load) note.seq
      cutting
      note.numbers_in_range note.stamp_in_range m (omega (arith, none, all)))))

  pub message_put : PutsPackets cutting to stamp old new
  message_put = record {
    added = letters_of old.me note;
    outbox = put;
    receiver = subst (λ (k : ℕ). AllByRecursion (λ l. l.to ≡ k) (letters_of old.me note)) to_is
        (receiver_by (left_of note.load) old.me (to_of note.load) note.seq note.stamp (matter_of note.load)
        note.numbers_in_range note.stamp_in_range);
    many = many_by (left_of note.load) old.me (to_of note.load) note.seq note.stamp (matter_of note.load)
        note.numbers_in_range note.stamp_in_range ∙ all;
    carried = called;
    stamps = subst (λ (k : ℕ). AllByRecursion (λ l. l.packet.stamp ≡ k) (letters_of old.me note)) stamped
        (stamped_by (left_of note.load) old.me (to_of note.load) note.seq note.stamp (matter_of note.load)
        note.numbers_in_range note.stamp_in_range);
    left = subst (λ (x : Matter). map (λ l. l.ends) (letters_by (left_of note.load) old.me (to_of note.load) note.seq
        note.stamp x note.numbers_in_range note.stamp_in_range) ≡ last_ends (left_of note.load) (Some cutting.n))
        (sym is)
        (ends_by (left_of note.load) old.me (to_of note.load) note.seq note.stamp cutting note.numbers_in_range
        note.stamp_in_range)
        ∙ ap (λ (k : ℕ). last_ends k (Some cutting.n)) all;
  }

-- where there is a letter there is a note
pub some_note : (me : ℕ) (notes : List Note) → 0 < length (letters_in me notes) → 0 < length notes
some_note me [] some = some
some_note me (note ∷ notes) some = omega arith

-- the first note, and those behind it
pub first_note : (notes : List Note) (o : Option (Bor Note)) (x : Bor Note) → o ≡ Some x
    → (IsSome o → 0 < length notes) → x.now ≡ get_or notes 0 x.now
    → (tail : List Note) × (notes ≡ x.now ∷ tail)
first_note [] o x is some read = absurd (let no = some (rw is refl) in omega (arith, no))
first_note (note ∷ notes) o x is some read = (notes, ap (λ (y : Note). y ∷ notes) (sym read))

-- the first note pops its first letter
module _ (me : ℕ) (notes : List Note) (note : Note) (tail : List Note) (rest : Option Note)
    (popped put : List ℕ) (most : ℕ) (are : AreNotes me notes popped put most) (split : notes ≡ note ∷ tail) where
  pub first_fits : Fits (left_of note.load) (matter_of note.load)
  first_fits = (subst (λ (ns : List Note). AllByRecursion (λ (x : Note). Fits (left_of x.load) (matter_of x.load))
      ns) split are.fit).0

  abbrev pub first : First (left_of note.load) me (to_of note.load) note.seq note.stamp (matter_of note.load)
      (letters_of me note)
  first = first_of me note

  -- the letters, the first one and the others
  pub letters_split : letters_in me notes ≡ first.letter ∷ (first.rest ++ letters_in me tail)
  letters_split =
      ap (λ (ns : List Note). letters_in me ns) split
      ∙ ap (λ (ls : List Letter). ls ++ letters_in me tail) first.is

  fields : AreFields me (first.letter ∷ (first.rest ++ letters_in me tail)) popped put most
  fields = subst (λ (ls : List Letter). AreFields me ls popped put most) letters_split are.fields

  pub first_inside : to_of note.load < length popped
  first_inside = subst (λ (k : ℕ). k < length popped) first.to_is fields.lawful.in_range.0

  pub first_number : note.seq ≡ get_or popped (to_of note.load) 0
  first_number =
      sym first.number ∙ number_first me first.letter (first.rest ++ letters_in me tail) popped put most fields
      ∙ ap (λ (k : ℕ). get_or popped k 0) first.to_is

  module _ (is : IsRest note rest) where
    pub others : first.rest ++ letters_in me tail ≡ letters_in me (option_to_list rest ++ tail)
    others =
        ap (λ (ls : List Letter). ls ++ letters_in me tail) (rest_of me note rest is)
        ∙ sym (letters_append me (option_to_list rest) tail)

    fit : AllByRecursion (λ (x : Note). Fits (left_of x.load) (matter_of x.load)) (option_to_list rest ++ tail)
    fit = fit_by rest is
        (subst (λ (ns : List Note). AllByRecursion (λ (x : Note). Fits (left_of x.load) (matter_of x.load)) ns) split
        are.fit).1
      where
        fit_by : (o : Option Note) → IsRest note o
            → AllByRecursion (λ (x : Note). Fits (left_of x.load) (matter_of x.load)) tail
            → AllByRecursion (λ (x : Note). Fits (left_of x.load) (matter_of x.load)) (option_to_list o ++ tail)
        fit_by None one each = each
        fit_by (Some r) i each = (
          subst (λ (m : Matter). Fits (left_of r.load) m) (sym i.4)
              (fits_rest (left_of note.load) (left_of r.load) (matter_of note.load) first_fits i.3 r.some),
          each,
        )

    pub notes-pop : AreNotes me (option_to_list rest ++ tail) (set popped (to_of note.load) (note.seq + 1)) put most
    notes-pop = record {
      fields = subst (λ (ls : List Letter). AreFields me ls (set popped (to_of note.load) (note.seq + 1)) put most)
          others
          (subst (λ (k : ℕ). AreFields me (first.rest ++ letters_in me tail) (set popped k (note.seq + 1)) put most)
          first.to_is
          (subst (λ (k : ℕ). AreFields me (first.rest ++ letters_in me tail)
          (set popped first.letter.to (k + 1)) put most)
          first.number
          (fields-pop me first.letter (first.rest ++ letters_in me tail) popped put most fields)));
      fit = fit;
    }

    pub pops_first : (spare spare' : ℕ) (notes' : List Note) (ended : Option (ℕ × ℕ))
        → notes' ≡ option_to_list rest ++ tail → spare ≤ spare'
        → ended ≡ cond (left_of note.load == 1)
        (option_map (λ n. (to_of note.load, n)) (message_of (matter_of note.load))) None
        → Pops ended (record { me = me; letters = letters_in me notes; popped = popped; spare = spare })
        (record {
          me = me;
          letters = letters_in me notes';
          popped = set popped (to_of note.load) (note.seq + 1);
          spare = spare';
        })
    pops_first spare spare' notes' ended now room is_ended = record {
      letter = first.letter;
      letters = letters_split
          ∙ ap (λ (ls : List Letter). first.letter ∷ ls)
          (others ∙ ap (λ (ns : List Note). letters_in me ns) (sym now));
      outbox = ap (λ (ps : List ℕ). record { me = me; letters = letters_in me notes'; popped = ps; spare = spare' })
          (ap₂ (λ (a b : ℕ). set popped a (b + 1)) (sym first.to_is)
          (first_number ∙ ap (λ (k : ℕ). get_or popped k 0) (sym first.to_is)));
      room = room;
      left = is_ended ∙ by_map (left_of note.load == 1) (to_of note.load) (message_of (matter_of note.load))
          ∙ ap₂ (λ (k : ℕ) (o : Option ℕ). option_map {U = ℕ × ℕ} (λ n. (k, n)) o) (sym first.to_is) (sym first.ends);
    } where
      by_map : (b : Bool) (to : ℕ) (m : Option ℕ)
          → cond b (option_map {U = ℕ × ℕ} (λ n. (to, n)) m) None ≡ option_map (λ n. (to, n)) (cond b m None)
      by_map true to m = refl
      by_map false to m = refl

  -- a packet that is made of the first note is the first letter's
  pub front_first : (N : Type 0) (p : Packet) → p.from ≡ me → p.seq ≡ note.seq → p.stamp ≡ note.stamp
      → p.what ≡ what_of (matter_of note.load) → p.payload ≡ payload_of (matter_of note.load)
      → MatchOption (slice_get (letters_in me notes) 0) N
      (λ letter. (to_of note.load ≡ letter.to) × (p ≡ letter.packet))
  front_first N p from number stamped is bytes =
      subst (λ (ls : List Letter). MatchOption (slice_get ls 0) N (λ letter. (to_of note.load ≡ letter.to)
      × (p ≡ letter.packet))) (sym letters_split) (
        sym first.to_is,
        same_packet p first.letter.packet (from ∙ sym first.from) (number ∙ sym first.number)
            (stamped ∙ sym first.stamped) (is ∙ sym first.same) (bytes ∙ sym first.bytes),
      )

  pub front_goes : (N : Type 0) → MatchOption (slice_get (letters_in me notes) 0) N
      (λ letter. to_of note.load ≡ letter.to)
  front_goes N =
      subst (λ (ls : List Letter). MatchOption (slice_get ls 0) N (λ letter. to_of note.load ≡ letter.to))
      (sym letters_split) (sym first.to_is)

-- where there is no note there is no letter
pub no_notes : (me : ℕ) (notes : List Note) (A : Type 0) (Q : Letter → Type 0) → (0 < length notes → ⊥) → A
    → MatchOption (slice_get (letters_in me notes) 0) A Q
no_notes me [] A Q none here = here
no_notes me (note ∷ notes) A Q none here = absurd (none (omega arith))

pub at_most_one : (o : Option Note) → length (option_to_list o) ≤ 1
at_most_one None = omega arith
at_most_one (Some note) = omega arith
