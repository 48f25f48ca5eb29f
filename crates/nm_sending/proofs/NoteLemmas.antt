-- The letters that notes stand for.
use Rattle.std.proofs.Common.{◌≡◌, ℕ, zero, suc, ◌+◌, ◌<◌, ◌≤◌, ◌==◌, cond, Option, Some, None, List, []}
use Rattle.std.proofs.Common.{◌∷◌, ◌++◌, length, map, drop, refl, sym, ◌∙◌, ap, ap₂, subst, arith}
use Rattle.std.proofs.Common.{append_assoc, append-nil}
use Rattle.std.specs.Prelude.{option_to_list}
use Rattle.std.specs.List.{AllByRecursion}
use Rattle.std.specs.Coded.{le_prop}
use mathlib.Core.HLevel.{is_prop→PathP}
use Rattle.std.proofs.lemmas.List.{drop_all, drop_more}
use Rattle.std.proofs.lemmas.List.FromFn.{length-map-range_with_len}
use Rattle.std.proofs.lemmas.Option.{get_or_from_slice_get, slice_get_within}
use Rattle.nm_types.specs.declared.limits.TheConstants.{MAX_PACKETS, MAX_PAYLOAD, MAX_STAMP}
use Rattle.nm_types.specs.declared.packets.Packet.{Packet}
use Rattle.nm_types.specs.declared.packets.What.TheVariants as what
use Rattle.nm_history.specs.Outgoing.{AreCalled, Called, IsCalled, eager_packets, further_packets, part_at}
use Rattle.nm_history.specs.Sends.{Sent}
use Rattle.nm_eager.specs.Cutting.{Cutting, IsMessageOf, packet_count}
use Rattle.nm_eager.proofs.CutLemmas.{packet-at}
use Rattle.nm_sending.specs.Notes.{Bare, Cut, Matter, left_of, matter_of, to_of}
use Rattle.nm_sending.specs.declared.outbox.notes.Note.{Note}
use Rattle.nm_sending.specs.Letters.{AreNumbered, Fits, HasNext, IsRest, Letter, last_ends, letters_by, letters_in}
use Rattle.nm_sending.specs.Letters.{letters_of, message_of, next_of, payload_of, what_of}
use Rattle.nm_sending.specs.Numbers.{AreInRange, AreInRange-prop}
use Rattle.nm_types.proofs.NumberLemmas.{unequal}

-- packets with the same fields are the same
pub same_packet : (p q : Packet) → p.from ≡ q.from → p.seq ≡ q.seq → p.stamp ≡ q.stamp → p.what ≡ q.what
    → p.payload ≡ q.payload → p ≡ q
same_packet p q from seq stamp is bytes = λ i. record {
  from = from i;
  seq = seq i;
  stamp = stamp i;
  what = is i;
  payload = bytes i;
  seq_in_range = is_prop→PathP (λ j. seq j < MAX_PACKETS) (λ j. le_prop) p.seq_in_range q.seq_in_range i;
  stamp_in_range = is_prop→PathP (λ j. stamp j ≤ MAX_STAMP) (λ j. le_prop) p.stamp_in_range q.stamp_in_range i;
}

-- numbers that are in range, and the first of them and the rest
pub range_within : (number many : ℕ) → number + many ≤ MAX_PACKETS → AreInRange number many
range_within number zero within = tt
range_within number (suc more) within =
    (omega (arith, within), range_within (number + 1) more (omega (arith, within)))

pub range_first : (number many : ℕ) → 0 < many → AreInRange number many → number < MAX_PACKETS
range_first number zero some are = absurd (omega (arith, some))
range_first number (suc more) some are = are.0

pub range_rest : (number number' many more : ℕ) → more + 1 ≡ many → number' ≡ number + 1
    → AreInRange number many → AreInRange number' more
range_rest number number' zero more is next are = absurd (omega (arith, is))
range_rest number number' (suc many) more is next are =
    let same : many ≡ more = omega (arith, is) in
    subst (λ (k : ℕ). AreInRange k more) (sym next) (subst (λ (k : ℕ). AreInRange (number + 1) k) same are.1)

-- a matter that fits has a next packet, and fits after that if more than one was left
pub fits_next : (left : ℕ) (matter : Matter) → Fits left matter → 0 < left → HasNext matter
fits_next left (Bare w) fits some = tt
fits_next left (Cut cutting) fits some = omega (arith, fits, some)

pub fits_rest : (left more : ℕ) (matter : Matter) → Fits left matter → more + 1 ≡ left → 0 < more
    → Fits more (next_of matter)
fits_rest left more (Bare w) fits is some = absurd (omega (arith, fits, is, some))
fits_rest left more (Cut cutting) fits is some = omega (arith, fits, is)

-- how their numbers were shown to be in range plays no part
letters-same : (left me to seq stamp : ℕ) (matter : Matter) (n n' : AreInRange seq left) (t t' : stamp ≤ MAX_STAMP)
    → letters_by left me to seq stamp matter n t ≡ letters_by left me to seq stamp matter n' t'
letters-same left me to seq stamp matter n n' t t' =
    ap₂ (λ (a : AreInRange seq left) (b : stamp ≤ MAX_STAMP). letters_by left me to seq stamp matter a b)
    (AreInRange-prop seq left n n') (le_prop t t')

-- letters that are made of the same
pub letters-cong : (left left' me to to' seq seq' stamp stamp' : ℕ) (matter matter' : Matter)
    (n : AreInRange seq left) (t : stamp ≤ MAX_STAMP) → left' ≡ left → to' ≡ to → seq' ≡ seq → stamp' ≡ stamp
    → matter' ≡ matter → (n' : AreInRange seq' left') (t' : stamp' ≤ MAX_STAMP)
    → letters_by left' me to' seq' stamp' matter' n' t' ≡ letters_by left me to seq stamp matter n t
letters-cong left left' me to to' seq seq' stamp stamp' matter matter' n t l o s p m =
    let out = letters_by left me to seq stamp matter n t in
    subst (λ (k : ℕ). (a : AreInRange seq' k) (b : stamp' ≤ MAX_STAMP)
    → letters_by k me to' seq' stamp' matter' a b ≡ out) (sym l)
    (subst (λ (k : ℕ). (a : AreInRange seq' left) (b : stamp' ≤ MAX_STAMP)
    → letters_by left me k seq' stamp' matter' a b ≡ out) (sym o)
    (subst (λ (k : ℕ). (a : AreInRange k left) (b : stamp' ≤ MAX_STAMP)
    → letters_by left me to k stamp' matter' a b ≡ out) (sym s)
    (subst (λ (k : ℕ). (a : AreInRange seq left) (b : k ≤ MAX_STAMP)
    → letters_by left me to seq k matter' a b ≡ out) (sym p)
    (subst (λ (x : Matter). (a : AreInRange seq left) (b : stamp ≤ MAX_STAMP)
    → letters_by left me to seq stamp x a b ≡ out) (sym m)
    (λ a b. letters-same left me to seq stamp matter a n b t)))))

-- the first of some letters, and the rest
pub record First (left me to seq stamp : ℕ) (matter : Matter) (letters : List Letter) : Type 0 where
  pub letter : Letter
  pub rest : List Letter
  pub is : letters ≡ letter ∷ rest
  pub to_is : letter.to ≡ to
  pub from : letter.packet.from ≡ me
  pub number : letter.packet.seq ≡ seq
  pub stamped : letter.packet.stamp ≡ stamp
  pub same : letter.packet.what ≡ what_of matter
  pub bytes : letter.packet.payload ≡ payload_of matter
  pub ends : letter.ends ≡ cond (left == 1) (message_of matter) None

abbrev pub first_by : (left me to seq stamp : ℕ) (matter : Matter) (n : AreInRange seq left) (t : stamp ≤ MAX_STAMP)
    → 0 < left → First left me to seq stamp matter (letters_by left me to seq stamp matter n t)
first_by zero me to seq stamp matter n t some = absurd (omega (arith, some))
first_by (suc more) me to seq stamp matter n t some = record {
  letter = record {
    to = to;
    packet = record {
      from = me;
      seq = seq;
      stamp = stamp;
      what = what_of matter;
      payload = payload_of matter;
      seq_in_range = n.0;
      stamp_in_range = t;
    };
    ends = cond (suc more == 1) (message_of matter) None;
  };
  rest = letters_by more me to (seq + 1) stamp (next_of matter) n.1 t;
  is = refl;
  to_is = refl;
  from = refl;
  number = refl;
  stamped = refl;
  same = refl;
  bytes = refl;
  ends = refl;
}

-- the rest are the letters of what is left
rest_by : (left more me to seq stamp : ℕ) (matter : Matter) (n : AreInRange seq left) (t : stamp ≤ MAX_STAMP)
    → (some : 0 < left) → more + 1 ≡ left → (n' : AreInRange (seq + 1) more) (t' : stamp ≤ MAX_STAMP)
    → (first_by left me to seq stamp matter n t some).rest
    ≡ letters_by more me to (seq + 1) stamp (next_of matter) n' t'
rest_by zero more me to seq stamp matter n t some is = absurd (omega (arith, some))
rest_by (suc k) more me to seq stamp matter n t some is =
    let same : k ≡ more = omega (arith, is) in
    subst (λ (m : ℕ). (a : AreInRange (seq + 1) m) (b : stamp ≤ MAX_STAMP)
    → letters_by k me to (seq + 1) stamp (next_of matter) n.1 t
    ≡ letters_by m me to (seq + 1) stamp (next_of matter) a b) same
    (λ a b. letters-same k me to (seq + 1) stamp (next_of matter) n.1 a t b)

rest_none : (left me to seq stamp : ℕ) (matter : Matter) (n : AreInRange seq left) (t : stamp ≤ MAX_STAMP)
    → (some : 0 < left) → left ≡ 1 → (first_by left me to seq stamp matter n t some).rest ≡ []
rest_none zero me to seq stamp matter n t some one = absurd (omega (arith, some))
rest_none (suc zero) me to seq stamp matter n t some one = refl
rest_none (suc (suc k)) me to seq stamp matter n t some one = absurd (omega (arith, one))

-- the first letter of a note
abbrev pub first_of : (me : ℕ) (note : Note)
    → First (left_of note.load) me (to_of note.load) note.seq note.stamp (matter_of note.load) (letters_of me note)
first_of me note =
    first_by (left_of note.load) me (to_of note.load) note.seq note.stamp (matter_of note.load) note.numbers_in_range
    note.stamp_in_range note.some

-- the other letters are those of what is left of it
pub rest_of : (me : ℕ) (note : Note) (rest : Option Note) → IsRest note rest
    → (first_of me note).rest ≡ letters_in me (option_to_list rest)
rest_of me note None is =
    rest_none (left_of note.load) me (to_of note.load) note.seq note.stamp (matter_of note.load)
    note.numbers_in_range note.stamp_in_range
    note.some is
rest_of me note (Some r) is =
    let next = range_rest note.seq (note.seq + 1) (left_of note.load) (left_of r.load) is.3 refl
    note.numbers_in_range in
    rest_by (left_of note.load) (left_of r.load) me (to_of note.load) note.seq note.stamp (matter_of note.load)
    note.numbers_in_range note.stamp_in_range
    note.some is.3 next note.stamp_in_range
    ∙ sym (letters-cong (left_of r.load) (left_of r.load) me (to_of note.load) (to_of r.load) (note.seq + 1) r.seq
    note.stamp r.stamp (next_of (matter_of note.load))
    (matter_of r.load) next note.stamp_in_range refl is.0 is.1 is.2 is.4 r.numbers_in_range r.stamp_in_range)
    ∙ sym (append-nil (letters_of me r))

-- notes behind others
pub letters_append : (me : ℕ) (first rest : List Note)
    → letters_in me (first ++ rest) ≡ letters_in me first ++ letters_in me rest
letters_append me [] rest = refl
letters_append me (note ∷ first) rest =
    ap (λ (ls : List Letter). letters_of me note ++ ls) (letters_append me first rest)
    ∙ sym (append_assoc (letters_of me note) (letters_in me first) (letters_in me rest))

-- one note more
pub letters_push : (me : ℕ) (notes : List Note) (note : Note)
    → letters_in me (notes ++ note ∷ []) ≡ letters_in me notes ++ letters_of me note
letters_push me notes note =
    letters_append me notes (note ∷ [])
    ∙ ap (λ (ls : List Letter). letters_in me notes ++ ls) (append-nil (letters_of me note))

-- how many letters these are, whom they go to, and how they are numbered and stamped
pub many_by : (left me to seq stamp : ℕ) (matter : Matter) (n : AreInRange seq left) (t : stamp ≤ MAX_STAMP)
    → length (letters_by left me to seq stamp matter n t) ≡ left
many_by zero me to seq stamp matter n t = refl
many_by (suc more) me to seq stamp matter n t =
    let later = many_by more me to (seq + 1) stamp (next_of matter) n.1 t in omega (arith, later)

pub receiver_by : (left me to seq stamp : ℕ) (matter : Matter) (n : AreInRange seq left) (t : stamp ≤ MAX_STAMP)
    → AllByRecursion (λ l. l.to ≡ to) (letters_by left me to seq stamp matter n t)
receiver_by zero me to seq stamp matter n t = tt
receiver_by (suc more) me to seq stamp matter n t =
    (refl, receiver_by more me to (seq + 1) stamp (next_of matter) n.1 t)

pub numbered_by : (left me to seq stamp : ℕ) (matter : Matter) (n : AreInRange seq left) (t : stamp ≤ MAX_STAMP)
    → AreNumbered me seq (map (λ l. l.packet) (letters_by left me to seq stamp matter n t))
numbered_by zero me to seq stamp matter n t = tt
numbered_by (suc more) me to seq stamp matter n t =
    (refl, refl, numbered_by more me to (seq + 1) stamp (next_of matter) n.1 t)

pub stamped_by : (left me to seq stamp : ℕ) (matter : Matter) (n : AreInRange seq left) (t : stamp ≤ MAX_STAMP)
    → AllByRecursion (λ l. l.packet.stamp ≡ stamp) (letters_by left me to seq stamp matter n t)
stamped_by zero me to seq stamp matter n t = tt
stamped_by (suc more) me to seq stamp matter n t =
    (refl, stamped_by more me to (seq + 1) stamp (next_of matter) n.1 t)

-- the message leaves with the last one
pub ends_by : (left me to seq stamp : ℕ) (cutting : Cutting) (n : AreInRange seq left) (t : stamp ≤ MAX_STAMP)
    → map (λ l. l.ends) (letters_by left me to seq stamp (Cut cutting) n t) ≡ last_ends left (Some cutting.n)
ends_by zero me to seq stamp cutting n t = refl
ends_by (suc zero) me to seq stamp cutting n t = refl
ends_by (suc (suc k)) me to seq stamp cutting n t =
    ap₂ (λ (o : Option ℕ) (os : List (Option ℕ)). o ∷ os)
    (ap (λ b. cond b (Some cutting.n) None) (unequal (suc (suc k)) 1 (λ never. omega (arith, never))))
    (ends_by (suc k) me to (seq + 1) stamp (record cutting { given = cutting.given + 1 }) n.1 t)

-- the packets that are left of an eager message are those that its send calls for
module _ (s : Sent) (me to stamp : ℕ) (later : s.stamp ≤ stamp) where
  next_called : (cutting : Cutting) (seq : ℕ) (p : Packet) → IsMessageOf cutting s
      → p.from ≡ me → p.seq ≡ seq → p.stamp ≡ stamp → p.what ≡ what_of (Cut cutting)
      → p.payload ≡ payload_of (Cut cutting)
      → IsCalled me seq (record {
        stamp = s.stamp;
        what = cond (cutting.given == 0) (what.Head s.tag s.ctx s.len) (what.More s.n);
        payload = part_at MAX_PAYLOAD cutting.body cutting.given;
      }) p
  next_called cutting seq p m from number stamped is bytes = record {
    sender = from;
    numbered = number;
    later = omega (arith, later, stamped);
    same = rw (m.tag, m.ctx, m.len, m.n) is;
    bytes = bytes;
  }

  pub called_by : (left seq : ℕ) (cutting : Cutting) (n : AreInRange seq left) (t : stamp ≤ MAX_STAMP)
      → IsMessageOf cutting s → cutting.given + left ≡ packet_count cutting
      → AreCalled me seq (drop cutting.given (eager_packets s cutting.body))
      (map (λ l. l.packet) (letters_by left me to seq stamp (Cut cutting) n t))
  called_by zero seq cutting n t m all =
      let many : length (eager_packets s cutting.body) ≡ 1 + further_packets s.len = omega (
        arith,
        length-map-range_with_len {X = Called} (λ k. record {
          stamp = s.stamp;
          what = what.More s.n;
          payload = part_at MAX_PAYLOAD cutting.body k;
        }) 1 (further_packets s.len),
      ) in
      let further : further_packets s.len ≡ further_packets (length cutting.body) = ap further_packets m.len in
      subst (λ (cs : List Called). AreCalled me seq cs [])
      (sym (drop_all cutting.given (eager_packets s cutting.body) (omega (arith, many, further, all)))) tt
  called_by (suc more) seq cutting n t m all =
      let list = eager_packets s cutting.body in
      let further : further_packets s.len ≡ further_packets (length cutting.body) = ap further_packets m.len in
      let few : cutting.given < 1 + further_packets s.len = omega (arith, further, all) in
      let there = packet-at s cutting.body cutting.given few in
      let within = slice_get_within list cutting.given _ there in
      let called : Called = record {
        stamp = s.stamp;
        what = cond (cutting.given == 0) (what.Head s.tag s.ctx s.len) (what.More s.n);
        payload = part_at MAX_PAYLOAD cutting.body cutting.given;
      } in
      let split : drop cutting.given list ≡ called ∷ drop (cutting.given + 1) list =
      drop_more list cutting.given called within
      ∙ ap (λ (c : Called). c ∷ drop (cutting.given + 1) list)
      (get_or_from_slice_get list cutting.given called called there) in
      subst (λ (cs : List Called). AreCalled me seq cs
      (map (λ l. l.packet) (letters_by (suc more) me to seq stamp (Cut cutting) n t))) (sym split) (
        next_called cutting seq _ m refl refl refl refl refl,
        called_by more (seq + 1) (record cutting { given = cutting.given + 1 }) n.1 t
            (record { n = m.n; tag = m.tag; ctx = m.ctx; len = m.len }) (omega (arith, all)),
      )
