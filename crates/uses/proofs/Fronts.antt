-- The bytes of the packets that were sent and taken.
use Rattle.std.proofs.Common.{◌≡◌, ◌≢◌, drop, ℕ, ◌+◌, ◌<◌, ◌==◌, Bool, false, cond, Some, List, [], ◌∷◌, ◌++◌}
use Rattle.std.proofs.Common.{length, take, get_or, map, refl, sym, ap, ◌∙◌, subst, arith, append_assoc, length-append}
use Rattle.std.specs.List.{slice_get}
use Rattle.std.specs.Prelude.{Result, Ok, Err, IfOk, IfErr}
use Rattle.std.proofs.lemmas.List.{map-append, take_more, take-append-drop}
use Rattle.std.proofs.lemmas.Bool.Decides.{nat_tests}
use Rattle.nm_chain.specs.declared.table.parcels.Parcel.{Parcel}
use Rattle.nm_cells.specs.declared.port.Fabric.{Fabric}
use Rattle.nm_types.specs.declared.packets.Path.{Path}
use Rattle.nm_port.specs.Polls.{Polls, PollsNone}
use Rattle.nm_port.specs.Sends.{HasNoWay, SendsBy}
use Rattle.nm_port.specs.declared.sends.Sent.{Sent}
use Rattle.nm_cells.specs.declared.port.Port.{Port}
use Rattle.nm_cells.specs.declared.closed.Closed.{Closed}
use Rattle.nm_cells.specs.PathLists.{Begins}
use Rattle.nm_cells.specs.Ports.{knows, sent_by, taken_by}
use Rattle.nm_cells.specs.ClosedLists.{entries, ranks_of, sent_list, taken_list}
use Rattle.nm_port.specs.CarriedPackets.{HasPassed, HasSent, one_more}
use Rattle.uses.specs.Crossings.{IsFront, Sends, Takes, byte_of}
use Rattle.uses.specs.declared.letters.Letter.{Letter}

abbrev pub Seen : Type 0
Seen = Parcel Letter → ℕ

-- what the laws of a send say
abbrev pub BySend : Type 0
BySend = (seen : Seen) (way : Path) (fits : Bool) (to : ℕ) (p : Parcel Letter) (old new : Port Letter) (j : ℕ)
    (bs : List ℕ) → SendsBy way fits to p old new → p.seq ≡ sent_by old to → HasSent seen (knows old) j bs →
    HasSent seen (knows new) j (one_more to j (seen p) bs)

abbrev pub ByNone : Type 0
ByNone = (seen : Seen) (fits : Bool) (to : ℕ) (old new : Port Letter) (j : ℕ) (bs : List ℕ) →
    HasNoWay fits to old new → HasSent seen (knows old) j bs → HasSent seen (knows new) j bs

-- one more parcel carries the next byte
grown : (bs text : List ℕ) (byte : ℕ) → bs ≡ take (length bs) text → length bs < length text →
    byte ≡ get_or text (length bs) 0 → bs ++ byte ∷ [] ≡ take (length (bs ++ byte ∷ [])) text
grown bs text byte is low at =
    ap (λ l. l ++ byte ∷ []) is
    ∙ ap (λ b. take (length bs) text ++ b ∷ []) at
    ∙ sym (take_more text (length bs) 0 low)
    ∙ ap (λ n. take n text) (sym (length-append bs (byte ∷ [])))

pub sends_on : BySend → ByNone → {E : Type 0} (fits : Bool) (old new : Port Letter) (p : Parcel Letter)
    (text : List ℕ) (back : E) (result : Result (Sent Letter) E) →
    IfOk result (λ s. SendsBy s.path fits 1 p old new) → IfErr result (λ y. (y ≡ back) × HasNoWay fits 1 old new) →
    p.seq ≡ sent_by old 1 → sent_by old 1 < length text → byte_of p ≡ get_or text (sent_by old 1) 0 →
    Sends (knows old) 1 text → Sends (knows new) 1 text
sends_on some none fits old new p text back (Ok it) sends no_way number low at s = record {
  bytes = s.bytes ++ byte_of p ∷ [];
  sent = some byte_of it.path fits 1 p old new 1 s.bytes sends number s.sent;
  front = grown s.bytes text (byte_of p) s.front (subst (λ n. n < length text) (sym s.sent.many) low)
      (at ∙ ap (λ n. get_or text n 0) (sym s.sent.many));
}
sends_on some none fits old new p text back (Err y) sends no_way number low at s = record {
  bytes = s.bytes;
  sent = none byte_of fits 1 old new 1 s.bytes no_way.1 s.sent;
  front = s.front;
}

-- what the laws of a poll say
abbrev pub ByPoll : Type 0
ByPoll = (seen : Seen) (f : Fabric Letter) (old new : Port Letter) (p : Parcel Letter) (i : ℕ) (bs : List ℕ) →
    Polls f old new p → HasPassed seen (knows old) (taken_by old i) i bs →
    HasPassed seen (knows new) (taken_by new i) i (one_more p.from i (seen p) bs)

abbrev pub ByNothing : Type 0
ByNothing = (seen : Seen) (old new : Port Letter) (i : ℕ) (bs : List ℕ) → PollsNone old new →
    HasPassed seen (knows old) (taken_by old i) i bs → HasPassed seen (knows new) (taken_by new i) i bs

-- the parcel of the rank 0 that a poll gave comes behind the others
pub takes_more : ByPoll → (f : Fabric Letter) (old new : Port Letter) (p : Parcel Letter) (bs : List ℕ) →
    Polls f old new p → p.from ≡ 0 → Takes old 0 bs → Takes new 0 (bs ++ byte_of p ∷ [])
takes_more law f old new p bs polls own t =
    subst (λ k. Takes new 0 (one_more k 0 (byte_of p) bs)) own (law byte_of f old new p 0 bs polls t)

-- one of another rank does not
pub takes_other : ByPoll → (f : Fabric Letter) (old new : Port Letter) (p : Parcel Letter) (bs : List ℕ) →
    Polls f old new p → p.from ≢ 0 → Takes old 0 bs → Takes new 0 bs
takes_other law f old new p bs polls other t =
    subst (λ b. Takes new 0 (cond b (bs ++ byte_of p ∷ []) bs)) (not_first p.from other)
    (law byte_of f old new p 0 bs polls t) where
      not_first : (k : ℕ) → k ≢ 0 → (k == 0) ≡ false
      not_first k ne = grind (arith, nat_tests)

-- and a poll that gave none leaves all as it was
pub takes_none : ByNothing → (old new : Port Letter) (bs : List ℕ) → PollsNone old new → Takes old 0 bs →
    Takes new 0 bs
takes_none law old new bs none t = law byte_of old new 0 bs none t

-- what was taken is a front of what was sent
pub crossed : (c : Closed Letter) (a b : Port Letter) (text bytes : List ℕ) → entries c ≡ map knows (a ∷ b ∷ []) →
    length (sent_list c 0 1) ≡ sent_by a 1 → length (taken_list c 0 1) ≡ taken_by b 0 →
    Begins (taken_list c 0 1) (sent_list c 0 1) →
    ((seen : Seen) (c : Closed Letter) (ports : List (Port Letter)) (i j : ℕ) (p : Port Letter) (bs : List ℕ) →
    entries c ≡ map knows ports → slice_get ports i ≡ Some p →
    length (sent_list c i j) ≡ sent_by p j → HasSent seen (knows p) j bs → map seen (sent_list c i j) ≡ bs) →
    ((seen : Seen) (c : Closed Letter) (ports : List (Port Letter)) (i j : ℕ) (p : Port Letter) (bs : List ℕ) →
    entries c ≡ map knows ports → slice_get ports j ≡ Some p → i < ranks_of c →
    length (taken_list c i j) ≡ taken_by p i → HasPassed seen (knows p) (taken_by p i) i bs →
    map seen (taken_list c i j) ≡ bs) →
    Sends (knows a) 1 text → Takes b 0 bytes → IsFront bytes text
crossed c a b text bytes known sent taken begins by_sent by_taken s t =
    let two : length (entries c) ≡ 2 = ap length known in
    let ss = by_sent byte_of c (a ∷ b ∷ []) 0 1 a s.bytes known refl sent s.sent in
    let ts = by_taken byte_of c (a ∷ b ∷ []) 0 1 b bytes known refl (omega arith) taken t in
    let left = map byte_of begins.0 in
    let split : s.bytes ≡ bytes ++ left = sym ss ∙ ap (map byte_of) begins.1
    ∙ map-append byte_of (taken_list c 0 1) begins.0 ∙ ap (λ l. l ++ left) ts in
    let n = length s.bytes in
    record {
      rest = left ++ drop n text;
      whole_is = sym (take-append-drop n text)
          ∙ ap (λ l. l ++ drop n text) (sym s.front ∙ split)
          ∙ append_assoc bytes left (drop n text);
    }
