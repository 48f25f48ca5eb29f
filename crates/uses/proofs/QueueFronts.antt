-- The bytes of the cells that were put and got.
use Rattle.std.proofs.Common.{◌≡◌, ◌≢◌, ℕ, suc, ◌<◌, ◌≤◌, Bool, true, false, Some, List, [], ◌∷◌, ◌++◌, length, take, get_or}
use Rattle.std.proofs.Common.{refl, sym, ap, ◌∙◌, length-append, append_assoc, drop}
use Rattle.std.proofs.lemmas.Grind.{flat_map-append}
use Rattle.std.proofs.lemmas.List.{take_more, take-append-drop}
use native.Mathlib.Decide.{dec_le, ℕ_discrete}
use Rattle.nm_chain.specs.declared.table.parcels.Parcel.{Parcel}
use Rattle.nm_chain.specs.declared.table.table.Entry.{Entry}
use Rattle.nm_chain.specs.Rule.{Load, fetched, from, if_below, put_to}
use Rattle.nm_chain.specs.Plays.{head_miss, heads_at, link_miss, with_heads, with_look, with_missed}
use Rattle.nm_chain.specs.declared.table.table.Heads.{Heads}
use Rattle.nm_chain.specs.declared.table.table.Look.TheVariants.{LinkEmpty}
use Rattle.nm_chain.specs.OwnQueues.{OwnQueue, receive_queue, free_queue}
use Rattle.nm_chain.proofs.QueueLemmas.{put_append}
use Rattle.nm_cells.proofs.NumberLemmas.{from_here, from_other}
use Rattle.uses.specs.QueueCrossings.{Gets, IsFront, Puts, SameLists, bytes_in, bytes_of}
use Rattle.uses.specs.declared.letters.Letter.{Letter}

-- a rank that put nothing put the front of any text
pub puts_none : (e : Entry Letter) (text : List ℕ) → e.put ≡ [] → e.put_box ≡ [] → Puts e text
puts_none e text none no_box = record {
  bytes = ap (λ l. bytes_in (put_to 1 l)) none ∙ ap (λ l. take (length (put_to 1 l)) text) (sym none);
  no_box = ap (put_to 1) no_box;
}

-- one more cell has the next byte
pub puts_on : (e e' : Entry Letter) (p : Parcel Letter) (text : List ℕ) (byte : ℕ) →
    e'.put ≡ e.put ++ (1, Some p) ∷ [] → e'.put_box ≡ e.put_box →
    length (put_to 1 e.put) < length text → byte ≡ get_or text (length (put_to 1 e.put)) 0 →
    p.item.byte ≡ byte → Puts e text → Puts e' text
unfolding ℕ_discrete
puts_on e e' p text byte more same low at one is =
    let xs = put_to 1 e.put in
    let grown : put_to 1 e'.put ≡ xs ++ Some p ∷ [] =
    ap (put_to 1) more ∙ put_append 1 e.put ((1, Some p) ∷ []) in
    record {
      bytes = ap bytes_in grown
          ∙ flat_map-append bytes_of xs (Some p ∷ [])
          ∙ ap (λ b. bytes_in xs ++ b ∷ []) one
          ∙ ap (λ l. l ++ byte ∷ []) is.bytes
          ∙ ap (λ b. take (length xs) text ++ b ∷ []) at
          ∙ sym (take_more text (length xs) 0 low)
          ∙ ap (λ n. take n text) (sym (length-append xs (Some p ∷ [])))
          ∙ ap (λ l. take (length l) text) (sym grown);
      no_box = ap (put_to 1) same ∙ is.no_box;
    }

-- one more cell of the rank 0 came
pub gets_more : (e e' : Entry Letter) (p : Parcel Letter) (bytes : List ℕ) → e'.got ≡ e.got ++ Some p ∷ [] → p.from ≡ 0 →
    Gets e bytes → Gets e' (bytes ++ p.item.byte ∷ [])
gets_more e e' p bytes more own is =
    ap (λ l. l ++ p.item.byte ∷ []) is
    ∙ sym (flat_map-append bytes_of (from 0 e.got) (Some p ∷ []))
    ∙ ap bytes_in (sym (from_here 0 (Some p) e.got (ap suc own)))
    ∙ ap (λ l. bytes_in (from 0 l)) (sym more)

-- one of another rank came
pub gets_other : (e e' : Entry Letter) (p : Parcel Letter) (bytes : List ℕ) → e'.got ≡ e.got ++ Some p ∷ [] → p.from ≢ 0 →
    Gets e bytes → Gets e' bytes
gets_other e e' p bytes more other is =
    is ∙ ap bytes_in (sym (from_other 0 p.from (Some p) e.got refl (λ same. other (sym same))))
    ∙ ap (λ l. bytes_in (from 0 l)) (sym more)

-- what was got is a front of what was put
pub got_front : (e g : Entry Letter) (left : List (Load Letter)) (text bytes : List ℕ) →
    put_to 1 e.put ≡ from 0 g.got ++ left → Puts e text → Gets g bytes → IsFront bytes text
got_front e g left text bytes split puts gets =
    let n = length (put_to 1 e.put) in
    record {
      rest = bytes_in left ++ drop n text;
      whole_is = sym (take-append-drop n text)
          ∙ ap (λ l. l ++ drop n text) (sym puts.bytes ∙ ap bytes_in split
          ∙ flat_map-append bytes_of (from 0 g.got) left ∙ ap (λ l. l ++ bytes_in left) (sym gets))
          ∙ append_assoc bytes (bytes_in left) (drop n text);
    }

headed : (b : OwnQueue) (x : Heads) (e : Entry Letter) → SameLists e (with_heads b x e)
headed receive_queue x e = (refl, refl, refl)
headed free_queue x e = (refl, refl, refl)

-- neither of them changes the lists
pub lists_missed : (b : OwnQueue) (e e' : Entry Letter) →
    e' ≡ with_missed b head_miss (with_heads b (heads_at 0 0) e) → SameLists e e'
lists_missed b e e' is = let same = headed b (heads_at 0 0) e in (
  ap (λ (x : Entry Letter). x.put) is ∙ same.0,
  ap (λ (x : Entry Letter). x.put_box) is ∙ same.1,
  ap (λ (x : Entry Letter). x.got) is ∙ same.2,
)

pub lists_late : (b : OwnQueue) (x : Heads) (e e' : Entry Letter) →
    e' ≡ with_look b (LinkEmpty 0) (with_missed b link_miss (with_heads b x e)) → SameLists e e'
lists_late b x e e' is = let same = headed b x e in (
  ap (λ (y : Entry Letter). y.put) is ∙ same.0,
  ap (λ (y : Entry Letter). y.put_box) is ∙ same.1,
  ap (λ (y : Entry Letter). y.got) is ∙ same.2,
)

pub puts_same : (e e' : Entry Letter) (text : List ℕ) → SameLists e e' → Puts e text → Puts e' text
puts_same e e' text same is = record {
  bytes = ap (λ l. bytes_in (put_to 1 l)) same.0 ∙ is.bytes
      ∙ ap (λ l. take (length (put_to 1 l)) text) (sym same.0);
  no_box = ap (put_to 1) same.1 ∙ is.no_box;
}

pub gets_same : (e e' : Entry Letter) (bytes : List ℕ) → SameLists e e' → Gets e bytes → Gets e' bytes
gets_same e e' bytes same is = is ∙ ap (λ l. bytes_in (from 0 l)) (sym same.2)

fetched_own : (n q : ℕ) (y : Load Letter) → q < n → fetched n q y ≡ y ∷ []
fetched_own n q y low = by (dec_le (suc q) n) where
  by : (d : Dec (suc q ≤ n)) → if_below d (y ∷ []) [] ≡ y ∷ []
  by (yes h) = refl
  by (no h) = absurd (h low)

-- a rank that takes a cell of its receive queue got what that one holds
pub got_next : (e e' : Entry Letter) (y : Load Letter) (x : Parcel Letter) → e'.got ≡ e.got ++ fetched e.ranks e.rank y →
    e.rank < e.ranks → y ≡ Some x → e'.got ≡ e.got ++ Some x ∷ []
got_next e e' y x got low is =
    got ∙ ap (λ l. e.got ++ l) (fetched_own e.ranks e.rank y low ∙ ap (λ (z : Load Letter). z ∷ []) is)
