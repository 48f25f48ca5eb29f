-- What a port knows, from one step to the next.
use Rattle.std.proofs.Common.{◌≡◌, ℕ, zero, suc, ◌+◌, ◌<◌, ◌≤◌, Bool, true, false, List, [], ◌∷◌, ◌++◌}
use Rattle.std.proofs.Common.{length, length-append, set, Some, refl, sym, ap, ◌∙◌, subst, arith}
use Rattle.std.proofs.Common.{⊎_elim}
use Rattle.std.specs.Prelude.{slice_index}
use native.Mathlib.Decide.{dec_le}
use Rattle.nm_types.specs.declared.packets.Packet.{Packet}
use Rattle.nm_chain.specs.declared.table.table.Entry.{Entry}
use Rattle.nm_chain.specs.declared.table.parcels.Parcel.{Parcel}
use Rattle.nm_chain.specs.declared.table.table.Heads.{Heads}
use Rattle.nm_chain.specs.declared.table.table.Misses.{Misses}
use Rattle.nm_chain.specs.Rule.{Load, if_below, put_to, sent_to}
use Rattle.nm_chain.specs.Plays.{missed_of, raised, with_box_full, with_filling, with_heads, with_put, with_put_box}
use Rattle.nm_chain.specs.Plays.{heads_at, heads_of, head_miss, link_miss, with_look, with_missed}
use Rattle.nm_chain.specs.declared.table.table.Look.TheVariants.{Fresh, LinkEmpty}
use Rattle.nm_chain.specs.OwnQueues.{OwnQueue, receive_queue, free_queue}
use Rattle.nm_chain.proofs.QueueLemmas.{put_append}
use Rattle.nm_port.proofs.PollLemmas.{map_later}
use Rattle.nm_port.specs.Polls.{polled, with_all_missed}
use Rattle.nm_cells.specs.declared.port.Port.{Port}
use Rattle.nm_cells.specs.Ports.{knows, sent_by}
use Rattle.nm_chain.proofs.UpdateLemmas.{update_here}
use Rattle.nm_port.specs.Sends.{HadMiss, SendsBy, tried}
use Rattle.nm_world.specs.Actors.{MissesGrow}
use Rattle.nm_types.specs.declared.packets.Path.{Path}
use Rattle.nm_types.specs.declared.packets.Path.TheVariants.{Box, Cell}

-- What a port's seat knows grows.
pub record EntryGrows (e e' : Entry Packet) : Type 0 where
  pub sent : (j : ℕ) → sent_to j e.put_box e.put ≤ sent_to j e'.put_box e'.put
  pub full : (j : ℕ) → slice_index e.box_full j ≤ slice_index e'.box_full j
  pub missed : (i : ℕ) → slice_index e.box_miss i ≤ slice_index e'.box_miss i
  pub queues : (b : OwnQueue) → MissesGrow (missed_of b e) (missed_of b e')

pub misses_same : (x : Misses) → MissesGrow x x
misses_same x = record { head = omega arith; link = omega arith }

pub misses_on : (x y z : Misses) → MissesGrow x y → MissesGrow y z → MissesGrow x z
misses_on x y z one two = record {
  head = let p = one.head in let q = two.head in omega (arith, p, q);
  link = let p = one.link in let q = two.link in omega (arith, p, q);
}

pub entry_same : (e : Entry Packet) → EntryGrows e e
entry_same e = record {
  sent = λ j. omega arith;
  full = λ j. omega arith;
  missed = λ i. omega arith;
  queues = λ b. misses_same (missed_of b e);
}

pub entry_on : (a b c : Entry Packet) → EntryGrows a b → EntryGrows b c → EntryGrows a c
entry_on a b c one two = record {
  sent = λ j. let p = one.sent j in let q = two.sent j in omega (arith, p, q);
  full = λ j. let p = one.full j in let q = two.full j in omega (arith, p, q);
  missed = λ j. let p = one.missed j in let q = two.missed j in omega (arith, p, q);
  queues = λ b. misses_on _ _ _ (one.queues b) (two.queues b);
}

pub raised_up : (k : ℕ) → k ≤ raised k
raised_up k = by (dec_le (suc k) 18446744073709551615) where
  by : (d : Dec (suc k ≤ 18446744073709551615)) → k ≤ if_below d (suc k) k
  by (yes h) = omega arith
  by (no h) = omega arith

set_up : (xs : List ℕ) (j i : ℕ) → slice_index xs i ≤ slice_index (set xs j (raised (slice_index xs j))) i
set_up [] j i = omega arith
set_up (x ∷ xs) zero zero = raised_up x
set_up (x ∷ xs) zero (suc i) = omega arith
set_up (x ∷ xs) (suc j) zero = omega arith
set_up (x ∷ xs) (suc j) (suc i) = set_up xs j i

by_queue : (e e' : Entry Packet) → MissesGrow e.receive_missed e'.receive_missed →
    MissesGrow e.free_missed e'.free_missed → (b : OwnQueue) → MissesGrow (missed_of b e) (missed_of b e')
by_queue e e' one two receive_queue = one
by_queue e e' one two free_queue = two

-- a try by box
pub tried_up : (fits : Bool) (to : ℕ) (e : Entry Packet) → EntryGrows e (tried fits to e)
tried_up true to e = record {
  sent = λ j. omega arith;
  full = λ j. set_up e.box_full to j;
  missed = λ i. omega arith;
  queues = by_queue e (with_box_full to e) (misses_same e.receive_missed) (misses_same e.free_missed);
}
tried_up false to e = entry_same e

pub all_missed_up : (e : Entry Packet) → EntryGrows e (with_all_missed e)
all_missed_up e = record {
  sent = λ j. omega arith;
  full = λ j. omega arith;
  missed = λ i. map_later e.box_miss i;
  queues = by_queue e (with_all_missed e) (misses_same e.receive_missed) (misses_same e.free_missed);
}

-- a miss of an own queue
head_up : (b : OwnQueue) (h : Heads) (e : Entry Packet) → EntryGrows e (with_missed b head_miss (with_heads b h e))
head_up receive_queue h e = record {
  sent = λ j. omega arith;
  full = λ j. omega arith;
  missed = λ j. omega arith;
  queues = by_queue e (with_missed receive_queue head_miss (with_heads receive_queue h e))
      (record { head = raised_up e.receive_missed.head_empty; link = omega arith })
      (misses_same e.free_missed);
}
head_up free_queue h e = record {
  sent = λ j. omega arith;
  full = λ j. omega arith;
  missed = λ j. omega arith;
  queues = by_queue e (with_missed free_queue head_miss (with_heads free_queue h e))
      (misses_same e.receive_missed)
      (record { head = raised_up e.free_missed.head_empty; link = omega arith });
}

link_up : (b : OwnQueue) (h : Heads) (e : Entry Packet) →
    EntryGrows e (with_look b (LinkEmpty 0) (with_missed b link_miss (with_heads b h e)))
link_up receive_queue h e = record {
  sent = λ j. omega arith;
  full = λ j. omega arith;
  missed = λ j. omega arith;
  queues = by_queue e
      (with_look receive_queue (LinkEmpty 0) (with_missed receive_queue link_miss (with_heads receive_queue h e)))
      (record { head = omega arith; link = raised_up e.receive_missed.link_missing })
      (misses_same e.free_missed);
}
link_up free_queue h e = record {
  sent = λ j. omega arith;
  full = λ j. omega arith;
  missed = λ j. omega arith;
  queues = by_queue e (with_look free_queue (LinkEmpty 0) (with_missed free_queue link_miss (with_heads free_queue h e)))
      (misses_same e.receive_missed)
      (record { head = omega arith; link = raised_up e.free_missed.link_missing });
}

pub miss_up : (b : OwnQueue) (e e' : Entry Packet) → HadMiss b e e' → EntryGrows e e'
miss_up b e e' = ⊎_elim
    (λ h. subst (λ (x : Entry Packet). EntryGrows e x) (sym h) (head_up b (heads_at 0 0) e))
    (λ h. subst (λ (x : Entry Packet). EntryGrows e x) (sym h.1) (link_up b (heads_of b e') e))

-- a packet that was put
put_more : (j : ℕ) (xs ys : List (ℕ × Load Packet)) → length (put_to j xs) ≤ length (put_to j (xs ++ ys))
put_more j xs ys =
    let e = ap length (put_append j xs ys) ∙ length-append (put_to j xs) (put_to j ys) in omega (arith, e)

pub box_up : (to : ℕ) (xs : List (ℕ × Load Packet)) (e : Entry Packet) →
    EntryGrows e (with_put_box xs (with_filling to false e))
box_up to xs e = record {
  sent = λ j. let more = put_more j e.put_box xs in omega (arith, more);
  full = λ j. omega arith;
  missed = λ j. omega arith;
  queues = by_queue e (with_put_box xs (with_filling to false e))
      (misses_same e.receive_missed) (misses_same e.free_missed);
}

pub cell_up : (xs : List (ℕ × Load Packet)) (h : Heads) (e : Entry Packet) →
    EntryGrows e (with_put xs (with_look free_queue Fresh (with_heads free_queue h e)))
cell_up xs h e = record {
  sent = λ j. let more = put_more j e.put xs in omega (arith, more);
  full = λ j. omega arith;
  missed = λ j. omega arith;
  queues = by_queue e (with_put xs (with_look free_queue Fresh (with_heads free_queue h e)))
      (misses_same e.receive_missed) (misses_same e.free_missed);
}

-- a packet that was sent, by either way
module _ (fits : Bool) (to : ℕ) (x : Parcel Packet) (old new : Port Packet) where
  pub sent_more : (way : Path) → SendsBy way fits to x old new → sent_by old to < sent_by new to
  sent_more Box by =
      let one = ap (λ (t : ℕ → ℕ). t to) by.puts.sent ∙ update_here (sent_by old) to (sent_by old to + 1) to refl in
      omega (arith, one)
  sent_more Cell by =
      let one = ap (λ (t : ℕ → ℕ). t to) by.sent ∙ update_here (sent_by old) to (sent_by old to + 1) to refl in
      omega (arith, one)

  pub sends_up : (way : Path) → SendsBy way fits to x old new → EntryGrows (knows old) (knows new)
  sends_up Box by = subst (λ (z : Entry Packet). EntryGrows (knows old) z) (sym by.puts.put)
      (box_up to ((to, Some x) ∷ []) (knows old))
  sends_up Cell by = subst (λ (z : Entry Packet). EntryGrows (knows old) z) (sym by.put)
      (entry_on (knows old) (tried fits to (knows old)) _ (tried_up fits to (knows old))
      (cell_up ((to, Some x) ∷ []) (heads_of free_queue (knows new)) (tried fits to (knows old))))

-- a poll
pub polled_up : (e e' : Entry Packet) → e' ≡ polled e' e →
    ((i : ℕ) → slice_index e.box_miss i ≤ slice_index e'.box_miss i) → EntryGrows e e'
polled_up e e' is later = record {
  sent = λ j. subst (λ (x : Entry Packet). sent_to j e.put_box e.put ≤ sent_to j x.put_box x.put) (sym is) (omega arith);
  full = λ j. subst (λ (x : Entry Packet). slice_index e.box_full j ≤ slice_index x.box_full j) (sym is) (omega arith);
  missed = later;
  queues = by_queue e e'
      (subst (λ (x : Entry Packet). MissesGrow e.receive_missed x.receive_missed) (sym is) (misses_same e.receive_missed))
      (subst (λ (x : Entry Packet). MissesGrow e.free_missed x.free_missed) (sym is) (misses_same e.free_missed));
}
