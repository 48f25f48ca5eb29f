-- Why nothing moved, and what a step leaves as it was.
use Rattle.std.proofs.Common.{◌≡◌, ◌⊎◌, ⊎_elim, inl, inr, ℕ, zero, suc, ◌+◌, ◌<◌, ◌≤◌, Bool, true, false, ◌||◌}
use Rattle.std.proofs.Common.{Option, Some, None, List, [], ◌∷◌, length, map, set, refl, sym, ap, ◌∙◌, subst, arith}
use Rattle.std.proofs.Common.{get_or-set_same}
use Rattle.std.proofs.Math.Logic.{∥∥₁_elim}
use Rattle.std.proofs.Props.{props}
use Rattle.std.specs.Prelude.{IfSome, option_map, slice_index}
use Rattle.std.specs.List.{slice_get}
use native.Mathlib.Decide.{ℕ_discrete, dec_le}
use Rattle.nm_types.specs.declared.packets.Piece.{Piece}
use Rattle.nm_sending.specs.Letters.{Letter}
use Rattle.nm_rndv.specs.Offers.{Offered, next_offered, offered}
use Rattle.nm_rank.specs.Ranks.{IsFresh}
use Rattle.nm_chain.specs.declared.table.table.Entry.{Entry}
use Rattle.nm_chain.specs.declared.table.table.Heads.{Heads}
use Rattle.nm_chain.specs.Rule.{if_below}
use Rattle.nm_chain.specs.Plays.{missed_of, raised, with_heads, with_missed}
use Rattle.nm_chain.specs.Plays.{heads_at, heads_of, head_miss, link_miss, with_look}
use Rattle.nm_chain.specs.declared.table.table.Look.TheVariants.{LinkEmpty}
use Rattle.nm_cells.specs.declared.port.Port.{Port}
use Rattle.nm_cells.specs.Ports.{knows}
use Rattle.nm_port.specs.Polls.{with_all_missed}
use Rattle.nm_chain.specs.Items.{answer, is_short}
use Rattle.nm_chain.specs.OwnQueues.{OwnQueue, receive_queue, free_queue}
use Rattle.nm_port.specs.Sends.{HadMiss, tried}
use Rattle.nm_copyring.specs.declared.table.Entry as ring_entry
use Rattle.nm_copyring.specs.declared.table.Lane.{Lane}
use Rattle.nm_copyring.specs.Rule.{lane, new_lane}
use Rattle.nm_copyring.specs.Plays.{one_empty, one_full, with_lane}
use Rattle.nm_copyring.specs.Ports as ring
use Rattle.nm_copyring.specs.Ports.{full_to}
use Rattle.nm_process.specs.Processes.{ProcessView}
use Rattle.nm_world.specs.declared.actors.Actor.{Actor}
use Rattle.nm_world.specs.Actors.{Grows, PortGrows, RingGrows}
use Rattle.nm_world.specs.Idle.{NotSent, GaveNone, Idle, IsDue, FirstNotSent, NoPiece, NextNotPushed, QueueMissed}
use Rattle.nm_world.specs.Idle.{Rose, Stepped}
use Rattle.nm_world.proofs.Grows.{port_same, ring_same}
use Rattle.nm_types.proofs.TruthLemmas.{neither}
use Rattle.nm_port.proofs.PollLemmas.{queue_misses, misses_long}
use Rattle.nm_types.specs.declared.packets.Packet.{Packet}

-- a count that rose within
pub rose_within : (x x' y' y : ℕ) → x ≤ x' → Rose x' y' → y' ≤ y → Rose x y
rose_within x x' y' y low rose up =
    ⊎_elim (λ h. inl (omega (arith, low, h, up))) (λ h. inr (omega (arith, h, up))) rose

pub raised_rose : (k : ℕ) → Rose k (raised k)
raised_rose k = by (dec_le (suc k) 18446744073709551615) where
  by : (d : Dec (suc k ≤ 18446744073709551615)) → Rose k (if_below d (suc k) k)
  by (yes h) = inl (omega arith)
  by (no h) = inr (omega (arith, h))

set_rose : (xs : List ℕ) (j : ℕ) → j < length xs →
    Rose (slice_index xs j) (slice_index (set xs j (raised (slice_index xs j))) j)
set_rose [] j low = absurd (omega (arith, low))
set_rose (x ∷ xs) zero low = raised_rose x
set_rose (x ∷ xs) (suc j) low = set_rose xs j (omega (arith, low))

map_rose : (xs : List ℕ) (i : ℕ) → i < length xs → Rose (slice_index xs i) (slice_index (map raised xs) i)
map_rose [] i low = absurd (omega (arith, low))
map_rose (x ∷ xs) zero low = raised_rose x
map_rose (x ∷ xs) (suc i) low = map_rose xs i (omega (arith, low))

-- a miss of an own queue
abbrev MissRose : OwnQueue → Entry Packet → Entry Packet → Type 0
MissRose b e e' =
    Rose (missed_of b e).head_empty (missed_of b e').head_empty
    ⊎ Rose (missed_of b e).link_missing (missed_of b e').link_missing

head_rose : (b : OwnQueue) (h : Heads) (e : Entry Packet) → MissRose b e (with_missed b head_miss (with_heads b h e))
head_rose receive_queue h e = inl (raised_rose e.receive_missed.head_empty)
head_rose free_queue h e = inl (raised_rose e.free_missed.head_empty)

link_rose : (b : OwnQueue) (h : Heads) (e : Entry Packet) →
    MissRose b e (with_look b (LinkEmpty 0) (with_missed b link_miss (with_heads b h e)))
link_rose receive_queue h e = inr (raised_rose e.receive_missed.link_missing)
link_rose free_queue h e = inr (raised_rose e.free_missed.link_missing)

pub miss_rose : (b : OwnQueue) (e e' : Entry Packet) → HadMiss b e e' → MissRose b e e'
miss_rose b e e' = ⊎_elim
    (λ h. subst (λ (x : Entry Packet). MissRose b e x) (sym h) (head_rose b (heads_at 0 0) e))
    (λ h. subst (λ (x : Entry Packet). MissRose b e x) (sym h.1) (link_rose b (heads_of b e') e))

fulls_kept : (e e' : Entry Packet) → HadMiss free_queue e e' → e'.box_full ≡ e.box_full
fulls_kept e e' = ⊎_elim (λ h. ap (λ (x : Entry Packet). x.box_full) h) (λ h. ap (λ (x : Entry Packet). x.box_full) h.1)

fulls_long : (p : Port Packet) → length (knows p).box_full ≡ (knows p).ranks
fulls_long p = ∥∥₁_elim p.counts (search props) (λ n. n.fulls)

-- a poll that gave none
pub gave_none : (n : ℕ) (p q : Port Packet) → (knows p).ranks ≡ n →
    HadMiss receive_queue (with_all_missed (knows p)) (knows q) → GaveNone n p q
gave_none n p q ranks miss = record {
  boxes = λ i low. let long = misses_long p in
      subst (λ (xs : List ℕ). Rose (slice_index (knows p).box_miss i) (slice_index xs i))
      (sym (queue_misses (with_all_missed (knows p)) (knows q) miss))
      (map_rose (knows p).box_miss i (omega (arith, low, ranks, long)));
  queue = miss_rose receive_queue (with_all_missed (knows p)) (knows q) miss;
}

queue_within : (b : OwnQueue) (p p' q' q : Port Packet) → PortGrows p p' → QueueMissed b p' q' → PortGrows q' q →
    QueueMissed b p q
queue_within b p p' q' q up missed on =
    ⊎_elim (λ h. inl (rose_within _ _ _ _ (up.queues b).head h (on.queues b).head))
    (λ h. inr (rose_within _ _ _ _ (up.queues b).link h (on.queues b).link)) missed

pub none_within : (n : ℕ) (p p' q' q : Port Packet) → PortGrows p p' → GaveNone n p' q' → PortGrows q' q →
    GaveNone n p q
none_within n p p' q' q up none on = record {
  boxes = λ i low. rose_within _ _ _ _ (up.missed i) (none.boxes i low) (on.missed i);
  queue = queue_within receive_queue p p' q' q up none.queue on;
}

-- a letter that came back
tried_box : (len to : ℕ) (e : Entry Packet) → to < length e.box_full →
    (64 < len) ⊎ Rose (slice_index e.box_full to) (slice_index (tried (is_short len) to e).box_full to)
tried_box len to e low = by (dec_le len 64) where
  by : (d : Dec (len ≤ 64)) →
      (64 < len) ⊎ Rose (slice_index e.box_full to) (slice_index (tried (answer d) to e).box_full to)
  by (yes h) = inr (set_rose e.box_full to low)
  by (no h) = inl (omega (arith, h))

tried_queue : (fits : Bool) (to : ℕ) (e e' : Entry Packet) → MissRose free_queue (tried fits to e) e' →
    MissRose free_queue e e'
tried_queue true to e e' rose = rose
tried_queue false to e e' rose = rose

pub came_back : (p q : Port Packet) (l : Letter) (len : ℕ) → len ≡ length l.packet.payload → l.to < (knows p).ranks →
    HadMiss free_queue (tried (is_short len) l.to (knows p)) (knows q) → NotSent p q l
came_back p q l len same low miss =
    let e = knows p in
    let long = fulls_long p in
    let kept = fulls_kept (tried (is_short len) l.to e) (knows q) miss in record {
      box = ⊎_elim (λ h. inl (omega (arith, h, same)))
          (λ h. inr (subst (λ (xs : List ℕ). Rose (slice_index e.box_full l.to) (slice_index xs l.to)) (sym kept) h))
          (tried_box len l.to e (omega (arith, low, long)));
      queue = tried_queue (is_short len) l.to e (knows q)
          (miss_rose free_queue (tried (is_short len) l.to e) (knows q) miss);
    }

pub back_within : {H : Type 0} → (a a' b' b : Actor H) → PortGrows a.port a'.port → a'.process ≡ a.process →
    FirstNotSent a' b' →
    PortGrows b'.port b.port → FirstNotSent a b
back_within a a' b' b up same back on =
    by (slice_get a.process.rank.sending.outbox.letters 0)
    (subst (λ (v : ProcessView). IfSome (slice_get v.rank.sending.outbox.letters 0) (NotSent a'.port b'.port)) same
    back) where
      by : (o : Option Letter) → IfSome o (NotSent a'.port b'.port) → IfSome o (NotSent a.port b.port)
      by None back = tt
      by (Some l) back = record {
        box = ⊎_elim (λ h. inl h) (λ h. inr (rose_within _ _ _ _ (up.full l.to) h (on.full l.to))) back.box;
        queue = queue_within free_queue a.port a'.port b'.port b.port up back.queue on;
      }

-- a piece that was not pushed, and one that did not come
lane_full : (e e' : ring_entry.Entry) (j : ℕ) → j < length e.lanes → e' ≡ with_lane one_full j e →
    (lane e j).full < (lane e' j).full
lane_full e e' j low is =
    let one = ap (λ (x : ring_entry.Entry). (lane x j).full) is
    ∙ ap (λ (l : Lane). l.full) (get_or-set_same e.lanes j (one_full (lane e j)) new_lane low) in
    omega (arith, one)

lane_empty : (e e' : ring_entry.Entry) (j : ℕ) → j < length e.lanes → e' ≡ with_lane one_empty j e →
    (lane e j).empty < (lane e' j).empty
lane_empty e e' j low is =
    let one = ap (λ (x : ring_entry.Entry). (lane x j).empty) is
    ∙ ap (λ (l : Lane). l.empty) (get_or-set_same e.lanes j (one_empty (lane e j)) new_lane low) in
    omega (arith, one)

pub piece_back : {H : Type 0} → (a b : Actor H) (to : ℕ) (piece : Piece) →
    Some (offered (to, piece)) ≡ next_offered a.process.rank.sending.offers →
    to < length (ring.knows a.ring).lanes → ring.knows b.ring ≡ with_lane one_full to (ring.knows a.ring) →
    NextNotPushed a b
piece_back a b to piece next low full =
    subst (λ (o : Option Offered). IfSome o (λ x. full_to a.ring x.to < full_to b.ring x.to)) next
    (lane_full (ring.knows a.ring) (ring.knows b.ring) to low full)

-- where a piece goes to this rank, its place was found full
pub place_full : {H : Type 0} → (a b : Actor H) (to : ℕ) →
    Some to ≡ option_map (λ x. x.to) (next_offered a.process.rank.sending.offers) →
    to < length (ring.knows a.ring).lanes → ring.knows b.ring ≡ with_lane one_full to (ring.knows a.ring) →
    NextNotPushed a b
place_full a b to goes low full = by (next_offered a.process.rank.sending.offers) goes where
  same : (k : ℕ) → Some to ≡ Some k → to ≡ k
  same k e = cc

  by : (o : Option Offered) → Some to ≡ option_map (λ x. x.to) o →
      IfSome o (λ x. full_to a.ring x.to < full_to b.ring x.to)
  by None is = tt
  by (Some x) is = subst (λ (k : ℕ). full_to a.ring k < full_to b.ring k) (same x.to is)
      (lane_full (ring.knows a.ring) (ring.knows b.ring) to low full)

-- and where it goes to none, there is none
pub none_back : {H : Type 0} → (a : Actor H) →
    None ≡ option_map (λ x. x.to) (next_offered a.process.rank.sending.offers) →
    NextNotPushed a a
none_back a goes = by (next_offered a.process.rank.sending.offers) goes where
  clash : (k : ℕ) → None ≡ Some k → ⊥
  clash k e = cc

  by : (o : Option Offered) → None ≡ option_map (λ x. x.to) o →
      IfSome o (λ x. full_to a.ring x.to < full_to a.ring x.to)
  by None is = tt
  by (Some x) is = absurd (clash x.to is)

pub no_piece : {H : Type 0} → (a b : Actor H) (sender : ℕ) → sender < length (ring.knows a.ring).lanes →
    ring.knows b.ring ≡ with_lane one_empty sender (ring.knows a.ring) → NoPiece a b sender
no_piece a b sender low empty due = lane_empty (ring.knows a.ring) (ring.knows b.ring) sender low empty

pub piece_within : {H : Type 0} → (a a' b' b : Actor H) → RingGrows a.ring a'.ring → a'.process ≡ a.process →
    NextNotPushed a' b' →
    RingGrows b'.ring b.ring → NextNotPushed a b
piece_within a a' b' b up same back on =
    by (next_offered a.process.rank.sending.offers)
    (subst (λ (v : ProcessView). IfSome (next_offered v.rank.sending.offers)
    (λ o. full_to a'.ring o.to < full_to b'.ring o.to)) same back) where
      by : (o : Option Offered) → IfSome o (λ o. full_to a'.ring o.to < full_to b'.ring o.to) →
          IfSome o (λ o. full_to a.ring o.to < full_to b.ring o.to)
      by None back = tt
      by (Some o) back = let x = (up o.to).full in let y = (on o.to).full in omega (arith, x, back, y)

pub pieces_within : {H : Type 0} → (a a' b' b : Actor H) (i : ℕ) → RingGrows a.ring a'.ring → a'.process ≡ a.process →
    NoPiece a' b' i → RingGrows b'.ring b.ring → NoPiece a b i
pieces_within a a' b' b i up same none on due =
    let rose = none (subst (λ (v : ProcessView). IsDue v.rank i) (sym same) due) in
    let x = (up i).empty in let y = (on i).empty in omega (arith, x, rose, y)

-- what was idle from a later moment on was so from the first
pub idle_before : {H : Type 0} → (a b c : Actor H) → Grows a b → b.process ≡ a.process → Idle b c → Idle a c
idle_before a b c up same idle = record {
  process = idle.process ∙ same;
  polled = none_within a.process.rank.sizes.ranks a.port b.port c.port c.port up.port
      (subst (λ (v : ProcessView). GaveNone v.rank.sizes.ranks b.port c.port) same idle.polled) (port_same c.port);
  letter = back_within a b c c up.port same idle.letter (port_same c.port);
  piece = piece_within a b c c up.ring same idle.piece (ring_same c.ring);
  pieces = λ i low. pieces_within a b c c i up.ring same
      (idle.pieces i (subst (λ (v : ProcessView). i < v.rank.sizes.ranks) (sym same) low)) (ring_same c.ring);
}

pub stepped_on : {H : Type 0} → (p q : Bool) (a b c : Actor H) → Stepped p a b → Stepped q b c → Stepped (p || q) a c
stepped_on p q a b c one two = record {
  at = two.at ∙ one.at;
  still = λ none. let both = neither p q none in two.still both.1 ∙ one.still both.0;
  worn = λ worn. let same = one.worn worn in
      two.worn (λ fresh. worn (subst (λ (x : Actor _). IsFresh x.process.rank) same fresh)) ∙ same;
}

-- nothing was done
pub stepped_none : {H : Type 0} → (a : Actor H) → Stepped false a a
stepped_none a = record { at = refl; still = λ none. refl; worn = λ worn. refl }

-- a step of a rank that is not worn
pub stepped_fresh : {H : Type 0} → (p : Bool) (a b : Actor H) → IsFresh a.process.rank → b.process.at ≡ a.process.at →
    (p ≡ false → b.process ≡ a.process) → Stepped p a b
stepped_fresh p a b fresh at still = record { at = at; still = still; worn = λ worn. absurd (worn fresh) }

-- pieces of one rank more
pub more_none : {H : Type 0} → (a b d : Actor H) (sender i : ℕ) → Grows a b → Grows b d → b.process ≡ a.process →
    i < sender + 1 →
    (i < sender → NoPiece a b i) → NoPiece b d sender → NoPiece a d i
more_none a b d sender i one two same low before last = by (ℕ_discrete i sender) where
  by : Dec (i ≡ sender) → NoPiece a d i
  by (yes e) = subst (λ (k : ℕ). NoPiece a d k) (sym e)
      (pieces_within a b d d sender one.ring same last (ring_same d.ring))
  by (no ne) = pieces_within a a b d i (ring_same a.ring) refl (before (omega (arith, low, ne))) two.ring

-- what was idle up to an earlier moment is so up to a later one
pub idle_after : {H : Type 0} → (a b c : Actor H) → Idle a b → Grows b c → c.process ≡ b.process → Idle a c
idle_after a b c idle up same = record {
  process = same ∙ idle.process;
  polled = none_within a.process.rank.sizes.ranks a.port a.port b.port c.port (port_same a.port) idle.polled up.port;
  letter = back_within a a b c (port_same a.port) refl idle.letter up.port;
  piece = piece_within a a b c (ring_same a.ring) refl idle.piece up.ring;
  pieces = λ i low. pieces_within a a b c i (ring_same a.ring) refl (idle.pieces i low) up.ring;
}
