-- What grows of ports and of actors from one step to the next.
use Rattle.std.proofs.Common.{◌≡◌, ℕ, ◌+◌, ◌<◌, ◌≤◌, List, [], ◌∷◌, ◌++◌}
use Rattle.std.proofs.Common.{length, length-append, append-nil, refl, sym, ap, ◌∙◌, subst, arith}
use Rattle.std.proofs.Common.{get_or-set_same, get_or-set_other}
use Rattle.std.proofs.lemmas.List.{append_assoc}
use native.Mathlib.Decide.{ℕ_discrete}
use Rattle.nm_types.specs.declared.packets.Packet.{Packet}
use Rattle.nm_types.specs.declared.packets.Piece.{Piece}
use Rattle.nm_history.specs.declared.events.Event.{Event}
use Rattle.nm_chain.specs.Update.{pick, update}
use Rattle.nm_cells.specs.declared.port.Port.{Port}
use Rattle.nm_cells.specs.Ports.{knows, taken_by}
use Rattle.nm_copyring.specs.declared.port.RingPort.{RingPort}
use Rattle.nm_copyring.specs.declared.table.Entry as ring_entry
use Rattle.nm_copyring.specs.declared.table.Lane.{Lane}
use Rattle.nm_copyring.specs.Rule.{lane, new_lane}
use Rattle.nm_copyring.specs.Plays.{one_empty, one_full, one_pulled, one_pushed, with_lane}
use Rattle.nm_copyring.specs.Ports as ring
use Rattle.nm_world.specs.declared.actors.Actor.{Actor}
use Rattle.nm_world.specs.Actors.{Grows, LaneGrows, PortGrows, RingGrows}
use Rattle.nm_world.specs.Actors.{Continues, HasPorts}
use Rattle.nm_cells.specs.declared.port.Fabric.{Fabric}
use Rattle.nm_copyring.specs.declared.port.Rings.{Rings}
use Rattle.nm_world.proofs.Entries.{EntryGrows, entry_same, misses_on}

-- ports
pub port_by : (p q : Port Packet) → EntryGrows (knows p) (knows q) → taken_by q ≡ taken_by p → PortGrows p q
port_by p q e same = record {
  sent = e.sent;
  taken = λ i. let one = ap (λ (t : ℕ → ℕ). t i) same in omega (arith, one);
  full = e.full;
  missed = e.missed;
  queues = e.queues;
}

pub port_same : (p : Port Packet) → PortGrows p p
port_same p = port_by p p (entry_same (knows p)) refl

update_up : (t : ℕ → ℕ) (k i : ℕ) → t i ≤ update t k (t k + 1) i
update_up t k i = by (ℕ_discrete i k) where
  by : (d : Dec (i ≡ k)) → t i ≤ pick d (t k + 1) (t i)
  by (yes e) = let same = ap t e in omega (arith, same)
  by (no ne) = omega arith

pub port_took : (p q : Port Packet) (k : ℕ) → EntryGrows (knows p) (knows q) →
    taken_by q ≡ update (taken_by p) k (taken_by p k + 1) → PortGrows p q
port_took p q k e next = record {
  sent = e.sent;
  taken = λ i. let one = ap (λ (t : ℕ → ℕ). t i) next in let up = update_up (taken_by p) k i in omega (arith, one, up);
  full = e.full;
  missed = e.missed;
  queues = e.queues;
}

port_on : (p q s : Port Packet) → PortGrows p q → PortGrows q s → PortGrows p s
port_on p q s one two = record {
  sent = λ j. let x = one.sent j in let y = two.sent j in omega (arith, x, y);
  taken = λ j. let x = one.taken j in let y = two.taken j in omega (arith, x, y);
  full = λ j. let x = one.full j in let y = two.full j in omega (arith, x, y);
  missed = λ j. let x = one.missed j in let y = two.missed j in omega (arith, x, y);
  queues = λ b. misses_on _ _ _ (one.queues b) (two.queues b);
}

-- ring ports
lane_same : (l : Lane) → LaneGrows l l
lane_same l = record { pushed = omega arith; pulled = omega arith; full = omega arith; empty = omega arith }

pub ring_same : (p : RingPort) → RingGrows p p
ring_same p k = lane_same (lane (ring.knows p) k)

lane_up : (e : ring_entry.Entry) (g : Lane → Lane) (j k : ℕ) → j < length e.lanes →
    ((l : Lane) → LaneGrows l (g l)) → LaneGrows (lane e k) (lane (with_lane g j e) k)
lane_up e g j k low up = by (ℕ_discrete k j) where
  by : Dec (k ≡ j) → LaneGrows (lane e k) (lane (with_lane g j e) k)
  by (yes same) = subst (λ (i : ℕ). LaneGrows (lane e i) (lane (with_lane g j e) i)) (sym same)
      (subst (λ (l : Lane). LaneGrows (lane e j) l)
      (sym (get_or-set_same e.lanes j (g (lane e j)) new_lane low)) (up (lane e j)))
  by (no ne) = subst (λ (l : Lane). LaneGrows (lane e k) l)
      (sym (get_or-set_other e.lanes j k (g (lane e j)) new_lane ne)) (lane_same (lane e k))

pub ring_up : (p q : RingPort) (g : Lane → Lane) (j : ℕ) → j < length (ring.knows p).lanes →
    ((l : Lane) → LaneGrows l (g l)) → ring.knows q ≡ with_lane g j (ring.knows p) → RingGrows p q
ring_up p q g j low up is k =
    subst (λ (e : ring_entry.Entry). LaneGrows (lane (ring.knows p) k) (lane e k)) (sym is)
    (lane_up (ring.knows p) g j k low up)

pub pushed_up : (x : Piece) (l : Lane) → LaneGrows l (one_pushed x l)
pushed_up x l = record {
  pushed = let e = length-append l.pushed (x ∷ []) in omega (arith, e);
  pulled = omega arith;
  full = omega arith;
  empty = omega arith;
}

pub pulled_up : (x : Piece) (l : Lane) → LaneGrows l (one_pulled x l)
pulled_up x l = record {
  pushed = omega arith;
  pulled = let e = length-append l.pulled (x ∷ []) in omega (arith, e);
  full = omega arith;
  empty = omega arith;
}

pub full_up : (l : Lane) → LaneGrows l (one_full l)
full_up l = record { pushed = omega arith; pulled = omega arith; full = omega arith; empty = omega arith }

pub empty_up : (l : Lane) → LaneGrows l (one_empty l)
empty_up l = record { pushed = omega arith; pulled = omega arith; full = omega arith; empty = omega arith }

pub pushed_more : (e e' : ring_entry.Entry) (j : ℕ) (x : Piece) → j < length e.lanes →
    e' ≡ with_lane (one_pushed x) j e → length (lane e j).pushed < length (lane e' j).pushed
pushed_more e e' j x low is =
    let one = ap (λ (y : ring_entry.Entry). length (lane y j).pushed) is
    ∙ ap (λ (l : Lane). length l.pushed) (get_or-set_same e.lanes j (one_pushed x (lane e j)) new_lane low)
    ∙ length-append (lane e j).pushed (x ∷ []) in omega (arith, one)

pub pulled_more : (e e' : ring_entry.Entry) (j : ℕ) (x : Piece) → j < length e.lanes →
    e' ≡ with_lane (one_pulled x) j e → length (lane e j).pulled < length (lane e' j).pulled
pulled_more e e' j x low is =
    let one = ap (λ (y : ring_entry.Entry). length (lane y j).pulled) is
    ∙ ap (λ (l : Lane). length l.pulled) (get_or-set_same e.lanes j (one_pulled x (lane e j)) new_lane low)
    ∙ length-append (lane e j).pulled (x ∷ []) in omega (arith, one)

-- a lane of which no piece was pushed or pulled
pub lane_kept : (e e' : ring_entry.Entry) (g : Lane → Lane) (j k : ℕ) → j < length e.lanes →
    ((l : Lane) → ((g l).pushed ≡ l.pushed) × ((g l).pulled ≡ l.pulled)) → e' ≡ with_lane g j e →
    ((lane e' k).pushed ≡ (lane e k).pushed) × ((lane e' k).pulled ≡ (lane e k).pulled)
lane_kept e e' g j k low same is =
    subst (λ (x : ring_entry.Entry). ((lane x k).pushed ≡ (lane e k).pushed) × ((lane x k).pulled ≡ (lane e k).pulled))
    (sym is) (by (ℕ_discrete k j)) where
      by : Dec (k ≡ j) → ((lane (with_lane g j e) k).pushed ≡ (lane e k).pushed)
          × ((lane (with_lane g j e) k).pulled ≡ (lane e k).pulled)
      by (yes eq) = subst (λ (i : ℕ). ((lane (with_lane g j e) i).pushed ≡ (lane e i).pushed)
          × ((lane (with_lane g j e) i).pulled ≡ (lane e i).pulled)) (sym eq)
          (subst (λ (l : Lane). (l.pushed ≡ (lane e j).pushed) × (l.pulled ≡ (lane e j).pulled))
          (sym (get_or-set_same e.lanes j (g (lane e j)) new_lane low)) (same (lane e j)))
      by (no ne) = subst (λ (l : Lane). (l.pushed ≡ (lane e k).pushed) × (l.pulled ≡ (lane e k).pulled))
          (sym (get_or-set_other e.lanes j k (g (lane e j)) new_lane ne)) (refl, refl)

-- actors
pub grows_same : {H : Type 0} → (a : Actor H) → Grows a a
grows_same a = record {
  events = ([], sym (append-nil a.process.rank.events));
  port = port_same a.port;
  ring = ring_same a.ring;
}

lane_on : (x y z : Lane) → LaneGrows x y → LaneGrows y z → LaneGrows x z
lane_on x y z one two = record {
  pushed = let p = one.pushed in let q = two.pushed in omega (arith, p, q);
  pulled = let p = one.pulled in let q = two.pulled in omega (arith, p, q);
  full = let p = one.full in let q = two.full in omega (arith, p, q);
  empty = let p = one.empty in let q = two.empty in omega (arith, p, q);
}

pub grows_on : {H : Type 0} → (a b c : Actor H) → Grows a b → Grows b c → Grows a c
grows_on a b c one two = record {
  events = (
    one.events.0 ++ two.events.0,
    two.events.1 ∙ ap (λ (h : List Event). h ++ two.events.0) one.events.1
        ∙ append_assoc a.process.rank.events one.events.0 two.events.0,
  );
  port = port_on a.port b.port c.port one.port two.port;
  ring = λ k. lane_on _ _ _ (one.ring k) (two.ring k);
}

pub kept_on : {H : Type 0} → (f : Fabric Packet) (r : Rings) (a b c : Actor H) → Continues f r a b → Continues f r b c →
    Continues f r a c
kept_on f r a b c one two = record {
  ports = two.ports;
  stands = λ commands last at. two.stands commands last (one.stands commands last at);
  seat = two.seat ∙ one.seat;
  grows = grows_on a b c one.grows two.grows;
}

pub kept_same : {H : Type 0} → (f : Fabric Packet) (r : Rings) (a : Actor H) → HasPorts f r a → Continues f r a a
kept_same f r a p = record { ports = p; stands = λ commands last at. at; seat = refl; grows = grows_same a }
