-- What each step of an actor keeps, but for those by which something leaves it.
use Rattle.std.proofs.Common.{◌≡◌, ◌≢◌, ⊎_elim, ℕ, ◌+◌, ◌<◌, ◌==◌, Bool, true, false, cond}
use Rattle.std.proofs.Common.{Some, None, List, [], ◌∷◌, ◌++◌, length, map, refl, sym, ap, ◌∙◌, subst}
use Rattle.std.proofs.Common.{arith, append-nil}
use Rattle.std.specs.List.{cons_option}
use Rattle.std.proofs.lemmas.List.{map-append}
use Rattle.nm_types.specs.declared.packets.Packet.{Packet}
use Rattle.nm_types.specs.declared.packets.Piece.{Piece}
use Rattle.nm_types.specs.Commands.{Numbered}
use Rattle.nm_types.specs.Sizes.{Sizes}
use Rattle.nm_history.specs.Known.{Taken}
use Rattle.nm_history.specs.Pieces.{Pulled}
use Rattle.nm_chain.specs.declared.table.table.Entry.{Entry}
use Rattle.nm_chain.specs.declared.table.parcels.Parcel.{Parcel}
use Rattle.nm_chain.specs.OwnQueues.{OwnQueue, receive_queue, free_queue}
use Rattle.nm_cells.specs.declared.port.Fabric.{Fabric}
use Rattle.nm_cells.specs.declared.port.Port.{Port}
use Rattle.nm_cells.specs.Ports.{Owns, knows, taken_by}
use Rattle.nm_port.specs.Keeps.{KeepsPort}
use Rattle.nm_port.specs.Polls.{HoldsTheRest, Polls, with_all_missed}
use Rattle.nm_port.specs.Sends.{HadMiss, tried}
use Rattle.nm_copyring.specs.declared.port.RingPort.{RingPort}
use Rattle.nm_copyring.specs.declared.port.Rings.{Rings}
use Rattle.nm_copyring.specs.declared.table.Entry as ring_entry
use Rattle.nm_copyring.specs.declared.table.Lane.{Lane}
use Rattle.nm_copyring.specs.Rule.{lane}
use Rattle.nm_copyring.specs.Calls.{KeepsRingPort, Pulls}
use Rattle.nm_copyring.specs.Plays.{one_pulled, with_lane}
use Rattle.nm_copyring.specs.Ports as ring
use Rattle.nm_copyring.proofs.RingLemmas.{lane_else, lane_here}
use Rattle.nm_global.specs.Emitted.{Emitted}
use Rattle.nm_channels.specs.Moments.{LogEntry, pulled_from, taken_from}
use Rattle.nm_rank.specs.Calls.{taken_of}
use Rattle.nm_rank.specs.Ranks.{RankView}
use Rattle.nm_global.specs.Moments.{drew, pulled, took}
use Rattle.nm_global.proofs.Shown.{pulled_still, taken-push, taken_still}
use Rattle.nm_process.specs.Processes.{ProcessView}
use Rattle.nm_process.specs.Work.{IsWorking}
use Rattle.nm_port.specs.CarriedPackets.{HasPassed, HasSent, one_more}
use Rattle.nm_global.specs.ProcessInvariant.{GoesOn, IsOf, GhostHistory, with_moment}
use Rattle.nm_world.specs.Parcels.{packet_of}
use Rattle.nm_world.specs.declared.actors.Actor.{Actor}
use Rattle.nm_world.specs.Actors.{ActorInvariant, Continues, Grows, HasPorts, IsActor, Seat, seat_of}
use Rattle.nm_types.proofs.NumberLemmas.{same_number, differ}
use Rattle.nm_channels.proofs.Pulling.{pulled-push}

pub stands_of : {H : Type 0} →
    (shape : Sizes) (commands : List Numbered) (last : ℕ) (a : Actor H) (past : GhostHistory) →
    a.process.rank.sizes ≡ shape → IsActor shape commands last a past → ActorInvariant commands last a
stands_of shape commands last a past same is =
    record { past = past; is = subst (λ (s : Sizes). IsActor s commands last a past) (sym same) is }

-- whose actor it is
pub seat_is : {H : Type 0} → (a : Actor H) (v : ProcessView) (rank : ℕ) → rank ≡ a.port.rank →
    v.rank.sizes ≡ a.process.rank.sizes → ◌≡◌ {A = Seat} (record { rank = rank; sizes = v.rank.sizes }) (seat_of a)
seat_is a v rank one two = ap (λ (k : ℕ). record { rank = k; sizes = v.rank.sizes }) one
    ∙ ap (λ (s : Sizes). record { rank = a.port.rank; sizes = s }) two

-- an actor whose ports go on, at whatever commands it stands
pub continues_by : {H : Type 0} → (f : Fabric Packet) (r : Rings) (a b : Actor H) (p : HasPorts f r a) → Owns f b.port →
    ring.Owns r b.ring → b.ring.rank ≡ b.port.rank → b.port.hands ≡ 0 → HoldsTheRest b.port → seat_of b ≡ seat_of a →
    Grows a b →
    ((commands : List Numbered) (last : ℕ) → ActorInvariant commands last a → ActorInvariant commands last b) →
    Continues f r a b
continues_by f r a b p cells rings rank hands rest seat grows stands =
    let ranks = ap (λ (s : Seat). s.sizes.ranks) seat in
    record {
      ports = record {
        some = record {
          commands = p.some.commands;
          last = p.some.last;
          stands = stands p.some.commands p.some.last p.some.stands;
        };
        cells = cells;
        rings = rings;
        rank = rank;
        ranks = (p.ranks.0 ∙ sym ranks, p.ranks.1 ∙ sym ranks);
        hands = hands;
        rest = rest;
      };
      stands = stands;
      seat = seat;
      grows = grows;
    }

-- one whose port to the fabric goes on
pub port_goes_on : {H : Type 0} → (f : Fabric Packet) (r : Rings) (a : Actor H) (v : ProcessView) (port : Port Packet)
    (p : HasPorts f r a) {idle : Type 0} → KeepsPort f idle a.port port → HoldsTheRest port →
    v.rank.sizes ≡ a.process.rank.sizes → Grows a (record { process = v; port = port; ring = a.ring; places = tt }) →
    ((commands : List Numbered) (last : ℕ) → ActorInvariant commands last a →
    ActorInvariant {H = H} commands last (record { process = v; port = port; ring = a.ring; places = tt })) →
    Continues f r a (record { process = v; port = port; ring = a.ring; places = tt })
port_goes_on f r a v port p keeps rest sizes grows stands =
    let few = keeps.few in
    let none = p.hands in
    continues_by f r a (record { process = v; port = port; ring = a.ring; places = tt }) p keeps.owns p.rings
    (p.rank ∙ sym keeps.rank) (omega (arith, few, none)) rest (seat_is a v port.rank keeps.rank sizes) grows stands

-- one whose port to the rings goes on
pub ring_goes_on : {H : Type 0} → (f : Fabric Packet) (r : Rings) (a : Actor H) (v : ProcessView) (port : RingPort)
    (p : HasPorts f r a) → KeepsRingPort r a.ring port → v.rank.sizes ≡ a.process.rank.sizes →
    Grows a (record { process = v; port = a.port; ring = port; places = tt }) →
    ((commands : List Numbered) (last : ℕ) → ActorInvariant commands last a →
    ActorInvariant {H = H} commands last (record { process = v; port = a.port; ring = port; places = tt })) →
    Continues f r a (record { process = v; port = a.port; ring = port; places = tt })
ring_goes_on f r a v port p keeps sizes grows stands =
    continues_by f r a (record { process = v; port = a.port; ring = port; places = tt }) p p.cells keeps.owns
    (keeps.rank ∙ p.rank) p.hands p.rest (seat_is a v a.port.rank refl sizes) grows stands

-- the lists that a port's seat has
pub record SameSent (e e' : Entry Packet) : Type 0 where
  pub box : e'.put_box ≡ e.put_box
  pub cell : e'.put ≡ e.put

pub record SameGot (e e' : Entry Packet) : Type 0 where
  pub box : e'.got_box ≡ e.got_box
  pub cell : e'.got ≡ e.got

pub sent_same : (e e' : Entry Packet) (to : ℕ) (ps : List Packet) → SameSent e e' → HasSent packet_of e to ps →
    HasSent packet_of e' to ps
sent_same e e' to ps same is =
    record { listed = rw (same.box, same.cell) is.listed; many = rw (same.box, same.cell) is.many }

pub got_same : (e e' : Entry Packet) (t from : ℕ) (ps : List Packet) → SameGot e e' → HasPassed packet_of e t from ps →
    HasPassed packet_of e' t from ps
got_same e e' t from ps same is =
    record { listed = rw (same.box, same.cell) is.listed; many = is.many }

-- a try by box, and a miss, leave them as they were
pub tried_sent : (fits : Bool) (to : ℕ) (e : Entry Packet) → SameSent e (tried fits to e)
tried_sent true to e = record { box = refl; cell = refl }
tried_sent false to e = record { box = refl; cell = refl }

pub tried_got : (fits : Bool) (to : ℕ) (e : Entry Packet) → SameGot e (tried fits to e)
tried_got true to e = record { box = refl; cell = refl }
tried_got false to e = record { box = refl; cell = refl }

missed_sent : (b : OwnQueue) (e e' : Entry Packet) → HadMiss b e e' → SameSent e e'
missed_sent receive_queue e e' miss = ⊎_elim
    (λ h. record { box = ap (λ (x : Entry Packet). x.put_box) h; cell = ap (λ (x : Entry Packet). x.put) h })
    (λ h. record { box = ap (λ (x : Entry Packet). x.put_box) h.1; cell = ap (λ (x : Entry Packet). x.put) h.1 }) miss
missed_sent free_queue e e' miss = ⊎_elim
    (λ h. record { box = ap (λ (x : Entry Packet). x.put_box) h; cell = ap (λ (x : Entry Packet). x.put) h })
    (λ h. record { box = ap (λ (x : Entry Packet). x.put_box) h.1; cell = ap (λ (x : Entry Packet). x.put) h.1 }) miss

missed_got : (b : OwnQueue) (e e' : Entry Packet) → HadMiss b e e' → SameGot e e'
missed_got receive_queue e e' miss = ⊎_elim
    (λ h. record { box = ap (λ (x : Entry Packet). x.got_box) h; cell = ap (λ (x : Entry Packet). x.got) h })
    (λ h. record { box = ap (λ (x : Entry Packet). x.got_box) h.1; cell = ap (λ (x : Entry Packet). x.got) h.1 }) miss
missed_got free_queue e e' miss = ⊎_elim
    (λ h. record { box = ap (λ (x : Entry Packet). x.got_box) h; cell = ap (λ (x : Entry Packet). x.got) h })
    (λ h. record { box = ap (λ (x : Entry Packet). x.got_box) h.1; cell = ap (λ (x : Entry Packet). x.got) h.1 }) miss

pub back_sent : (fits : Bool) (to : ℕ) (e e' : Entry Packet) → HadMiss free_queue (tried fits to e) e' → SameSent e e'
back_sent fits to e e' miss =
    let one = tried_sent fits to e in
    let two = missed_sent free_queue (tried fits to e) e' miss in
    record { box = two.box ∙ one.box; cell = two.cell ∙ one.cell }

pub back_got : (fits : Bool) (to : ℕ) (e e' : Entry Packet) → HadMiss free_queue (tried fits to e) e' → SameGot e e'
back_got fits to e e' miss =
    let one = tried_got fits to e in
    let two = missed_got free_queue (tried fits to e) e' miss in
    record { box = two.box ∙ one.box; cell = two.cell ∙ one.cell }

pub none_sent : (e e' : Entry Packet) → HadMiss receive_queue (with_all_missed e) e' → SameSent e e'
none_sent e e' miss =
    let two = missed_sent receive_queue (with_all_missed e) e' miss in record { box = two.box; cell = two.cell }

pub none_got : (e e' : Entry Packet) → HadMiss receive_queue (with_all_missed e) e' → SameGot e e'
none_got e e' miss =
    let two = missed_got receive_queue (with_all_missed e) e' miss in record { box = two.box; cell = two.cell }

-- a port that passed nothing on and sent nothing
pub nothing_carried : {H : Type 0} → (commands : List Numbered) (last : ℕ) (a : Actor H) (port : Port Packet)
    (s : ActorInvariant commands last a) → port.rank ≡ a.port.rank → taken_by port ≡ taken_by a.port →
    SameSent (knows a.port) (knows port) → SameGot (knows a.port) (knows port) →
    ActorInvariant commands last (record a { port = port })
nothing_carried commands last a port s rank taken sent got = record {
  past = s.past;
  is = record {
    work = s.is.work;
    stands = subst (λ (k : ℕ). IsOf a.process.rank.sizes commands k a.process.rank s.past) (sym rank) s.is.stands;
    sent = λ to within. sent_same (knows a.port) (knows port) to (s.past.left to).packets sent (s.is.sent to within);
    taken = λ from within. subst (λ (n : ℕ → ℕ). HasPassed packet_of (knows port) (n from) from
        (map (λ t. t.packet) (taken_from from s.past.log))) (sym taken)
        (got_same (knows a.port) (knows port) (taken_by a.port from) from
        (map (λ t. t.packet) (taken_from from s.past.log)) got (s.is.taken from within));
    pushed = s.is.pushed;
    pulled = s.is.pulled;
  };
}

-- a command that ran
pub run_on : {H : Type 0} → (commands : List Numbered) (before last : ℕ) (a : Actor H) (v : ProcessView)
    (s : ActorInvariant commands before a) → IsWorking a.process.rank.sizes commands (last + 1) v →
    GoesOn a.process.rank.sizes commands a.port.rank v.rank s.past →
    ActorInvariant commands last (record a { process = v })
run_on commands before last a v s work on =
    stands_of a.process.rank.sizes commands last (record a { process = v }) on.after work.sizes
    (record {
      work = work;
      stands = on.is;
      sent = λ to within. subst (λ (l : Emitted). HasSent packet_of (knows a.port) to l.packets)
          (sym (on.same.left to)) (s.is.sent to within);
      taken = λ from within. subst (λ (ts : List Taken). HasPassed packet_of (knows a.port) (taken_by a.port from) from
          (map (λ t. t.packet) ts)) (sym (on.same.taken from)) (s.is.taken from within);
      pushed = λ to within. ap (λ (l : Emitted). l.pieces) (on.same.left to) ∙ s.is.pushed to within;
      pulled = λ from within. ap (map (λ (d : Pulled). d.piece)) (on.same.pulled from)
          ∙ s.is.pulled from within;
    })

-- a packet that was taken
took_list : (log : List LogEntry) (v : RankView) (p : Packet) (i : ℕ) →
    map (λ (t : Taken). t.packet) (taken_from i (log ++ took v p ∷ []))
    ≡ one_more p.from i p (map (λ (t : Taken). t.packet) (taken_from i log))
took_list log v p i =
    ap (map (λ (t : Taken). t.packet)) (taken-push i log (took v p)) ∙ by (p.from == i) where
      by : (b : Bool) → map (λ (t : Taken). t.packet) (taken_from i log
          ++ cons_option (cond b (Some (taken_of v p)) None) [])
          ≡ cond b (map (λ (t : Taken). t.packet) (taken_from i log) ++ p ∷ [])
          (map (λ (t : Taken). t.packet) (taken_from i log))
      by true = map-append (λ (t : Taken). t.packet) (taken_from i log) (taken_of v p ∷ [])
      by false = ap (map (λ (t : Taken). t.packet)) (append-nil (taken_from i log))

drew_list : (log : List LogEntry) (v : RankView) (q : Piece) (i : ℕ) →
    map (λ (d : Pulled). d.piece) (pulled_from i (log ++ drew v q ∷ []))
    ≡ cond (q.from == i) (map (λ (d : Pulled). d.piece) (pulled_from i log) ++ q ∷ [])
    (map (λ (d : Pulled). d.piece) (pulled_from i log))
drew_list log v q i =
    ap (map (λ (d : Pulled). d.piece)) (pulled-push i log (drew v q)) ∙ by (q.from == i) where
      by : (b : Bool) → map (λ (d : Pulled). d.piece) (pulled_from i log
          ++ cons_option (cond b (Some (pulled v q)) None) [])
          ≡ cond b (map (λ (d : Pulled). d.piece) (pulled_from i log) ++ q ∷ [])
          (map (λ (d : Pulled). d.piece) (pulled_from i log))
      by true = map-append (λ (d : Pulled). d.piece) (pulled_from i log) (pulled v q ∷ [])
      by false = ap (map (λ (d : Pulled). d.piece)) (append-nil (pulled_from i log))

-- a packet that came
abbrev PollCarries : Type 0
PollCarries = (seen : Parcel Packet → Packet) (f : Fabric Packet) (old new : Port Packet) (p : Parcel Packet) (i : ℕ)
    (ps : List Packet) → Polls f old new p → HasPassed seen (knows old) (taken_by old i) i ps →
    HasPassed seen (knows new) (taken_by new i) i (one_more p.from i (seen p) ps)

pub take_on : {H : Type 0} → PollCarries →
    (commands : List Numbered) (last : ℕ) (f : Fabric Packet) (a : Actor H) (v : ProcessView)
    (port : Port Packet) (p : Parcel Packet) (s : ActorInvariant commands last a) → port.rank ≡ a.port.rank →
    Polls f a.port port p → IsWorking a.process.rank.sizes commands (last + 1) v →
    IsOf a.process.rank.sizes commands a.port.rank v.rank (with_moment s.past (took a.process.rank (packet_of p))) →
    ActorInvariant {H = H} commands last (record { process = v; port = port; ring = a.ring; places = tt })
take_on law commands last f a v port p s rank polls work on =
    let now = with_moment s.past (took a.process.rank (packet_of p)) in
    stands_of a.process.rank.sizes commands last
    (record { process = v; port = port; ring = a.ring; places = tt }) now work.sizes
    (record {
      work = work;
      stands = subst (λ (k : ℕ). IsOf a.process.rank.sizes commands k v.rank now) (sym rank) on;
      sent = λ to within. sent_same (knows a.port) (knows port) to (s.past.left to).packets
          (record {
            box = ap (λ (e : Entry Packet). e.put_box) polls.same;
            cell = ap (λ (e : Entry Packet). e.put) polls.same;
          }) (s.is.sent to within);
      taken = λ i within. subst (λ (ps : List Packet). HasPassed packet_of (knows port) (taken_by port i) i ps)
          (sym (took_list s.past.log a.process.rank (packet_of p) i))
          (law packet_of f a.port port p i (map (λ t. t.packet) (taken_from i s.past.log)) polls
          (s.is.taken i within));
      pushed = s.is.pushed;
      pulled = λ i within. ap (map (λ (d : Pulled). d.piece))
          (pulled_still i s.past.log (took a.process.rank (packet_of p)) refl) ∙ s.is.pulled i within;
    })

pub pull_on : {H : Type 0} →
    (commands : List Numbered) (last : ℕ) (a : Actor H) (v : ProcessView) (port : RingPort) (sender : ℕ)
    (q : Piece) (s : ActorInvariant commands last a) → sender < length (ring.knows a.ring).lanes →
    Pulls sender q a.ring port → IsWorking a.process.rank.sizes commands (last + 1) v →
    IsOf a.process.rank.sizes commands a.port.rank v.rank (with_moment s.past (drew a.process.rank q)) →
    ActorInvariant {H = H} commands last (record { process = v; port = a.port; ring = port; places = tt })
pull_on commands last a v port sender q s within pulls work on =
    let now = with_moment s.past (drew a.process.rank q) in
    stands_of a.process.rank.sizes commands last
    (record { process = v; port = a.port; ring = port; places = tt }) now work.sizes
    (record {
      work = work;
      stands = on;
      sent = s.is.sent;
      taken = λ i low. subst (λ (ts : List Taken). HasPassed packet_of (knows a.port) (taken_by a.port i) i
          (map (λ t. t.packet) ts)) (sym (taken_still i s.past.log (drew a.process.rank q) refl))
          (s.is.taken i low);
      pushed = λ to low. s.is.pushed to low ∙ sym (ap (λ (e : ring_entry.Entry). (lane e to).pushed) pulls.knew
          ∙ still to within);
      pulled = λ i low. drew_list s.past.log a.process.rank q i ∙ by i low (q.from == i) refl;
    }) where
      still : (to : ℕ) → sender < length (ring.knows a.ring).lanes →
          (lane (with_lane (one_pulled q) sender (ring.knows a.ring)) to).pushed ≡ (lane (ring.knows a.ring) to).pushed
      still to low = by_place (sender == to) refl where
        by_place : (b : Bool) → (sender == to) ≡ b →
            (lane (with_lane (one_pulled q) sender (ring.knows a.ring)) to).pushed
            ≡ (lane (ring.knows a.ring) to).pushed
        by_place true e = subst (λ (k : ℕ). (lane (with_lane (one_pulled q) sender (ring.knows a.ring)) k).pushed
            ≡ (lane (ring.knows a.ring) k).pushed) (same_number sender to e)
            (ap (λ (l : Lane). l.pushed) (lane_here (ring.knows a.ring) sender (one_pulled q) low))
        by_place false e = ap (λ (l : Lane). l.pushed)
            (lane_else (ring.knows a.ring) sender to (one_pulled q) (differ sender to e))

      by : (i : ℕ) → i < a.process.rank.sizes.ranks → (b : Bool) → (q.from == i) ≡ b →
          cond b (map (λ (d : Pulled). d.piece) (pulled_from i s.past.log) ++ q ∷ [])
          (map (λ (d : Pulled). d.piece) (pulled_from i s.past.log)) ≡ ring.pulled_from port i
      by i low true e =
          let here : sender ≡ i = sym pulls.from ∙ same_number q.from i e in
          ap (λ (qs : List Piece). qs ++ q ∷ []) (s.is.pulled i low)
          ∙ sym (ap (λ (x : ring_entry.Entry). (lane x i).pulled) pulls.knew
          ∙ subst (λ (k : ℕ). (lane (with_lane (one_pulled q) sender (ring.knows a.ring)) k).pulled
          ≡ (lane (ring.knows a.ring) k).pulled ++ q ∷ []) here
          (ap (λ (l : Lane). l.pulled) (lane_here (ring.knows a.ring) sender (one_pulled q) within)))
      by i low false e =
          let other : i ≢ sender = λ same. differ q.from i e (same ∙ sym pulls.from) in
          s.is.pulled i low ∙ sym (ap (λ (x : ring_entry.Entry). (lane x i).pulled) pulls.knew
          ∙ ap (λ (l : Lane). l.pulled) (lane_else (ring.knows a.ring) sender i (one_pulled q) other))
