-- What a step keeps by which a packet or a piece leaves.
use Rattle.std.proofs.Common.{◌≡◌, ℕ, ◌+◌, ◌<◌, ◌==◌, Bool, true, false, cond}
use Rattle.std.proofs.Common.{List, [], ◌∷◌, ◌++◌, length, map, refl, sym, ap, ◌∙◌, subst}
use Rattle.nm_types.specs.declared.packets.Packet.{Packet}
use Rattle.nm_types.specs.declared.packets.Path.{Path}
use Rattle.nm_types.specs.declared.packets.Path.TheVariants.{Box, Cell}
use Rattle.nm_types.specs.declared.packets.Piece.{Piece}
use Rattle.nm_types.specs.Commands.{Numbered}
use Rattle.nm_history.specs.declared.events.Event.{Event}
use Rattle.nm_history.specs.Known.{Taken}
use Rattle.nm_history.specs.Pieces.{Pulled}
use Rattle.nm_chain.specs.declared.table.table.Entry.{Entry}
use Rattle.nm_cells.specs.declared.port.Port.{Port}
use Rattle.nm_cells.specs.Ports.{SameTaken, knows, sent_by, taken_by}
use Rattle.nm_port.specs.Sends.{SendsBy}
use Rattle.nm_copyring.specs.declared.port.RingPort.{RingPort}
use Rattle.nm_copyring.specs.declared.table.Entry as ring_entry
use Rattle.nm_copyring.specs.declared.table.Lane.{Lane}
use Rattle.nm_copyring.specs.Rule.{lane}
use Rattle.nm_copyring.specs.Calls.{Pushes}
use Rattle.nm_copyring.specs.Plays.{one_pushed, with_lane}
use Rattle.nm_copyring.specs.Ports as ring
use Rattle.nm_global.specs.Emitted.{Emitted, with_packet, with_piece}
use Rattle.nm_channels.specs.Moments.{LogEntry, taken_from}
use Rattle.nm_channels.specs.Moments.Cause.{Acted}
use Rattle.nm_global.proofs.Shown.{pulled_still, taken_still}
use Rattle.nm_process.specs.Processes.{ProcessView}
use Rattle.nm_process.specs.Work.{IsWorking}
use Rattle.nm_port.specs.CarriedPackets.{HasPassed, HasSent, one_more}
use Rattle.nm_global.specs.ProcessInvariant.{IsOf, with_moment, with_packet_left}
use Rattle.nm_global.specs.ProcessInvariant.{with_piece_left}
use Rattle.nm_chain.specs.declared.table.parcels.Parcel.{Parcel}
use Rattle.nm_world.specs.Parcels.{packet_of, parcel_of}
use Rattle.nm_world.specs.declared.actors.Actor.{Actor}
use Rattle.nm_world.specs.Actors.{ActorInvariant}
use Rattle.nm_world.proofs.Steps.{SameGot, got_same, stands_of}
use Rattle.nm_copyring.proofs.RingLemmas.{lane_else, lane_here}
use Rattle.nm_world.proofs.Steps.{tried_got}
use Rattle.nm_types.proofs.NumberLemmas.{same_number, differ}

-- what a send leaves of what came
pub got_by : (way : Path) (fits : Bool) (to : ℕ) (x : Parcel Packet) (old new : Port Packet) →
    SendsBy way fits to x old new → SameGot (knows old) (knows new)
got_by Box fits to x old new by = record {
  box = ap (λ (e : Entry Packet). e.got_box) by.puts.put;
  cell = ap (λ (e : Entry Packet). e.got) by.puts.put;
}
got_by Cell fits to x old new by = let tries = tried_got fits to (knows old) in record {
  box = ap (λ (e : Entry Packet). e.got_box) by.put ∙ tries.box;
  cell = ap (λ (e : Entry Packet). e.got) by.put ∙ tries.cell;
}

abbrev SendCarries : Type 0
SendCarries = (seen : Parcel Packet → Packet) (way : Path) (fits : Bool) (to : ℕ) (x : Parcel Packet)
    (old new : Port Packet) (j : ℕ) (ps : List Packet) → SendsBy way fits to x old new → x.seq ≡ sent_by old to →
    HasSent seen (knows old) j ps → HasSent seen (knows new) j (one_more to j (seen x) ps)

left_packets : (to j : ℕ) (p : Packet) (l : Emitted) → (with_packet j (to, p) l).packets ≡ one_more to j p l.packets
left_packets to j p l = by (to == j) where
  by : (b : Bool) → (cond b (record l { packets = l.packets ++ p ∷ [] }) l).packets ≡ cond b
      (l.packets ++ p ∷ []) l.packets
  by true = refl
  by false = refl

left_pieces : (to j : ℕ) (p : Packet) (l : Emitted) → (with_packet j (to, p) l).pieces ≡ l.pieces
left_pieces to j p l = by (to == j) where
  by : (b : Bool) → (cond b (record l { packets = l.packets ++ p ∷ [] }) l).pieces ≡ l.pieces
  by true = refl
  by false = refl

pub send_on : {H : Type 0} → SendCarries → (commands : List Numbered) (last : ℕ) (a : Actor H) (v : ProcessView)
    (port : Port Packet) (way : Path) (fits : Bool) (to : ℕ) (p : Packet) (events : List Event)
    (s : ActorInvariant commands last a) → port.rank ≡ a.port.rank → SameTaken a.port port →
    SendsBy way fits to (parcel_of p) a.port port → p.seq ≡ sent_by a.port to →
    IsWorking a.process.rank.sizes commands (last + 1) v →
    IsOf a.process.rank.sizes commands a.port.rank v.rank
    (with_moment (with_packet_left s.past (to, p)) (record { cause = Acted; events = events })) →
    ActorInvariant {H = H} commands last (record { process = v; port = port; ring = a.ring; places = tt })
send_on law commands last a v port way fits to p events s rank same sends number work on =
    let m : LogEntry = record { cause = Acted; events = events } in
    let now = with_moment (with_packet_left s.past (to, p)) m in
    let got = got_by way fits to (parcel_of p) a.port port sends in
    stands_of a.process.rank.sizes commands last
    (record { process = v; port = port; ring = a.ring; places = tt }) now work.sizes
    (record {
      work = work;
      stands = subst (λ (k : ℕ). IsOf a.process.rank.sizes commands k v.rank now) (sym rank) on;
      sent = λ j within. subst (λ (ps : List Packet). HasSent packet_of (knows port) j ps)
          (sym (left_packets to j p (s.past.left j)))
          (law packet_of way fits to (parcel_of p) a.port port j (s.past.left j).packets sends number
          (s.is.sent j within));
      taken = λ i within. subst (λ (ts : List Taken). HasPassed packet_of (knows port) (taken_by port i) i
          (map (λ t. t.packet) ts)) (sym (taken_still i s.past.log m refl))
          (subst (λ (n : ℕ → ℕ). HasPassed packet_of (knows port) (n i) i
          (map (λ t. t.packet) (taken_from i s.past.log))) (sym same.0)
          (got_same (knows a.port) (knows port) (taken_by a.port i) i
          (map (λ t. t.packet) (taken_from i s.past.log)) got (s.is.taken i within)));
      pushed = λ j within. left_pieces to j p (s.past.left j) ∙ s.is.pushed j within;
      pulled = λ i within. ap (map (λ (d : Pulled). d.piece)) (pulled_still i s.past.log m refl)
          ∙ s.is.pulled i within;
    })

piece_packets : (j : ℕ) (piece : ℕ × Piece) (l : Emitted) → (with_piece j piece l).packets ≡ l.packets
piece_packets j piece l = by (piece.0 == j) where
  by : (b : Bool) → (cond b (record l { pieces = l.pieces ++ piece.1 ∷ [] }) l).packets ≡ l.packets
  by true = refl
  by false = refl

pub push_on : {H : Type 0} → (commands : List Numbered) (last : ℕ) (a : Actor H) (v : ProcessView)
    (port : RingPort) (to : ℕ) (q : Piece) (events : List Event) (s : ActorInvariant commands last a) →
    to < length (ring.knows a.ring).lanes → Pushes to q a.ring port →
    IsWorking a.process.rank.sizes commands (last + 1) v →
    IsOf a.process.rank.sizes commands a.port.rank v.rank
    (with_moment (with_piece_left s.past (to, q)) (record { cause = Acted; events = events })) →
    ActorInvariant {H = H} commands last (record { process = v; port = a.port; ring = port; places = tt })
push_on commands last a v port to q events s within knew work on =
    let m : LogEntry = record { cause = Acted; events = events } in
    let now = with_moment (with_piece_left s.past (to, q)) m in
    stands_of a.process.rank.sizes commands last
    (record { process = v; port = a.port; ring = port; places = tt }) now work.sizes
    (record {
      work = work;
      stands = on;
      sent = λ j low. subst (λ (ps : List Packet). HasSent packet_of (knows a.port) j ps)
          (sym (piece_packets j (to, q) (s.past.left j))) (s.is.sent j low);
      taken = λ i low. subst (λ (ts : List Taken). HasPassed packet_of (knows a.port) (taken_by a.port i) i
          (map (λ t. t.packet) ts)) (sym (taken_still i s.past.log m refl)) (s.is.taken i low);
      pushed = λ j low. by j low (to == j) refl;
      pulled = λ i low. ap (map (λ (d : Pulled). d.piece)) (pulled_still i s.past.log m refl)
          ∙ s.is.pulled i low ∙ sym (ap (λ (e : ring_entry.Entry). (lane e i).pulled) knew
          ∙ still i within);
    }) where
      still : (i : ℕ) → to < length (ring.knows a.ring).lanes →
          (lane (with_lane (one_pushed q) to (ring.knows a.ring)) i).pulled ≡ (lane (ring.knows a.ring) i).pulled
      still i low = by_place (to == i) refl where
        by_place : (b : Bool) → (to == i) ≡ b →
            (lane (with_lane (one_pushed q) to (ring.knows a.ring)) i).pulled ≡ (lane (ring.knows a.ring) i).pulled
        by_place true e = subst (λ (k : ℕ). (lane (with_lane (one_pushed q) to (ring.knows a.ring)) k).pulled
            ≡ (lane (ring.knows a.ring) k).pulled) (same_number to i e)
            (ap (λ (l : Lane). l.pulled) (lane_here (ring.knows a.ring) to (one_pushed q) low))
        by_place false e = ap (λ (l : Lane). l.pulled)
            (lane_else (ring.knows a.ring) to i (one_pushed q) (differ to i e))

      by : (j : ℕ) → j < a.process.rank.sizes.ranks → (b : Bool) → (to == j) ≡ b →
          (cond b (record (s.past.left j) { pieces = (s.past.left j).pieces ++ q ∷ [] }) (s.past.left j)).pieces
          ≡ ring.pushed_to port j
      by j low true e =
          ap (λ (qs : List Piece). qs ++ q ∷ []) (s.is.pushed j low)
          ∙ sym (ap (λ (x : ring_entry.Entry). (lane x j).pushed) knew
          ∙ subst (λ (k : ℕ). (lane (with_lane (one_pushed q) to (ring.knows a.ring)) k).pushed
          ≡ (lane (ring.knows a.ring) k).pushed ++ q ∷ []) (same_number to j e)
          (ap (λ (l : Lane). l.pushed) (lane_here (ring.knows a.ring) to (one_pushed q) within)))
      by j low false e =
          s.is.pushed j low ∙ sym (ap (λ (x : ring_entry.Entry). (lane x j).pushed) knew
          ∙ ap (λ (l : Lane). l.pushed) (lane_else (ring.knows a.ring) to j (one_pushed q) (differ to j e)))
