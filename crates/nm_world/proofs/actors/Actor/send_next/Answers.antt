-- The packet comes behind the others for its receiver.
use Rattle.std.proofs.Common.{◌≡◌, ◌+◌, ℕ, true, Option, sym, ap, subst, ◌∙◌, arith, refl}
use Rattle.nm_types.specs.declared.packets.Packet.{Packet}
use Rattle.nm_cells.specs.Ports.{knows}
use Rattle.nm_port.specs.Polls.{count_held}
use Rattle.nm_chain.specs.Items.{is_short}
use Rattle.nm_port.specs.Sends.{HadMiss, SendsBy, tried}
use Rattle.nm_global.specs.Moments.{acted}
use Rattle.nm_sending.specs.Departures.{ended_by}
use Rattle.nm_sending.specs.Sent.{outs}
use Rattle.std.specs.Prelude.{false, IfSome, length, slice_get}
use Rattle.nm_sending.specs.Letters.{Letter}
use Rattle.nm_process.specs.Processes.{ProcessView}
use Rattle.nm_world.specs.Idle.{NotSent}
use Rattle.nm_global.specs.ProcessInvariant.{IsOf, with_moment, with_packet_left}
use Rattle.nm_chain.specs.declared.table.parcels.Parcel.{Parcel}
use Rattle.nm_chain.specs.OwnQueues.{free_queue}
use Rattle.nm_world.specs.Parcels.{parcel_of}
use Rattle.nm_world.specs.declared.actors.Actor.{Actor}
use Rattle.nm_world.specs.Actors.{Grows}
use Rattle.nm_world.specs.Actors.Grew.{sent}
use Rattle.nm_world.proofs.Did.{did_more, did_none}
use Rattle.nm_world.proofs.Entries.{entry_on, miss_up, sends_up, sent_more, tried_up}
use Rattle.nm_world.proofs.Grows.{grows_same, port_by, ring_same}
use Rattle.nm_world.proofs.Idle.{came_back, stepped_fresh}
use Rattle.nm_world.proofs.Moves.{moves_none}
use Rattle.nm_world.proofs.Leaves.{send_on}
use Rattle.nm_world.proofs.Results.{clash, front_cut, none_first}
use Rattle.nm_world.proofs.Steps.{back_got, back_sent, nothing_carried, port_goes_on}
use Rattle.nm_world.proofs.actors.Actor.send_next.Goals as goal

pub returns-then-is_worn : goal.returns-then-is_worn
returns-then-is_worn g c =
    let a = c.args.self.now in
    record {
      bound = omega arith;
      moves = moves_none (record g.here { fabric = c.args.f.now }) a c.requires.1.1;
      back = λ none fresh. absurd
          (clash (sym c.if-is_worn.true ∙ (rw c.rank-rank.ensures at c.is_worn.ensures).1 fresh));
    }

pub returns-in_default : goal.returns-in_default
returns-in_default g c =
    let a = c.args.self.now in
    record {
      bound = omega arith;
      moves = moves_none (record g.here { fabric = c.args.f.now }) a c.requires.1.1;
      back = λ none fresh. none_first (slice_get a.process.rank.sending.outbox.letters 0) _
          (NotSent a.port a.port) (rw c.rank-rank.ensures at c.in_default.ensures.first);
    }

-- the parcel that is sent is the packet's
pub send-requires-clause-parcel : goal.send-requires-clause-parcel
send-requires-clause-parcel g c =
    let made = c.address.ensures ∙ ap (λ (z : Parcel Packet). parcel_of z.item) c.deref_mut-2.ensures.value in
    let s = c.requires.1.1.some.stands in
    let to = c.in-Some.to in
    let first = front_cut (slice_get c.args.self.now.process.rank.sending.outbox.letters 0) to c.fill_front.result
    c.fill_front.new.into _ _ (λ none. cc) (rw c.rank-rank.ensures at c.in-Some.ensures.first)
    (rw c.rank-rank.ensures at c.fill_front.ensures.first) (rw c.rank-rank.ensures at c.fill_front.ensures.own) in
    let own = first.4 in
    let number = own.2 ∙ sym (s.is.stands.left to own.0).packets.popped ∙ (s.is.sent to own.0).many in (
      ap (λ (x : Parcel Packet). x.from) made ∙ own.1 ∙ s.is.stands.me,
      ap (λ (x : Parcel Packet). x.seq) made ∙ number,
    )

pub returns-in-Err : goal.returns-in-Err
returns-in-Err g c =
    let s = c.requires.1.1 in
    let a = c.args.self.now in
    let port = c.send.new.port in
    let e = c.send.ensures in
    let len : ℕ = length c.fill_front.new.into.payload in
    let fits = is_short len in
    let to = c.in-Some.to in
    let miss = subst (λ (x : Parcel Packet). HadMiss free_queue
    (tried (is_short (length x.item.payload)) to (knows a.port)) (knows port))
    (c.address.ensures ∙ ap (λ (z : Parcel Packet). parcel_of z.item) c.deref_mut-2.ensures.value)
    c.in-Err.ensures.back.1.miss in
    let n = c.args.f.now.ranks in
    let fresh = (rw c.rank-rank.ensures at c.is_worn.ensures).0 c.if-is_worn.false in
    let letters = a.process.rank.sending.outbox.letters in
    let first = front_cut (slice_get letters 0) to c.fill_front.result c.fill_front.new.into _ _ (λ none. cc)
    (rw c.rank-rank.ensures at c.in-Some.ensures.first) (rw c.rank-rank.ensures at c.fill_front.ensures.first)
    (rw c.rank-rank.ensures at c.fill_front.ensures.own) in
    let own = first.4 in
    let within = own.0 in
    let ranks = s.ranks.0 in
    let wide = s.cells.2 in
    let there = first.2 in
    record {
      moves = record {
        kept = port_goes_on c.args.f.now g.here.rings a a.process port s e.keeps
            (e.taken.2 ∙ s.rest ∙ ap count_held (sym e.taken.1)) refl (record {
              events = (grows_same a).events;
              ring = ring_same a.ring;
              port = port_by a.port port (entry_on (knows a.port) (tried fits to (knows a.port)) (knows port)
                  (tried_up fits to (knows a.port))
                  (miss_up free_queue (tried fits to (knows a.port)) (knows port) miss))
                  e.taken.0;
            }) (λ commands last at. nothing_carried commands last a port at e.keeps.rank e.taken.0
            (back_sent fits to (knows a.port) (knows port) miss)
            (back_got fits to (knows a.port) (knows port) miss));
        moved = did_none n a (record a { port = port }) refl
            (λ j. ap (λ (t : ℕ → ℕ). t j) c.in-Err.ensures.back.1.sent) e.taken.0 (λ j. (refl, refl));
        stepped = stepped_fresh false a (record a { port = port }) fresh refl (λ none. refl);
      };
      back = λ none fresh. subst (λ (o : Option Letter). IfSome o (NotSent a.port port)) (sym first.1)
          (came_back a.port port first.0 len (ap (λ (x : Packet). length x.payload) first.3)
          (omega (arith, within, ranks, wide, there))
          (subst (λ (k : ℕ). HadMiss free_queue (tried fits k (knows a.port)) (knows port)) first.2 miss));
      bound = e.bound;
    }

pub returns : goal.returns
returns g c =
    let s = c.requires.1.1 in
    let a = c.args.self.now in
    let v = c.pop_front.new.self in
    let port = c.send.new.port in
    let e = c.send.ensures in
    let p = c.pop_front.ensures in
    let pops = p.pops in
    let to = c.in-Some.to in
    let packet : Packet = c.fill_front.new.into in
    let shape = a.process.rank.sizes in
    let letters = a.process.rank.sending.outbox.letters in
    let first = front_cut (slice_get letters 0) to c.fill_front.result c.fill_front.new.into _ _ (λ none. cc)
    (rw c.rank-rank.ensures at c.in-Some.ensures.first) (rw c.rank-rank.ensures at c.fill_front.ensures.first)
    (rw c.rank-rank.ensures at c.fill_front.ensures.own) in
    let own = first.4 in
    let copied : packet ≡ first.0.packet = first.3 in
    let way = c.in-Ok.sent.path in
    let fits = is_short (length packet.payload) in
    let sends = subst (λ (x : Parcel Packet). SendsBy way (is_short (length x.item.payload)) to x a.port port)
    (c.address.ensures ∙ ap (λ (z : Parcel Packet). parcel_of z.item) c.deref_mut-2.ensures.value)
    c.in-Ok.ensures.sends in
    let within = own.0 in
    let here = s.some.stands in
    let number = own.2 ∙ sym (here.is.stands.left to within).packets.popped
    ∙ (here.is.sent to within).many in
    let moment = acted a.process.rank (outs (ended_by (slice_get letters 0))) in
    let n = c.args.f.now.ranks in
    let ranks = s.ranks.0 in
    let b : Actor _ = record { process = v; port = port; ring = a.ring; places = tt } in
    let grows : Grows a b = record {
      events = (_, pops.left.events);
      port = port_by a.port port (sends_up fits to (parcel_of packet) a.port port way sends) e.taken.0;
      ring = ring_same a.ring;
    } in
    let fresh = (rw c.rank-rank.ensures at c.is_worn.ensures).0 c.if-is_worn.false in
    record {
      moves = record {
        kept = port_goes_on c.args.f.now g.here.rings a v port s e.keeps
            (e.taken.2 ∙ s.rest ∙ ap count_held (sym e.taken.1)) pops.takes.sizes grows
            (λ commands last at.
            let on = c.a_packet_leaves.ensures shape commands a.port.rank a.process.rank v.rank at.past
            first.0 first.1 pops at.is.stands in
            let left : IsOf shape commands a.port.rank v.rank
            (with_moment (with_packet_left at.past (to, packet)) moment) =
            subst (λ (k : ℕ). IsOf shape commands a.port.rank v.rank
            (with_moment (with_packet_left at.past (k, packet)) moment)) (sym first.2)
            (subst (λ (x : Packet). IsOf shape commands a.port.rank v.rank
            (with_moment (with_packet_left at.past (first.0.to, x)) moment)) (sym copied) on) in
            send_on c.a_send_carries.ensures.some commands last a v port way fits to packet _ at e.keeps.rank
            e.taken sends number (p.work shape commands (last + 1) (omega arith) at.is.work) left);
        moved = did_more n a b grows
            (sent to (omega (arith, within, ranks)) (sent_more fits to (parcel_of packet) a.port port way sends));
        stepped = stepped_fresh true a b fresh (ap (λ (x : ProcessView). x.at) p.others)
            (λ none. absurd (clash none));
      };
      back = λ none fresh. absurd (clash none);
      bound = e.bound;
    }
