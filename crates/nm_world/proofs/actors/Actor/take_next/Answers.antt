-- The packet comes behind the others of its sender.
use Rattle.std.proofs.Common.{◌≡◌, ◌<◌, ℕ, ◌+◌, List, [], true, false, inl, inr, sym, ap, ◌∙◌, subst, arith, refl}
use Rattle.nm_rank.specs.Calls.{TakesPacket}
use Rattle.std.proofs.lemmas.List.{length-map}
use Rattle.nm_channels.specs.Moments.{taken_from}
use Rattle.nm_rank.specs.Ranks.{IsFresh, count_of}
use Rattle.nm_process.specs.Processes.{ProcessView}
use Rattle.nm_chain.specs.Rule.{Load, sent_to}
use Rattle.nm_cells.specs.Ports.{knows, taken_by}
use Rattle.nm_port.specs.Polls.{with_all_missed}
use Rattle.nm_chain.proofs.UpdateLemmas.{update_here}
use Rattle.nm_world.specs.Parcels.{packet_of}
use Rattle.nm_world.specs.declared.actors.Actor.{Actor}
use Rattle.nm_world.specs.Actors.{Grows, PortGrows}
use Rattle.nm_world.specs.Actors.Grew.{taken}
use Rattle.nm_world.proofs.Did.{did_more, did_none}
use Rattle.nm_world.proofs.Entries.{all_missed_up, entry_on, miss_up, polled_up}
use Rattle.nm_world.proofs.Grows.{grows_same, port_by, port_took, ring_same}
use Rattle.nm_world.proofs.Idle.{gave_none, stepped_fresh}
use Rattle.nm_world.proofs.Looks.{polled_miss, polled_some}
use Rattle.nm_world.proofs.Moves.{moves_none}
use Rattle.nm_world.proofs.Results.{clash}
use Rattle.nm_world.proofs.Steps.{none_got, none_sent, nothing_carried, port_goes_on, take_on}
use Rattle.nm_types.specs.declared.packets.Packet.{Packet}
use Rattle.nm_chain.specs.declared.table.parcels.Parcel.{Parcel}
use Rattle.nm_chain.specs.OwnQueues.{receive_queue}
use Rattle.nm_world.proofs.actors.Actor.take_next.Goals as goal

pub returns-then-is_worn : goal.returns-then-is_worn
returns-then-is_worn g c =
    let a = c.args.self.now in
    let not : ¬ IsFresh a.process.rank = λ fresh. clash
    (sym c.if-is_worn.true ∙ (rw c.rank-rank.ensures at c.is_worn.ensures).1 fresh) in
    record {
      bound = omega arith;
      moves = moves_none (record g.here { fabric = c.args.f.now }) a c.requires.1.1;
      none = λ none fresh. absurd (not fresh);
      polled = inr (not, refl);
    }

pub returns-in-Err : goal.returns-in-Err
returns-in-Err g c =
    let n = c.args.f.now.ranks in
    let gave_back = c.in-Err.ensures.none.1 in
    let s = c.requires.1.1 in
    let a = c.args.self.now in
    let port = c.poll.new.port in
    let b : Actor _ = record a { port = port } in
    let sent = none_sent (knows a.port) (knows port) gave_back.miss in
    let fresh = (rw c.rank-rank.ensures at c.is_worn.ensures).0 c.if-is_worn.false in
    let gave = gave_none a.process.rank.sizes.ranks a.port port (s.cells.2 ∙ s.ranks.0) gave_back.miss in
    let grows : PortGrows a.port port = port_by a.port port (entry_on (knows a.port)
    (with_all_missed (knows a.port)) (knows port) (all_missed_up (knows a.port))
    (miss_up receive_queue (with_all_missed (knows a.port)) (knows port) gave_back.miss)) gave_back.taken in
    record {
      moves = record {
        kept = port_goes_on c.args.f.now g.here.rings a a.process port s c.poll.ensures.keeps c.poll.ensures.rest
            refl (record { events = (grows_same a).events; ring = ring_same a.ring; port = grows })
            (λ commands last at. nothing_carried commands last a port at c.poll.ensures.keeps.rank gave_back.taken sent
            (none_got (knows a.port) (knows port) gave_back.miss));
        moved = did_none n a b refl
            (λ j. ap (λ (xs : List (ℕ × Load Packet)). sent_to j xs (knows port).put) sent.box
            ∙ ap (λ (xs : List (ℕ × Load Packet)). sent_to j (knows a.port).put_box xs) sent.cell)
            gave_back.taken (λ j. (refl, refl));
        stepped = stepped_fresh false a b fresh refl (λ none. refl);
      };
      bound = c.poll.ensures.bound;
      none = λ none fresh. gave;
      polled = inl (polled_miss a.process.rank.sizes.ranks a.port port grows gave.queue);
    }

pub take_packet-requires-clause-sender : goal.take_packet-requires-clause-sender
take_packet-requires-clause-sender g c =
    let ranks = c.args.self.now.process.rank.sizes.ranks in
    let letter_is = ap (λ (z : Parcel Packet). z.item) c.deref.ensures ∙ c.restore_header.ensures
    ∙ ap packet_of c.deref_mut.ensures.value in
    let low : c.in-Ok.letter.value.from < ranks = omega
    (arith, c.in-Ok.ensures.polls.next.sender, c.requires.1.1.ranks.0) in
    subst (λ (z : Packet). z.from < ranks) (sym letter_is) low

pub take_packet-requires-clause-number : goal.take_packet-requires-clause-number
take_packet-requires-clause-number g c =
    let s = c.requires.1.1.some.stands in
    let v = c.args.self.now.process.rank in
    let x = c.in-Ok.letter.value in
    let next = c.in-Ok.ensures.polls.next in
    let letter_is = ap (λ (z : Parcel Packet). z.item) c.deref.ensures ∙ c.restore_header.ensures
    ∙ ap packet_of c.deref_mut.ensures.value in
    let low : x.from < v.sizes.ranks = omega (arith, next.sender, c.requires.1.1.ranks.0) in
    let number : x.seq ≡ count_of v.took x.from = next.number ∙ sym (s.is.taken x.from low).many
    ∙ length-map (taken_from x.from s.past.log) (λ t. t.packet) ∙ sym (s.is.stands.logged.taken.took x.from) in
    subst (λ (z : Packet). z.seq ≡ count_of v.took z.from) (sym letter_is) number

pub returns : goal.returns
returns g c =
    let s = c.requires.1.1 in
    let v = c.take_packet.new.self in
    let x = c.in-Ok.letter.value in
    let p = packet_of x in
    let polls = c.in-Ok.ensures.polls in
    let next = polls.next in
    let sender = next.sender in
    let ranks = s.ranks.0 in
    let letter_is = ap (λ (z : Parcel Packet). z.item) c.deref.ensures ∙ c.restore_header.ensures
    ∙ ap packet_of c.deref_mut.ensures.value in
    let took = subst (λ (z : Packet). TakesPacket z c.args.self.now.process.rank v.rank) letter_is
    c.in_ok-take_packet.ensures.taken in
    let right = rw c.rank-rank.ensures at c.history.ensures.right in
    let low : p.from < c.args.self.now.process.rank.sizes.ranks = omega (arith, sender, ranks) in
    let n = c.args.f.now.ranks in
    let a = c.args.self.now in
    let port = c.poll.new.port in
    let b : Actor _ = record { process = v; port = port; ring = a.ring; places = tt } in
    let grows : Grows a b = record {
      events = (_, (took.happened (λ s. [])).events);
      port = port_took a.port port p.from
          (polled_up (knows a.port) (knows port) polls.same polls.later) next.taken;
      ring = ring_same a.ring;
    } in
    let more = ap (λ (t : ℕ → ℕ). t p.from) next.taken
    ∙ update_here (taken_by a.port) p.from (taken_by a.port p.from + 1) p.from refl in
    let fresh = (rw c.rank-rank.ensures at c.is_worn.ensures).0 c.if-is_worn.false in
    let up : taken_by a.port p.from < taken_by port p.from = omega (arith, more) in
    record {
      moves = record {
        kept = port_goes_on c.args.f.now g.here.rings a v port s c.poll.ensures.keeps c.poll.ensures.rest took.sizes
            grows (λ commands last at. take_on c.a_poll_carries.ensures.some commands last c.args.f.now a v port x at
            c.poll.ensures.keeps.rank polls
            (c.in_ok-take_packet.ensures.work a.process.rank.sizes commands (last + 1) (omega arith) at.is.work)
            (c.a_packet_is_taken.ensures a.process.rank.sizes commands a.port.rank a.process.rank v.rank at.past p
            right low took at.is.stands));
        moved = did_more n a b grows (taken p.from sender up);
        stepped = stepped_fresh true a b fresh (ap (λ (x : ProcessView). x.at) c.in_ok-take_packet.ensures.others)
            (λ none. absurd (clash none));
      };
      bound = c.poll.ensures.bound;
      none = λ none fresh. absurd (clash none);
      polled = inl (polled_some a.process.rank.sizes.ranks p.from a.port port grows.port
          (omega (arith, sender, ranks)) up);
    }
