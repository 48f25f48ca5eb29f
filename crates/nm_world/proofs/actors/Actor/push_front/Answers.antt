-- The piece comes behind the others for its receiver.
use Rattle.std.proofs.Common.{◌<◌, ◌+◌, true, Option, length, ap, subst, arith, refl}
use Rattle.std.specs.Prelude.{IfSome}
use Rattle.nm_rndv.specs.Offers.{Offered}
use Rattle.nm_process.specs.Processes.{ProcessView}
use Rattle.nm_copyring.specs.Ports.{full_to}
use Rattle.nm_copyring.specs.Plays.{one_full, one_pushed}
use Rattle.nm_copyring.specs.Ports as ring
use Rattle.nm_world.proofs.Did.{did_more}
use Rattle.nm_world.proofs.Grows.{full_up, port_same, pushed_more, pushed_up, ring_up}
use Rattle.nm_world.proofs.Idle.{piece_back, stepped_fresh}
use Rattle.nm_world.proofs.Moves.{moves_none, port_missed}
use Rattle.nm_world.proofs.Leaves.{push_on}
use Rattle.nm_world.proofs.Results.{clash}
use Rattle.nm_world.proofs.Steps.{ring_goes_on}
use Rattle.nm_world.specs.declared.actors.Actor.{Actor}
use Rattle.nm_world.specs.Actors.{Grows}
use Rattle.nm_world.specs.Actors.Grew.{pushed}
use Rattle.nm_world.proofs.actors.Actor.push_front.Goals as goal

pub returns : goal.returns
returns g c =
    let s = c.requires.1.1.0 in
    let a = c.args.self.now in
    let v = c.pop_piece.new.self in
    let next = rw c.rank.ensures at c.in-Some.ensures.next in
    let own = rw c.rank.ensures at c.in-Some.ensures.own in
    let p = c.pop_piece.ensures in
    let pops = p.pops in
    let to = c.in-Some.to in
    let q = c.front_piece.new.into in
    let shape = a.process.rank.sizes in
    let within = own.0 in
    let ranks = s.ranks.1 in
    let knew = c.in-Ok.ensures.pushes in
    let n = g.here.fabric.ranks in
    let low : to < c.args.r.now.ranks = omega (arith, within, ranks) in
    let wide = s.rings.1.2 in
    let b : Actor _ = record { process = v; port = a.port; ring = c.push.new.port; places = tt } in
    let grows : Grows a b = record {
      events = (_, pops.left.events);
      port = port_same a.port;
      ring = ring_up a.ring c.push.new.port (one_pushed q) to (omega (arith, low, wide))
          (pushed_up q) knew;
    } in
    let cells = s.ranks.0 in
    let fresh = c.requires.1.1.1 in
    record {
      moves = record {
        kept = ring_goes_on g.here.fabric c.args.r.now a v c.push.new.port s c.push.ensures.keeps pops.takes.sizes grows
            (λ commands last at. push_on commands last a v c.push.new.port to q _ at (omega (arith, low, wide)) knew
            (p.work shape commands (last + 1) (omega arith) at.is.work)
            (c.a_piece_leaves.ensures shape commands a.port.rank a.process.rank v.rank at.past (to, q) next own.1 own.2
            pops at.is.stands));
        moved = did_more n a b grows (pushed to (omega (arith, within, cells))
            (pushed_more (ring.knows a.ring) (ring.knows c.push.new.port) to q
            (omega (arith, low, wide)) knew));
        stepped = stepped_fresh true a b fresh (ap (λ (x : ProcessView). x.at) p.others)
            (λ none. absurd (clash none));
      };
      bound = let cost = c.in-Ok.ensures.cost.0 in omega (arith, cost);
      back = λ none. absurd (clash none);
    }

pub returns-in_default : goal.returns-in_default
returns-in_default g c =
    let a = c.args.self.now in
    record {
      bound = omega arith;
      moves = moves_none (record g.here { rings = c.args.r.now }) a c.requires.1.1.0;
      back = λ none. subst (λ (o : Option Offered). IfSome o (λ o. full_to a.ring o.to < full_to a.ring o.to))
          (rw c.rank.ensures at c.in_default.ensures.next) tt;
    }

pub returns-in-Err : goal.returns-in-Err
returns-in-Err g c =
    let s = c.requires.1.1.0 in
    let a = c.args.self.now in
    let to = c.in-Some.to in
    let own = rw c.rank.ensures at c.in-Some.ensures.own in
    let within = own.0 in
    let ranks = s.ranks.1 in
    let wide = s.rings.1.2 in
    let low : to < length (ring.knows a.ring).lanes = omega (arith, within, ranks, wide) in
    let knew = c.in-Err.ensures.refused.1 in
    let fresh = c.requires.1.1.1 in
    let done = port_missed (record g.here { rings = c.args.r.now }) a c.push.new.port one_full to fresh s
    c.push.ensures.keeps low full_up (λ l. (refl, refl)) knew in
    let b : Actor _ = record a { ring = c.push.new.port } in
    record {
      bound = let cost = c.in-Err.ensures.cost.1 in omega (arith, cost);
      moves = done;
      back = λ none. piece_back a b to c.front_piece.new.into
          (rw c.rank.ensures at c.in-Some.ensures.next) low knew;
    }
