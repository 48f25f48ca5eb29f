-- The piece comes behind the others for its receiver.
use Rattle.std.proofs.Common.{◌<◌, false, sym, refl, ◌∙◌, subst, arith, length}
use Rattle.std.specs.Prelude.{IfSome}
use Rattle.nm_rndv.specs.Offers.{next_offered}
use Rattle.nm_copyring.specs.Plays.{one_full}
use Rattle.nm_copyring.specs.Ports as ring
use Rattle.nm_copyring.specs.Rule.{lane}
use Rattle.nm_copyring.specs.declared.table.Entry as ring_entry
use Rattle.nm_world.specs.declared.actors.Actor.{Actor}
use Rattle.nm_world.proofs.Grows.{full_up}
use Rattle.nm_world.proofs.Idle.{none_back, place_full}
use Rattle.nm_world.proofs.Moves.{moves_none, moves_on, port_looked, port_missed}
use Rattle.nm_world.proofs.Results.{clash}
use Rattle.nm_world.proofs.actors.Actor.push_next.Goals as goal

pub returns-in_default : goal.returns-in_default
returns-in_default g c =
    let a = c.args.self.now in
    record {
      bound = omega arith;
      moves = moves_none (record g.here { rings = c.args.r.now }) a c.requires.1.1;
      back = λ none fresh. none_back a (rw c.rank-rank.ensures at c.in_default.ensures.to);
    }

pub returns-then-is_worn : goal.returns-then-is_worn
returns-then-is_worn g c =
    let a = c.args.self.now in
    record {
      bound = omega arith;
      moves = moves_none (record g.here { rings = c.args.r.now }) a c.requires.1.1;
      back = λ none fresh. absurd (clash (sym c.if-is_worn.true
          ∙ (rw c.rank-rank.ensures at c.is_worn.ensures).1 fresh));
    }

pub returns-then-not-can_push : goal.returns-then-not-can_push
returns-then-not-can_push g c =
    let s = c.requires.1.1 in
    let a = c.args.self.now in
    let to = c.in-Some.to in
    let within = rw c.rank-rank.ensures at c.in-Some.ensures.in_range in
    let ranks = s.ranks.1 in
    let wide = s.rings.1.2 in
    let low : to < length (ring.knows a.ring).lanes = omega (arith, within, ranks, wide) in
    let knew = c.can_push.ensures.full c.if-not-can_push.true in
    let fresh = (rw c.rank-rank.ensures at c.is_worn.ensures).0 c.if-is_worn.false in
    let done = port_missed (record g.here { rings = c.args.r.now }) a c.can_push.new.port one_full to fresh s
    c.can_push.ensures.keeps low full_up (λ l. (refl, refl)) knew in
    let b : Actor _ = record a { ring = c.can_push.new.port } in
    record {
      bound = let cost = c.can_push.ensures.cost in omega (arith, cost);
      moves = done;
      back = λ none fresh. place_full a b to (rw c.rank-rank.ensures at c.in-Some.ensures.to) low knew;
    }

pub push_front-requires : goal.push_front-requires
push_front-requires g c lifetimes outlive =
    let a = c.args.self.now in
    let fresh = (rw c.rank-rank.ensures at c.is_worn.ensures).0 c.if-is_worn.false in
    let looked = port_looked (record g.here { rings = c.args.r.now }) a c.can_push.new.port fresh c.requires.1.1
    c.can_push.ensures.keeps ((c.can_push.ensures.free c.if-not-can_push.false).0) in
    (outlive.0, (outlive.1, (looked.kept.ports, fresh)))

pub returns : goal.returns
returns g c =
    let a = c.args.self.now in
    let port = c.can_push.new.port in
    let knew = (c.can_push.ensures.free c.if-not-can_push.false).0 in
    let fresh = (rw c.rank-rank.ensures at c.is_worn.ensures).0 c.if-is_worn.false in
    let looked = port_looked (record g.here { rings = c.args.r.now }) a port fresh c.requires.1.1
    c.can_push.ensures.keeps knew in
    let b : Actor _ = record a { ring = port } in
    let d = c.push_front.new.self in
    let e = c.push_front.ensures in
    record {
      bound = let cost = c.can_push.ensures.cost in let more = e.bound in omega (arith, cost, more);
      moves = moves_on (record g.here { rings = c.args.r.now }) false c.push_front.result a b d looked e.moves;
      back = λ none fresh. subst
          (λ (x : ring_entry.Entry). IfSome (next_offered a.process.rank.sending.offers)
          (λ o. (lane x o.to).full < ring.full_to d.ring o.to)) knew (e.back none);
    }
