-- Each poll goes on from the one before.
use Rattle.std.proofs.Common.{Bool, false, subst}
use Rattle.nm_world.specs.Idle.{Moves}
use Rattle.nm_world.proofs.Moves.{moves_none, moves_on}
use Rattle.nm_world.proofs.actors.Actor.take_soon.Goals as goal

pub loop-poll-init : goal.loop-poll-init
loop-poll-init g c = moves_none (record g.here { fabric = c.args.f.now }) c.args.self.now c.requires.1.1

pub loop-poll-preserved : goal.loop-poll-preserved
loop-poll-preserved g c =
    let here = record g.here { fabric = c.args.f.now } in
    subst (λ (p : Bool). Moves here p c.args.self.now c.take_next.new.self) c.if-took.false
    (moves_on here false c.in_ok-took.took c.args.self.now c.loop-poll.self c.take_next.new.self
    c.loop-poll.invariant c.in_ok-took.ensures.moves)

pub returns-then-took : goal.returns-then-took
returns-then-took g c =
    let here = record g.here { fabric = c.args.f.now } in
    record {
      moves = subst (λ (p : Bool). Moves here p c.args.self.now c.take_next.new.self) c.if-took.true
          (moves_on here false c.in_ok-took.took c.args.self.now c.loop-poll.self c.take_next.new.self
          c.loop-poll.invariant c.in_ok-took.ensures.moves);
    }
