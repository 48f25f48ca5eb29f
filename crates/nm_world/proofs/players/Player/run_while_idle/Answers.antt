-- Each command goes on from the one before.
use Rattle.std.proofs.Common.{subst, sym}
use Rattle.nm_types.specs.declared.packets.Packet.{Packet}
use Rattle.nm_cells.specs.declared.port.Fabric.{Fabric}
use Rattle.nm_world.specs.Idle.{Moves}
use Rattle.nm_world.specs.Players.{PlayerInvariant}
use Rattle.nm_world.proofs.Playing.{moves_actor, plays_on, plays_same}
use Rattle.nm_world.proofs.players.Player.run_while_idle.Goals as goal

pub loop-command-init : goal.loop-command-init
loop-command-init g c =
    plays_same g.S.Source.shows g.S.Source.gives g.here.fabric g.here.rings c.args.self.now c.requires.1.1.1.1

pub look-requires : goal.look-requires
look-requires g c lifetimes outlive = (
  outlive.0,
  (
    outlive.1.0,
    (
      outlive.1.1,
      subst (λ (f : Fabric Packet). PlayerInvariant g.S.Source.shows g.S.Source.gives f g.here.rings c.loop-command.self)
          (sym c.requires.1.1.1.0) c.loop-command.invariant.stands,
    ),
  ),
)

pub run_next-requires : goal.run_next-requires
run_next-requires g c lifetimes outlive =
    let b = c.loop-command.self in
    let m = c.look.new.self in
    let two = c.in_ok-look.ensures in
    let moves = subst (λ (f : Fabric Packet). Moves (record g.here { fabric = f }) c.in_ok-look.field-0 b.actor
    m.actor)
    c.requires.1.1.1.0 two.moves in (
      outlive.0,
      (
        outlive.1,
        (moves_actor g.S.Source.shows g.S.Source.gives g.here.fabric g.here.rings b m c.in_ok-look.field-0
            c.loop-command.invariant.stands moves two.source).stands,
      ),
    )

pub loop-command-preserved : goal.loop-command-preserved
loop-command-preserved g c =
    let shows = g.S.Source.shows in
    let gives = g.S.Source.gives in
    let f = g.here.fabric in
    let r = g.here.rings in
    let a = c.args.self.now in
    let b = c.loop-command.self in
    let m = c.look.new.self in
    let one = c.loop-command.invariant in
    let two = c.in_ok-look.ensures in
    let moves = subst (λ (f : Fabric Packet). Moves (record g.here { fabric = f }) c.in_ok-look.field-0 b.actor
    m.actor)
    c.requires.1.1.1.0 two.moves in
    let two_kept = moves_actor shows gives f r b m c.in_ok-look.field-0 one.stands moves two.source in
    plays_on shows gives f r a m c.run_next.new.self (plays_on shows gives f r a b m one two_kept)
    c.in_ok-run_next.ensures.kept

pub returns-then-not-branch : goal.returns-then-not-branch
returns-then-not-branch g c =
    let shows = g.S.Source.shows in
    let gives = g.S.Source.gives in
    let f = g.here.fabric in
    let r = g.here.rings in
    let a = c.args.self.now in
    let b = c.loop-command.self in
    let m = c.look.new.self in
    let one = c.loop-command.invariant in
    let two = c.in_ok-look.ensures in
    let moves = subst (λ (f : Fabric Packet). Moves (record g.here { fabric = f }) c.in_ok-look.field-0 b.actor
    m.actor)
    c.requires.1.1.1.0 two.moves in
    let two_kept = moves_actor shows gives f r b m c.in_ok-look.field-0 one.stands moves two.source in
    plays_on shows gives f r a m c.run_next.new.self (plays_on shows gives f r a b m one two_kept)
    c.in_ok-run_next.ensures.kept
