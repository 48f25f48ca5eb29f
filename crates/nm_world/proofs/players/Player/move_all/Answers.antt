-- Each part goes on from the one before.
use Rattle.std.proofs.Common.{◌≡◌, ◌||◌, false, subst, sym, ap, ◌∙◌, arith}
use Rattle.nm_types.specs.declared.packets.Packet.{Packet}
use Rattle.nm_cells.specs.declared.port.Fabric.{Fabric}
use Rattle.nm_copyring.specs.declared.port.Rings.{Rings}
use Rattle.nm_rank.specs.Ranks.{IsFresh}
use Rattle.nm_process.specs.Processes.{ProcessView}
use Rattle.nm_process.specs.Steps.{goes_on}
use Rattle.nm_world.specs.declared.players.Player.{Player}
use Rattle.nm_world.specs.Actors.{Environment, HasPorts, did}
use Rattle.nm_world.specs.Idle.{Moves}
use Rattle.nm_world.specs.Players.{PlayerInvariant, PlaysOn}
use Rattle.nm_world.proofs.Moves.{moves_on}
use Rattle.nm_world.proofs.Playing.{carries_on, plays_and}
use Rattle.nm_world.proofs.Turn.{turn_idle, turn_looked}
use Rattle.nm_world.proofs.players.Player.move_all.Goals as goal
use Rattle.nm_types.proofs.TruthLemmas.{neither}

pub send_all-requires : goal.send_all-requires
send_all-requires g c lifetimes outlive = (
  outlive.0,
  (
    outlive.1,
    subst (λ (x : Environment). HasPorts c.args.f.now x.rings c.args.self.now.actor) (sym c.requires.1.1.1.1.0)
        c.requires.1.1.1.1.1.ports,
  ),
)

pub push_all-requires : goal.push_all-requires
push_all-requires g c lifetimes outlive =
    let p = c.send_all.new.self in (
      outlive.0,
      (
        outlive.1,
        subst (λ (x : Fabric Packet). HasPorts x c.args.r.now p)
            (sym (ap (λ (x : Environment). x.fabric) c.requires.1.1.1.1.0))
            (subst (λ (x : Rings). HasPorts c.args.f.now x p)
            (ap (λ (x : Environment). x.rings) c.requires.1.1.1.1.0) c.in_ok-sent.ensures.moves.kept.ports),
      ),
    )

pub take_all-requires : goal.take_all-requires
take_all-requires g c lifetimes outlive =
    let p = c.push_all.new.self in (
      outlive.0,
      (
        outlive.1,
        subst (λ (x : Rings). HasPorts c.args.f.now x p) (sym (ap (λ (x : Environment). x.rings) c.requires.1.1.1.1.0))
            (subst (λ (x : Fabric Packet). HasPorts x c.args.r.now p)
            (ap (λ (x : Environment). x.fabric) c.requires.1.1.1.1.0) c.in_ok-pushed.ensures.moves.kept.ports),
      ),
    )

pub pull_all-requires : goal.pull_all-requires
pull_all-requires g c lifetimes outlive =
    let p = c.take_all.new.self in
    let fabric = sym (ap (λ (x : Environment). x.fabric) c.requires.1.1.1.1.0) in (
      outlive.0,
      (
        outlive.1,
        (
          ap (λ (x : Fabric Packet). x.ranks) fabric,
          subst (λ (x : Fabric Packet). HasPorts x c.args.r.now p) fabric
              (subst (λ (x : Rings). HasPorts c.args.f.now x p)
              (ap (λ (x : Environment). x.rings) c.requires.1.1.1.1.0) c.in_ok-took.ensures.moves.kept.ports),
        ),
      ),
    )

pub run_all-requires : goal.run_all-requires
run_all-requires g c lifetimes outlive =
    let here = c.requires.1.1.1.1.0 in
    let f = c.args.f.now in
    let r = c.args.r.now in
    let x = c.args.self.now in
    let a = x.actor in
    let s = c.send_all.new.self in
    let p = c.push_all.new.self in
    let t = c.take_all.new.self in
    let u = c.pull_all.new.self in
    let all : Environment = record { fabric = f; rings = r } in
    let one = subst (λ (x : Environment). Moves (record x { fabric = f }) c.in_ok-sent.sent a s) here
    c.in_ok-sent.ensures.moves in
    let two = subst (λ (x : Environment). Moves (record x { rings = r }) c.in_ok-pushed.pushed s p) here
    c.in_ok-pushed.ensures.moves in
    let three = subst (λ (x : Environment). Moves (record x { fabric = f }) c.in_ok-took.took p t) here
    c.in_ok-took.ensures.moves in
    let four = subst (λ (x : Environment). Moves (record x { rings = r }) c.in_ok-pulled.pulled t u) here
    c.in_ok-pulled.ensures.moves in
    let su = moves_on all _ _ a t u (moves_on all _ _ a p t (moves_on all _ _ a s p one two) three) four in
    let y : Player _ _ = record { actor = u; source = x.source } in (
      outlive.0,
      (
        outlive.1.0,
        (
          outlive.1.1,
          (
            sym (ap (λ (x : Environment). x.fabric) here),
            subst (λ (x : Environment). PlayerInvariant g.S.Source.shows g.S.Source.gives x.fabric x.rings y) (sym here)
                (carries_on g.S.Source.shows g.S.Source.gives f r x u c.requires.1.1.1.1.1 su.kept su.stepped.at).stands,
          ),
        ),
      ),
    )

pub returns : goal.returns
returns g c =
    let here = c.requires.1.1.1.1.0 in
    let shows = g.S.Source.shows in
    let gives = g.S.Source.gives in
    let f = c.args.f.now in
    let r = c.args.r.now in
    let x = c.args.self.now in
    let a = x.actor in
    let s = c.send_all.new.self in
    let p = c.push_all.new.self in
    let t = c.take_all.new.self in
    let u = c.pull_all.new.self in
    let e = c.run_all.new.self in
    let sent = c.in_ok-sent.ensures in
    let pushed = c.in_ok-pushed.ensures in
    let took = c.in_ok-took.ensures in
    let pulled = c.in_ok-pulled.ensures in
    let ran = c.in_ok-ran.ensures in
    let all : Environment = record { fabric = f; rings = r } in
    let one = subst (λ (x : Environment). Moves (record x { fabric = f }) c.in_ok-sent.sent a s) here sent.moves in
    let two = subst (λ (x : Environment). Moves (record x { rings = r }) c.in_ok-pushed.pushed s p) here
    pushed.moves in
    let three = subst (λ (x : Environment). Moves (record x { fabric = f }) c.in_ok-took.took p t) here took.moves in
    let four = subst (λ (x : Environment). Moves (record x { rings = r }) c.in_ok-pulled.pulled t u) here
    pulled.moves in
    let y : Player _ _ = record { actor = u; source = x.source } in
    let five = subst (λ (x : Environment). PlaysOn shows gives x.fabric x.rings y e) here ran.kept in
    let run_moved = subst (λ (x : Environment). c.in_ok-ran.ran ≡ did x.fabric.ranks u e.actor) here ran.moved in
    let sp = moves_on all _ _ a s p one two in
    let st = moves_on all _ _ a p t sp three in
    let su = moves_on all _ _ a t u st four in
    let stands = c.requires.1.1.1.1.1 in
    let to_u = carries_on shows gives f r x u stands su.kept su.stepped.at in
    let se = plays_and shows gives f r f.ranks x y e _ c.in_ok-ran.ran to_u five su.moved run_moved in
    let bound_s = sent.bound in
    let bound_p = pushed.bound in
    let bound_t = took.bound in
    let bound_u = pulled.bound in
    let bound_e = ran.bound in
    record {
      kept = se.0;
      moved = se.1;
      idle = λ none fresh.
          let n4 = neither (((c.in_ok-sent.sent || c.in_ok-pushed.pushed) || c.in_ok-took.took)
          || c.in_ok-pulled.pulled) c.in_ok-ran.ran none in
          let n3 = neither ((c.in_ok-sent.sent || c.in_ok-pushed.pushed) || c.in_ok-took.took)
          c.in_ok-pulled.pulled n4.0 in
          let n2 = neither (c.in_ok-sent.sent || c.in_ok-pushed.pushed) c.in_ok-took.took n3.0 in
          let n1 = neither c.in_ok-sent.sent c.in_ok-pushed.pushed n2.0 in
          let sa = sent.moves.stepped.still n1.0 in
          let ps = pushed.moves.stepped.still n1.1 in
          let tp = took.moves.stepped.still n2.1 in
          let ut = pulled.moves.stepped.still n3.1 in
          let fresh_s = subst (λ (v : ProcessView). IsFresh v.rank) (sym sa) fresh in
          let fresh_p = subst (λ (v : ProcessView). IsFresh v.rank) (sym ps) fresh_s in
          let fresh_t = subst (λ (v : ProcessView). IsFresh v.rank) (sym tp) fresh_p in
          let fresh_u = subst (λ (v : ProcessView). IsFresh v.rank) (sym ut) fresh_t in
          record {
            idle = turn_idle f r a s p t u e.actor one.kept two.kept three.kept four.kept five.grows f.ranks
                stands.ports.ranks.0 sa ps tp ut (ran.still n4.1) (sent.back n1.0 fresh) (pushed.back n1.1 fresh_s)
                (took.none n2.1 fresh_p) (pulled.none n3.1 fresh_t);
            stuck = λ commands last given. subst (λ (v : ProcessView). goes_on commands v ≡ false)
                (ut ∙ tp ∙ ps ∙ sa) (ran.stuck n4.1 fresh_u commands last given);
          };
      looked = λ commands last given.
          let before = five.source.gave commands last given in
          turn_looked f r a s p t u e.actor one.kept two.kept three.kept four.kept five.grows commands before.before
          (stands.stands commands before.before before.gives) sent.moves.stepped.at pushed.moves.stepped.at
          took.moves.stepped.at pulled.moves.stepped.at took.polled pulled.moves.stepped.worn ran.worn
          (ran.polled commands last given);
      bound = omega (arith, bound_s, bound_p, bound_t, bound_u, bound_e);
    }
