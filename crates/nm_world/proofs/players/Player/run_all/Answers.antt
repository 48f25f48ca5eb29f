-- Each command goes on from the one before.
use Rattle.std.proofs.Common.{◌≡◌, ◌+◌, ◌||◌, false, refl, sym, ap, ◌∙◌, subst, arith}
use Rattle.std.specs.Prelude.{nat_lt}
use Rattle.nm_types.specs.declared.packets.Packet.{Packet}
use Rattle.nm_cells.specs.declared.port.Fabric.{Fabric}
use Rattle.nm_rank.specs.Ranks.{IsFresh}
use Rattle.nm_process.specs.Processes.{ProcessView}
use Rattle.nm_process.specs.Steps.{goes_on}
use Rattle.nm_world.specs.declared.players.Player.{Player}
use Rattle.nm_world.specs.Actors.{Seat, did}
use Rattle.nm_world.specs.Idle.{Moves}
use Rattle.nm_world.specs.Looks.{PolledBefore}
use Rattle.nm_world.specs.Players.{PlayerInvariant, PlaysOn}
use Rattle.nm_world.proofs.Did.{did_same}
use Rattle.nm_world.proofs.Looks.{looked_last, looked_more, looked_none}
use Rattle.nm_world.proofs.Loops.{all_made, is_first, none_ran, or_swap}
use Rattle.nm_world.proofs.Loops.{some_more, spent_all, spent_last, spent_more, stays_worn}
use Rattle.nm_world.proofs.Playing.{moves_actor, plays_and, plays_same}
use Rattle.nm_world.proofs.Results.{clash}
use Rattle.nm_world.proofs.players.Player.run_all.Goals as goal
use Rattle.nm_types.proofs.TruthLemmas.{or_right, neither}

pub loop-ran-init : goal.loop-ran-init
loop-ran-init g c =
    let x = c.args.self.now in
    record {
      kept = plays_same g.S.Source.shows g.S.Source.gives g.here.fabric g.here.rings x c.requires.1.1.1.1;
      moved = did_same g.here.fabric.ranks x.actor;
      first = λ e. refl;
      polled = λ commands last given. looked_none commands x.actor;
      worn = λ worn. refl;
      bound = omega arith;
    }

pub look-requires : goal.look-requires
look-requires g c lifetimes outlive = (
  outlive.0,
  (
    outlive.1.0,
    (
      outlive.1.1,
      subst (λ (f : Fabric Packet). PlayerInvariant g.S.Source.shows g.S.Source.gives f g.here.rings c.loop-ran.self)
          (sym c.requires.1.1.1.0) c.loop-ran.invariant.kept.stands,
    ),
  ),
)

pub run_next-requires : goal.run_next-requires
run_next-requires g c lifetimes outlive =
    let b = c.loop-ran.self in
    let m = c.look.new.self in
    let two = c.in_ok-looked.ensures in
    let moves = subst (λ (f : Fabric Packet). Moves (record g.here { fabric = f }) c.in_ok-looked.looked b.actor
    m.actor)
    c.requires.1.1.1.0 two.moves in (
      outlive.0,
      (
        outlive.1,
        (moves_actor g.S.Source.shows g.S.Source.gives g.here.fabric g.here.rings b m c.in_ok-looked.looked
            c.loop-ran.invariant.kept.stands moves two.source).stands,
      ),
    )

pub loop-ran-preserved : goal.loop-ran-preserved
loop-ran-preserved g c =
    let shows = g.S.Source.shows in
    let gives = g.S.Source.gives in
    let f = g.here.fabric in
    let r = g.here.rings in
    let a = c.args.self.now in
    let b = c.loop-ran.self in
    let m = c.look.new.self in
    let d = c.run_next.new.self in
    let one = c.loop-ran.invariant in
    let two = c.in_ok-looked.ensures in
    let moves = subst (λ (f : Fabric Packet). Moves (record g.here { fabric = f }) c.in_ok-looked.looked b.actor
    m.actor)
    c.requires.1.1.1.0 two.moves in
    let two_kept = moves_actor shows gives f r b m c.in_ok-looked.looked one.kept.stands moves two.source in
    let three = c.in_ok-run_next.ensures in
    let ran = c.if-not-branch.false in
    let both = plays_and shows gives f r f.ranks a b m (c.loop-ran.took || nat_lt 0 c.loop-ran.ran)
    c.in_ok-looked.looked
    one.kept two_kept one.moved moves.moved in
    let all = plays_and shows gives f r f.ranks a m d _ c.in_ok-run_next.field-0 both.0 three.kept both.1 three.moved in
    record {
      kept = all.0;
      moved = or_right (c.loop-ran.took || c.in_ok-looked.looked) (nat_lt 0 (c.loop-ran.ran + 1))
          (some_more c.loop-ran.ran)
          ∙ sym (or_right ((c.loop-ran.took || nat_lt 0 c.loop-ran.ran) || c.in_ok-looked.looked)
          c.in_ok-run_next.field-0 ran) ∙ all.1;
      first = λ e. absurd (omega (arith, e));
      polled = λ commands last given.
          let before = three.kept.source.gave commands last given in
          let gave = subst (λ s. gives s commands before.before) two.source before.gives in
          looked_more commands before.before f r a.actor b.actor m.actor d.actor one.kept.grows
          (ap (λ (s : Seat). s.sizes.ranks) one.kept.seat) (one.kept.stands.stands commands before.before gave)
          moves.kept
          three.kept.grows moves.stepped.at (three.kept.stands.stands commands last given).is.work.answers
          (one.polled commands before.before gave) (two.polled commands before.before gave) (three.ran ran)
          (three.next ran commands last given);
      worn = λ worn. absurd (none_ran a.actor b.actor m.actor one.worn moves.stepped.worn worn (three.ran ran));
      bound = spent_more c.loop-ran.ran (c.args.f.now.ranks + 10) c.args.steps.now c.loop-ran.steps
          c.look.new.steps one.bound two.bound;
    }

pub returns-then-not-branch : goal.returns-then-not-branch
returns-then-not-branch g c =
    let shows = g.S.Source.shows in
    let gives = g.S.Source.gives in
    let f = g.here.fabric in
    let r = g.here.rings in
    let a = c.args.self.now in
    let b = c.loop-ran.self in
    let m = c.look.new.self in
    let d = c.run_next.new.self in
    let one = c.loop-ran.invariant in
    let two = c.in_ok-looked.ensures in
    let moves = subst (λ (f : Fabric Packet). Moves (record g.here { fabric = f }) c.in_ok-looked.looked b.actor
    m.actor)
    c.requires.1.1.1.0 two.moves in
    let two_kept = moves_actor shows gives f r b m c.in_ok-looked.looked one.kept.stands moves two.source in
    let three = c.in_ok-run_next.ensures in
    let rests = c.if-not-branch.true in
    let took = c.loop-ran.took in
    let looked = c.in_ok-looked.looked in
    let same : d ≡ m = three.still rests in
    let both = plays_and shows gives f r f.ranks a b m (took || nat_lt 0 c.loop-ran.ran) looked one.kept two_kept
    one.moved
    moves.moved in
    let before : (took || looked) || nat_lt 0 c.loop-ran.ran ≡ false → (b ≡ a) × (looked ≡ false) =
    λ none. let two_none = neither (took || looked) (nat_lt 0 c.loop-ran.ran) none in
    (one.first (is_first c.loop-ran.ran two_none.1), (neither took looked two_none.0).1) in
    let still : (took || looked) || nat_lt 0 c.loop-ran.ran ≡ false → m.actor.process ≡ a.actor.process =
    λ none. moves.stepped.still (before none).1 ∙ ap (λ (x : Player _ _). x.actor.process) (before none).0 in
    record {
      kept = subst (λ (x : Player _ _). PlaysOn shows gives f r a x) (sym same) both.0;
      moved = or_swap took looked (nat_lt 0 c.loop-ran.ran)
          ∙ subst (λ (x : Player _ _). ((took || nat_lt 0 c.loop-ran.ran) || looked) ≡ did f.ranks a.actor x.actor)
          (sym same) both.1;
      still = λ none. ap (λ (x : Player _ _). x.actor.process) same ∙ still none;
      stuck = λ none fresh commands last given. subst (λ (v : ProcessView). goes_on commands v ≡ false) (still none)
          (three.stuck rests (subst (λ (v : ProcessView). IsFresh v.rank) (sym (still none)) fresh) commands last
          (subst (λ s. gives s commands last)
          (sym (two.source ∙ ap (λ (x : Player _ _). x.source) (before none).0)) given));
      polled = λ commands last given.
          let at_m = subst (λ (x : Player _ _). gives x.source commands last) same given in
          let gave = subst (λ s. gives s commands last) two.source at_m in
          subst (λ (x : Player _ _). PolledBefore commands a.actor x.actor) (sym same)
          (looked_last commands last f r a.actor b.actor m.actor (one.kept.stands.stands commands last gave) moves.kept
          moves.stepped.at (one.polled commands last gave));
      worn = λ worn. ap (λ (x : Player _ _). x.actor) same
          ∙ stays_worn a.actor b.actor m.actor one.worn moves.stepped.worn worn;
      bound = spent_last c.loop-ran.ran 64 (c.args.f.now.ranks + 10) c.args.steps.now c.loop-ran.steps
          c.look.new.steps
          c.loop-ran-test.true one.bound two.bound;
    }

pub returns-in_err-looked-clause-bound : goal.returns-in_err-looked-clause-bound
returns-in_err-looked-clause-bound g c =
    spent_last c.loop-ran.ran 64 (c.args.f.now.ranks + 10) c.args.steps.now c.loop-ran.steps c.look.new.steps
    c.loop-ran-test.true c.loop-ran.invariant.bound c.in_err-looked.ensures.bound

pub returns-in_err-run_next-clause-bound : goal.returns-in_err-run_next-clause-bound
returns-in_err-run_next-clause-bound g c =
    spent_last c.loop-ran.ran 64 (c.args.f.now.ranks + 10) c.args.steps.now c.loop-ran.steps c.look.new.steps
    c.loop-ran-test.true c.loop-ran.invariant.bound c.in_ok-looked.ensures.bound

pub returns : goal.returns
returns g c =
    let i = c.loop-ran.invariant in
    let some = all_made c.loop-ran.ran 64 c.loop-ran-test.false (omega arith) in
    record {
      kept = i.kept;
      moved = sym (or_right c.loop-ran.took (nat_lt 0 c.loop-ran.ran) some) ∙ i.moved;
      still = λ none. absurd (clash none);
      stuck = λ none fresh. absurd (clash none);
      polled = i.polled;
      worn = i.worn;
      bound = spent_all c.loop-ran.ran 64 (c.args.f.now.ranks + 10) c.args.steps.now c.loop-ran.steps
          (omega arith) i.bound;
    }
