-- Each step goes on from the one before.
use Rattle.std.proofs.Common.{◌+◌, Bool, subst, sym, arith, inl}
use Rattle.nm_rank.specs.Ranks.{IsFresh}
use Rattle.nm_world.specs.declared.actors.Actor.{Actor}
use Rattle.nm_world.specs.Idle.{GaveNone, Moves}
use Rattle.nm_world.proofs.Looks.{polled_by_step, polled_last}
use Rattle.nm_world.proofs.Loops.{all_made, loop_last, loop_more, loop_none}
use Rattle.nm_world.proofs.Loops.{some_made, spent_all, spent_last, spent_more}
use Rattle.nm_world.proofs.Results.{clash}
use Rattle.nm_world.proofs.actors.Actor.take_all.Goals as goal

pub loop-took-init : goal.loop-took-init
loop-took-init g c = record {
  looped = loop_none (record g.here { fabric = c.args.f.now }) c.args.self.now c.requires.1.1;
  polled = λ some. absurd (omega (arith, some));
  bound = omega arith;
}

pub loop-took-preserved : goal.loop-took-preserved
loop-took-preserved g c =
    let e = c.in_ok-take_next.ensures in
    let a = c.args.self.now in
    let b = c.loop-took.self in
    let d = c.take_next.new.self in
    let looped = loop_more (record g.here { fabric = c.args.f.now }) c.args.self.now c.loop-took.took c.loop-took.self
    c.take_next.new.self c.in_ok-take_next.field-0 c.if-not-branch.false
    c.loop-took.invariant.looped e.moves in
    record {
      looped = looped;
      polled = λ some. polled_by_step (record g.here { fabric = c.args.f.now }) a b d
          c.in_ok-take_next.field-0 c.loop-took.invariant.looped.moves.kept c.if-not-branch.false e.moves e.polled;
      bound = spent_more c.loop-took.took (c.args.f.now.ranks + 10) c.args.steps.now c.loop-took.steps
          c.take_next.new.steps c.loop-took.invariant.bound e.bound;
    }

pub returns-then-not-branch : goal.returns-then-not-branch
returns-then-not-branch g c =
    let e = c.in_ok-take_next.ensures in
    let a = c.args.self.now in
    let b = c.loop-took.self in
    let d = c.take_next.new.self in
    let done = loop_last (record g.here { fabric = c.args.f.now }) a c.loop-took.took b d
    c.in_ok-take_next.field-0 c.if-not-branch.true c.loop-took.invariant.looped e.moves in
    record {
      moves = done.moves;
      none = λ none fresh. let same = done.sole none in
          subst (λ (x : Actor _). GaveNone x.process.rank.sizes.ranks x.port d.port) same
          (e.none c.if-not-branch.true (subst (λ (x : Actor _). IsFresh x.process.rank) (sym same) fresh));
      polled = polled_last (record g.here { fabric = c.args.f.now }) c.loop-took.took a b d
          c.loop-took.invariant.looped c.loop-took.invariant.polled e.moves.kept.grows e.polled;
      bound = spent_last c.loop-took.took 64 (c.args.f.now.ranks + 10) c.args.steps.now c.loop-took.steps
          c.take_next.new.steps c.loop-took-test.true c.loop-took.invariant.bound e.bound;
    }

pub returns-in_err-take_next-clause-bound : goal.returns-in_err-take_next-clause-bound
returns-in_err-take_next-clause-bound g c =
    spent_last c.loop-took.took 64 (c.args.f.now.ranks + 10) c.args.steps.now c.loop-took.steps
    c.take_next.new.steps c.loop-took-test.true c.loop-took.invariant.bound c.in_err-take_next.ensures.bound

pub returns : goal.returns
returns g c =
    let i = c.loop-took.invariant.looped in
    let some = all_made c.loop-took.took 64 c.loop-took-test.false (omega arith) in
    record {
      moves = subst (λ (p : Bool). Moves (record g.here { fabric = c.args.f.now }) p c.args.self.now
          c.loop-took.self) some i.moves;
      none = λ none fresh. absurd (clash none);
      polled = inl (c.loop-took.invariant.polled (some_made c.loop-took.took 64 c.loop-took-test.false (omega arith)));
      bound = spent_all c.loop-took.took 64 (c.args.f.now.ranks + 10) c.args.steps.now c.loop-took.steps (omega arith)
          c.loop-took.invariant.bound;
    }
