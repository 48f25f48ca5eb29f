-- Each step goes on from the one before.
use Rattle.std.proofs.Common.{Bool, subst, sym, arith}
use Rattle.nm_rank.specs.Ranks.{IsFresh}
use Rattle.nm_world.specs.declared.actors.Actor.{Actor}
use Rattle.nm_world.specs.Idle.{Moves, NoPiece}
use Rattle.nm_world.proofs.Loops.{all_made, loop_last, loop_more, loop_none, spent_all, spent_last, spent_more}
use Rattle.nm_world.proofs.Results.{clash}
use Rattle.nm_world.proofs.actors.Actor.pull_some.Goals as goal

pub loop-pulled-init : goal.loop-pulled-init
loop-pulled-init g c = record {
  looped = loop_none (record g.here { rings = c.args.r.now }) c.args.self.now c.requires.1.1.0;
  bound = omega arith;
}

pub loop-pulled-preserved : goal.loop-pulled-preserved
loop-pulled-preserved g c =
    let e = c.in_ok-pull_next.ensures in
    record {
      looped = loop_more (record g.here { rings = c.args.r.now }) c.args.self.now c.loop-pulled.pulled
          c.loop-pulled.self
          c.pull_next.new.self c.in_ok-pull_next.field-0 c.if-not-branch.false
          c.loop-pulled.invariant.looped e.moves;
      bound = spent_more c.loop-pulled.pulled 3 c.args.steps.now c.loop-pulled.steps c.pull_next.new.steps
          c.loop-pulled.invariant.bound e.bound;
    }

pub returns-then-not-branch : goal.returns-then-not-branch
returns-then-not-branch g c =
    let e = c.in_ok-pull_next.ensures in
    let a = c.args.self.now in
    let b = c.loop-pulled.self in
    let d = c.pull_next.new.self in
    let done = loop_last (record g.here { rings = c.args.r.now }) a c.loop-pulled.pulled b d
    c.in_ok-pull_next.field-0 c.if-not-branch.true c.loop-pulled.invariant.looped e.moves in
    record {
      moves = done.moves;
      none = λ none fresh. let same = done.sole none in
          subst (λ (x : Actor _). NoPiece x d c.args.sender) same
          (e.none c.if-not-branch.true (subst (λ (x : Actor _). IsFresh x.process.rank) (sym same) fresh));
      bound = spent_last c.loop-pulled.pulled 4 3 c.args.steps.now c.loop-pulled.steps c.pull_next.new.steps
          c.loop-pulled-test.true c.loop-pulled.invariant.bound e.bound;
    }

pub returns-in_err-pull_next-clause-bound : goal.returns-in_err-pull_next-clause-bound
returns-in_err-pull_next-clause-bound g c =
    spent_last c.loop-pulled.pulled 4 3 c.args.steps.now c.loop-pulled.steps c.pull_next.new.steps
    c.loop-pulled-test.true c.loop-pulled.invariant.bound c.in_err-pull_next.ensures.bound

pub returns : goal.returns
returns g c =
    let i = c.loop-pulled.invariant.looped in
    let some = all_made c.loop-pulled.pulled 4 c.loop-pulled-test.false (omega arith) in
    record {
      moves = subst (λ (p : Bool). Moves (record g.here { rings = c.args.r.now }) p c.args.self.now
          c.loop-pulled.self) some i.moves;
      none = λ none fresh. absurd (clash none);
      bound = spent_all c.loop-pulled.pulled 4 3 c.args.steps.now c.loop-pulled.steps (omega arith)
          c.loop-pulled.invariant.bound;
    }
