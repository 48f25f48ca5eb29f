-- Each step goes on from the one before.
use Rattle.std.proofs.Common.{Bool, subst, sym, arith}
use Rattle.nm_rank.specs.Ranks.{IsFresh}
use Rattle.nm_world.specs.declared.actors.Actor.{Actor}
use Rattle.nm_world.specs.Idle.{Moves, NextNotPushed}
use Rattle.nm_world.proofs.Loops.{all_made, loop_last, loop_more, loop_none, spent_all, spent_last, spent_more}
use Rattle.nm_world.proofs.Results.{clash}
use Rattle.nm_world.proofs.actors.Actor.push_all.Goals as goal

pub loop-pushed-init : goal.loop-pushed-init
loop-pushed-init g c = record {
  looped = loop_none (record g.here { rings = c.args.r.now }) c.args.self.now c.requires.1.1;
  bound = omega arith;
}

pub loop-pushed-preserved : goal.loop-pushed-preserved
loop-pushed-preserved g c =
    let e = c.in_ok-push_next.ensures in
    record {
      looped = loop_more (record g.here { rings = c.args.r.now }) c.args.self.now c.loop-pushed.pushed
          c.loop-pushed.self
          c.push_next.new.self c.in_ok-push_next.field-0 c.if-not-branch.false
          c.loop-pushed.invariant.looped e.moves;
      bound = spent_more c.loop-pushed.pushed 3 c.args.steps.now c.loop-pushed.steps c.push_next.new.steps
          c.loop-pushed.invariant.bound e.bound;
    }

pub returns-then-not-branch : goal.returns-then-not-branch
returns-then-not-branch g c =
    let e = c.in_ok-push_next.ensures in
    let a = c.args.self.now in
    let d = c.push_next.new.self in
    let done = loop_last (record g.here { rings = c.args.r.now }) a c.loop-pushed.pushed c.loop-pushed.self d
    c.in_ok-push_next.field-0 c.if-not-branch.true c.loop-pushed.invariant.looped e.moves in
    record {
      moves = done.moves;
      back = λ none fresh. let same = done.sole none in
          subst (λ (x : Actor _). NextNotPushed x d) same
          (e.back c.if-not-branch.true (subst (λ (x : Actor _). IsFresh x.process.rank) (sym same) fresh));
      bound = spent_last c.loop-pushed.pushed 64 3 c.args.steps.now c.loop-pushed.steps c.push_next.new.steps
          c.loop-pushed-test.true c.loop-pushed.invariant.bound e.bound;
    }

pub returns-in_err-push_next-clause-bound : goal.returns-in_err-push_next-clause-bound
returns-in_err-push_next-clause-bound g c =
    spent_last c.loop-pushed.pushed 64 3 c.args.steps.now c.loop-pushed.steps c.push_next.new.steps
    c.loop-pushed-test.true c.loop-pushed.invariant.bound c.in_err-push_next.ensures.bound

pub returns : goal.returns
returns g c =
    let i = c.loop-pushed.invariant.looped in
    let some = all_made c.loop-pushed.pushed 64 c.loop-pushed-test.false (omega arith) in
    record {
      moves = subst (λ (p : Bool). Moves (record g.here { rings = c.args.r.now }) p c.args.self.now
          c.loop-pushed.self) some i.moves;
      back = λ none fresh. absurd (clash none);
      bound = spent_all c.loop-pushed.pushed 64 3 c.args.steps.now c.loop-pushed.steps (omega arith)
          c.loop-pushed.invariant.bound;
    }
