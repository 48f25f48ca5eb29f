-- Each step goes on from the one before.
use Rattle.std.proofs.Common.{Bool, subst, sym, arith}
use Rattle.nm_rank.specs.Ranks.{IsFresh}
use Rattle.nm_world.specs.declared.actors.Actor.{Actor}
use Rattle.nm_world.specs.Idle.{FirstNotSent, Moves}
use Rattle.nm_world.proofs.Loops.{all_made, loop_last, loop_more, loop_none, spent_all, spent_last, spent_more}
use Rattle.nm_world.proofs.Results.{clash}
use Rattle.nm_world.proofs.actors.Actor.send_all.Goals as goal

pub loop-sent-init : goal.loop-sent-init
loop-sent-init g c = record {
  looped = loop_none (record g.here { fabric = c.args.f.now }) c.args.self.now c.requires.1.1;
  bound = omega arith;
}

pub loop-sent-preserved : goal.loop-sent-preserved
loop-sent-preserved g c =
    let e = c.in_ok-send_next.ensures in
    record {
      looped = loop_more (record g.here { fabric = c.args.f.now }) c.args.self.now c.loop-sent.sent c.loop-sent.self
          c.send_next.new.self c.in_ok-send_next.field-0 c.if-not-branch.false
          c.loop-sent.invariant.looped e.moves;
      bound = spent_more c.loop-sent.sent 9 c.args.steps.now c.loop-sent.steps c.send_next.new.steps
          c.loop-sent.invariant.bound e.bound;
    }

pub returns-then-not-branch : goal.returns-then-not-branch
returns-then-not-branch g c =
    let e = c.in_ok-send_next.ensures in
    let a = c.args.self.now in
    let d = c.send_next.new.self in
    let done = loop_last (record g.here { fabric = c.args.f.now }) a c.loop-sent.sent c.loop-sent.self d
    c.in_ok-send_next.field-0 c.if-not-branch.true c.loop-sent.invariant.looped e.moves in
    record {
      moves = done.moves;
      back = λ none fresh. let same = done.sole none in
          subst (λ (x : Actor _). FirstNotSent x d) same
          (e.back c.if-not-branch.true (subst (λ (x : Actor _). IsFresh x.process.rank) (sym same) fresh));
      bound = spent_last c.loop-sent.sent 64 9 c.args.steps.now c.loop-sent.steps c.send_next.new.steps
          c.loop-sent-test.true c.loop-sent.invariant.bound e.bound;
    }

pub returns-in_err-send_next-clause-bound : goal.returns-in_err-send_next-clause-bound
returns-in_err-send_next-clause-bound g c =
    spent_last c.loop-sent.sent 64 9 c.args.steps.now c.loop-sent.steps c.send_next.new.steps
    c.loop-sent-test.true c.loop-sent.invariant.bound c.in_err-send_next.ensures.bound

pub returns : goal.returns
returns g c =
    let i = c.loop-sent.invariant.looped in
    let some = all_made c.loop-sent.sent 64 c.loop-sent-test.false (omega arith) in
    record {
      moves = subst (λ (p : Bool). Moves (record g.here { fabric = c.args.f.now }) p c.args.self.now
          c.loop-sent.self) some i.moves;
      back = λ none fresh. absurd (clash none);
      bound = spent_all c.loop-sent.sent 64 9 c.args.steps.now c.loop-sent.steps (omega arith)
          c.loop-sent.invariant.bound;
    }
