-- Each rank's pieces go on from those of the one before.
use Rattle.std.proofs.Common.{subst, sym, arith}
use Rattle.nm_rank.specs.Ranks.{IsFresh}
use Rattle.nm_process.specs.Processes.{ProcessView}
use Rattle.nm_world.proofs.Idle.{more_none}
use Rattle.nm_world.proofs.Moves.{moves_none, moves_on}
use Rattle.nm_world.proofs.Loops.{spent_all, spent_last, spent_more}
use Rattle.nm_world.proofs.actors.Actor.pull_all.Goals as goal
use Rattle.nm_types.proofs.TruthLemmas.{neither}

pub returns-then-not-is_any_piece_due : goal.returns-then-not-is_any_piece_due
returns-then-not-is_any_piece_due g c =
    let a = c.args.self.now in
    let cells = c.requires.1.1.1.ranks.0 in
    let ranks = c.requires.1.1.0 in
    record {
      moves = moves_none (record g.here { rings = c.args.r.now }) a c.requires.1.1.1;
      none = λ none fresh i low due.
          let past = (rw c.rank.ensures at c.is_any_piece_due.ensures.none)
          (c.if-not-is_any_piece_due.true) i (omega (arith, low, ranks, cells)) in
          absurd (omega (arith, past, due));
      bound = omega arith;
    }

pub loop-sender-init : goal.loop-sender-init
loop-sender-init g c = record {
  moves = moves_none (record g.here { rings = c.args.r.now }) c.args.self.now c.requires.1.1.1;
  none = λ none fresh i low. absurd (omega (arith, low));
  end = c.ranks-sender-end.ensures;
  bound = omega arith;
}

pub pull_some-requires : goal.pull_some-requires
pull_some-requires g c lifetimes outlive =
    let s = c.loop-sender.invariant.moves.kept.ports in
    let low = c.loop-sender-test.true in
    let end = c.loop-sender.invariant.end in
    let ranks = c.requires.1.1.0 in
    let cells = s.ranks.0 in
    let rings = s.ranks.1 in
    (outlive.0, (outlive.1, (s, omega (arith, low, end, ranks, cells, rings))))

pub loop-sender-preserved : goal.loop-sender-preserved
loop-sender-preserved g c =
    let a = c.args.self.now in
    let b = c.loop-sender.self in
    let d = c.pull_some.new.self in
    let one = c.loop-sender.invariant in
    let two = c.in_ok-one.ensures in
    record {
      moves = moves_on (record g.here { rings = c.args.r.now }) c.loop-sender.moved c.in_ok-one.one a b d
          one.moves two.moves;
      none = λ none fresh i low.
          let both = neither c.loop-sender.moved c.in_ok-one.one none in
          let same = one.moves.stepped.still both.0 in
          let fresh_too = subst (λ (v : ProcessView). IsFresh v.rank) (sym same) fresh in
          more_none a b d c.loop-sender.sender i one.moves.kept.grows two.moves.kept.grows same low
          (λ below. one.none both.0 fresh i below) (two.none both.1 fresh_too);
      end = one.end;
      bound = spent_more c.loop-sender.sender 12 c.args.steps.now c.loop-sender.steps c.pull_some.new.steps
          one.bound two.bound;
    }

pub returns : goal.returns
returns g c =
    let i = c.loop-sender.invariant in
    let end = i.end in
    let past = c.loop-sender-test.false in
    record {
      moves = i.moves;
      none = λ none fresh k low. i.none none fresh k (omega (arith, low, end, past));
      bound = spent_all c.loop-sender.sender c.args.f.now.ranks 12 c.args.steps.now c.loop-sender.steps
          (omega (arith, end)) i.bound;
    }

pub returns-in_err-one-clause-bound : goal.returns-in_err-one-clause-bound
returns-in_err-one-clause-bound g c =
    let i = c.loop-sender.invariant in
    let end = i.end in
    let low = c.loop-sender-test.true in
    spent_last c.loop-sender.sender c.args.f.now.ranks 12 c.args.steps.now c.loop-sender.steps
    c.pull_some.new.steps (omega (arith, low, end)) i.bound c.in_err-one.ensures.bound
