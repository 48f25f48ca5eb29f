-- One rank more can rest as is said, or it can't.
use Rattle.std.proofs.Common.{None, inl, inr, refl, ◌+◌, arith, length, take}
use Rattle.nm_lawful.specs.Moves.{report_lem}
use Rattle.nm_lawful.proofs.EndLemmas.{rests_all, rests_end, says_end, says_many, says_none}
use Rattle.nm_lawful.proofs.judging.first_restless.Goals as goal

pub loop-i-init : goal.loop-i-init
loop-i-init c = inl refl

pub loop-i-preserved : goal.loop-i-preserved
loop-i-preserved c =
    inr
    (says_end c.args.case.lines.now (report_lem c.args.case.told.now (take (c.loop-i.i + 1) c.args.case.waits.now))
    c.args.case.ranks None c.args.case.limit c.in_ok-found.found c.in-End.is c.in_ok-found.ensures)

pub returns-in-NoEnd : goal.returns-in-NoEnd
returns-in-NoEnd c = (
  c.requires.unlawful,
  c.requires.told,
  c.loop-i.invariant,
  says_none c.args.case.lines.now (report_lem c.args.case.told.now (take (c.loop-i.i + 1) c.args.case.waits.now))
      c.args.case.ranks None c.args.case.limit c.in_ok-found.found c.in-NoEnd.is c.in_ok-found.ensures,
)

pub returns-in-TooMany : goal.returns-in-TooMany
returns-in-TooMany c = (
  take (c.loop-i.i + 1) c.args.case.waits.now,
  None,
  says_many c.args.case.lines.now (report_lem c.args.case.told.now (take (c.loop-i.i + 1) c.args.case.waits.now))
      c.args.case.ranks None c.args.case.limit c.in_ok-found.found c.in-TooMany.is c.in_ok-found.ensures,
)

pub returns : goal.returns
returns c = (
  c.requires.unlawful,
  c.requires.told,
  rests_end c.args.case.lines.now (report_lem c.args.case.told.now c.args.case.waits.now) c.args.case.ranks
      c.loop-i.i (length c.args.case.waits.now) refl c.loop-i-test.false c.loop-i.invariant,
  λ may. c.requires.unlawful
      (rests_all c.args.case.lines.now c.args.case.told.now c.args.case.waits.now c.args.case.ranks
      (length c.args.case.waits.now) (omega arith) may),
)
