-- The bounds come nearer, until they are neighbours.
use Rattle.std.proofs.Common.{◌+◌, ◌-◌, ◌/◌, Some, sym, ◌∙◌, arith}
use Rattle.nm_lawful.specs.Moves.{report_lem}
use Rattle.nm_lawful.proofs.EndLemmas.{gave_up, halved_bounds, halved_less, late_next, none_told}
use Rattle.nm_lawful.proofs.judging.first_unlawful.Goals as goal

pub loop-high-init : goal.loop-high-init
loop-high-init c =
    record {
      order = omega arith;
      early = none_told c.args.case.lines.now (report_lem c.args.case.told.now c.args.case.waits.now) c.args.case.ranks;
      late = c.requires.untold;
    }

pub loop-high-preserved : goal.loop-high-preserved
loop-high-preserved c =
    halved_bounds c.args.case.lines.now (report_lem c.args.case.told.now c.args.case.waits.now) c.args.case.ranks c.args.case.limit c.loop-high.low
    (c.loop-high.low + (c.loop-high.high - c.loop-high.low) / 2)
    c.loop-high.high c.in_ok-found.found c.halved-bounds.result c.halved-bounds.ensures
    (sym c.is_too_many-many.ensures ∙ c.if-many.false) (omega arith) (omega arith) c.in_ok-found.ensures
    c.loop-high.invariant

pub loop-high-smaller : goal.loop-high-smaller
loop-high-smaller c =
    halved_less c.in_ok-found.found c.loop-high.low (c.loop-high.low + (c.loop-high.high - c.loop-high.low) / 2)
    c.loop-high.high c.halved-bounds.result c.halved-bounds.ensures (omega arith) (omega arith)

pub returns-then-many : goal.returns-then-many
returns-then-many c = (
  c.args.case.waits.now,
  Some (c.loop-high.low + (c.loop-high.high - c.loop-high.low) / 2),
  gave_up c.args.case.lines.now (report_lem c.args.case.told.now c.args.case.waits.now) c.args.case.ranks
      (Some (c.loop-high.low + (c.loop-high.high - c.loop-high.low) / 2)) c.args.case.limit
      c.in_ok-found.found (sym c.is_too_many-many.ensures ∙ c.if-many.true) c.in_ok-found.ensures,
)

pub returns : goal.returns
returns c = (
  c.requires.unlawful,
  c.loop-high.invariant.early,
  late_next c.args.case.lines.now (report_lem c.args.case.told.now c.args.case.waits.now)
      c.args.case.ranks c.loop-high.low c.loop-high.high c.loop-high.invariant (omega arith),
)
