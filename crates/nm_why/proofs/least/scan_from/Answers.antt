-- One command more.
use Rattle.std.proofs.Common.{arith, ◌∙◌}
use Rattle.nm_why.proofs.LeastLemmas.{does_without, needed_more}
use Rattle.nm_why.proofs.least.scan_from.Goals as goal

pub loop-k-init : goal.loop-k-init
loop-k-init g c = λ k later low. absurd (omega (arith, later, low))

pub returns-then-not-is_needed : goal.returns-then-not-is_needed
returns-then-not-is_needed g c = (
  c.loop-k-test.true,
  does_without c.args.of.now.aim c.args.of.now.shape c.args.of.now.lines.now c.args.places.now c.as_slice.result.now
      c.loop-k.k c.in_ok-found.found (c.in_ok-is_needed.ensures.gone c.if-not-is_needed.true)
      (c.as_slice.ensures.value ∙ c.in_ok-others.ensures) c.in_ok-found.ensures,
)

pub loop-k-preserved : goal.loop-k-preserved
loop-k-preserved g c =
    needed_more c.args.of.now.aim c.args.of.now.shape c.args.of.now.lines.now c.args.places.now c.as_slice.result.now
    c.args.from c.loop-k.k c.loop-k.undecided.items c.note.new.undecided.items c.in_ok-found.found
    c.loop-k.invariant c.in_ok-is_needed.ensures.kept
    (c.in_ok-is_needed.ensures.needed c.if-not-is_needed.false)
    (c.as_slice.ensures.value ∙ c.in_ok-others.ensures) c.in_ok-found.ensures

pub returns : goal.returns
returns g c = λ k later low. c.loop-k.invariant k later (omega (arith, low, c.loop-k-test.false))
