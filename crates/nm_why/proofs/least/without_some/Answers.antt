-- One place less.
use Rattle.std.proofs.Common.{List, ℕ, subst, sym}
use Rattle.nm_why.specs.Least.{AreRising}
use Rattle.nm_why.proofs.least.without_some.Goals as goal

pub loop-place-init : goal.loop-place-init
loop-place-init c = λ rising. subst (λ (places : List ℕ). AreRising places) (sym c.in_ok-others.ensures.items) rising

pub loop-place-preserved : goal.loop-place-preserved
loop-place-preserved c = λ rising. c.drop_at.ensures (c.loop-place.invariant rising)
