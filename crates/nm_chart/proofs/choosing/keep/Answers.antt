-- All of a rank is kept, or nothing.
use Rattle.std.proofs.Common.{refl, subst, sym}
use Rattle.nm_chart.specs.Parts.{IsKept}
use Rattle.nm_chart.proofs.choosing.keep.Goals as goal

pub returns-then-is_chosen : goal.returns-then-is_chosen
returns-then-is_chosen c =
    subst (λ b. IsKept b c.args.account.now c.args.account.now) (sym c.if-is_chosen.true) refl
