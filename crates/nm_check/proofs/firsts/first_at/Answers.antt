use Rattle.std.proofs.Common.{ℕ, Option, refl, subst, sym, arith}
use Rattle.std.specs.Prelude.{MatchOption}
use Rattle.nm_history.specs.AtEach.{AtEach}
use Rattle.nm_history.specs.Quiescence.{history_of}
use Rattle.nm_check_rank.specs.Breaks.{BreaksFirstAt}
use Rattle.nm_check.specs.CarriedBreaks.{PartAt}
use Rattle.nm_check.proofs.firsts.first_at.Goals as goal

pub returns-in-Some : goal.returns-in-Some
returns-in-Some c = λ lines ranks marks.
    let R = PartAt c.args.part lines ranks c.args.x c.args.y in (
      refl,
      subst (λ (o : Option ℕ). MatchOption o (AtEach R (history_of ranks c.args.x))
          (BreaksFirstAt (AtEach R) (history_of ranks c.args.x))) (sym c.in-Some.ensures)
          (marks c.args.part c.args.y (omega arith)),
    )

pub returns-in-None : goal.returns-in-None
returns-in-None c = λ lines ranks marks.
    let R = PartAt c.args.part lines ranks c.args.x c.args.y in
    subst (λ (o : Option ℕ). MatchOption o (AtEach R (history_of ranks c.args.x))
    (BreaksFirstAt (AtEach R) (history_of ranks c.args.x))) (sym c.in-None.ensures)
    (marks c.args.part c.args.y (omega arith))
