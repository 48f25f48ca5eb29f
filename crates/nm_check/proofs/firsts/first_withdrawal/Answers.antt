use Rattle.std.proofs.Common.{Option, sym, subst}
use Rattle.nm_check.specs.CarriedBreaks.{IsFirstBetween}
use Rattle.nm_check.specs.declared.clauses.CarriedClause.TheVariants as carried
use Rattle.nm_check.specs.declared.firsts.Spot.{Spot}
use Rattle.nm_check.proofs.FirstLemmas.{withdrawals_first}
use Rattle.nm_check.proofs.firsts.first_withdrawal.Goals as goal

pub returns : goal.returns
returns c = λ lines ranks sent got.
    subst (λ (o : Option Spot). IsFirstBetween lines ranks c.args.i c.args.j carried.Withdrawals o)
    (sym c.first_read.ensures)
    (withdrawals_first lines ranks c.args.i c.args.j c.first_at-asked.result c.first_at-answered.result
    (c.first_at-asked.ensures lines ranks got) (c.first_at-answered.ensures lines ranks sent))
