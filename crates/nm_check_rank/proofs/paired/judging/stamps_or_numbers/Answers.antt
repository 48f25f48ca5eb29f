use Rattle.std.proofs.Common.{[], arith, refl}
use Rattle.std.proofs.lemmas.List.Elements.{All-cons, All-nil}
use Rattle.nm_check_rank.specs.OwnClauses.{KeepsOwn, own_order}
use Rattle.nm_check_rank.specs.declared.clauses.OwnClause.TheVariants as own
use Rattle.nm_check_rank.proofs.OwnLemmas.{broken_next}
use Rattle.nm_check_rank.proofs.paired.judging.stamps_or_numbers.Goals as goal

pub returns-then-stamps_rise : goal.returns-then-stamps_rise
returns-then-stamps_rise c = λ shape commands at not.
    let Keeps = KeepsOwn shape commands at c.args.events.now in
    broken_next Keeps own_order 1 own.Numbers (omega arith) own_order refl
    (All-cons Keeps own.Stamps [] (rw c.if-stamps_rise.true at c.stamps_rise.ensures) (All-nil Keeps)) not

pub returns-else-stamps_rise : goal.returns-else-stamps_rise
returns-else-stamps_rise c = λ shape commands at not.
    let Keeps = KeepsOwn shape commands at c.args.events.now in
    broken_next Keeps own_order 0 own.Stamps (omega arith) own_order refl (All-nil Keeps)
    (rw c.if-stamps_rise.false at c.stamps_rise.ensures)
