use Rattle.nm_report.specs.Totals.{answers_in}
use Rattle.nm_report.proofs.TotalsLemmas.{added_more, can_add_all, can_add_next, added_all}
use Rattle.nm_report.proofs.summaries.totals_of.Goals as goal

pub add_account-requires : goal.add_account-requires
add_account-requires c =
    can_add_next answers_in c.args.ranks.now c.loop-account.account-index c.account-item.result _ _
    c.loop-account-test.true c.account-item.is (can_add_all c.args.ranks.now c.requires)
    c.loop-account.invariant

pub loop-account-preserved : goal.loop-account-preserved
loop-account-preserved c =
    added_more answers_in c.args.ranks.now c.loop-account.account-index c.account-item.result _ _ _
    c.loop-account-test.true c.account-item.is c.loop-account.invariant c.add_account.ensures

pub returns : goal.returns
returns c =
    let all = added_all c.args.ranks.now _ _ c.loop-account-test.false c.loop-account.invariant in
    record { sent = all.sent; got = all.got; bytes = all.bytes }
