use Rattle.nm_report.specs.declared.accounts.RankAccount.{RankAccount}
use Rattle.nm_lookups.proofs.EachLemmas.{each_kept, each_next}
use Rattle.nm_breaks.specs.Ranges.{ReadIn}
use Rattle.nm_breaks.proofs.RangeLemmas.{all_mapped}
use Rattle.nm_breaks.proofs.written.ranges.ranks_fit.Goals as goal

abbrev Read : RankAccount → Type 0
Read rank = ReadIn (record { at = rank.at; waits = rank.waits; events = rank.history.events })

pub loop-rank-preserved : goal.loop-rank-preserved
loop-rank-preserved c =
    each_next Read c.args.ranks.now c.loop-rank.rank-index c.rank-item.result c.loop-rank-test.true c.rank-item.is
    c.loop-rank.invariant
    (rw c.as_slice.ensures at c.events_fit.ensures, c.waits_fit.ensures)

pub returns : goal.returns
returns c =
    all_mapped ReadIn (λ rank. record { at = rank.at; waits = rank.waits; events = rank.history.events })
    c.args.ranks.now
    (each_kept Read c.args.ranks.now c.loop-rank.rank-index c.loop-rank-test.false c.loop-rank.invariant)
