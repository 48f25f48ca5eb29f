use Rattle.std.proofs.Common.{◌+◌, refl}
use Rattle.std.proofs.lemmas.Option.{slice_get_read}
use Rattle.nm_report.specs.Layout.{from_rank}
use Rattle.nm_report.specs.Report.{answer_lines}
use Rattle.nm_report.proofs.Written.{next_written}
use Rattle.nm_report.proofs.reports.push_all_answers.Goals as goal

pub loop-rank-preserved : goal.loop-rank-preserved
loop-rank-preserved c =
    let ranks = c.args.ranks.now in
    let rank = c.loop-rank.rank in
    let account = c.index-ranks-rank in
    let found = slice_get_read ranks _ rank account.result refl c.loop-rank-test.true account.is in
    next_written (from_rank answer_lines rank) (from_rank answer_lines (rank + 1))
    (answer_lines rank account.result) ranks rank account.result _ _ _ found refl
    c.in_ok-push_answers.ensures.ok c.loop-rank.invariant
