use Rattle.std.proofs.Common.{◌+◌, refl}
use Rattle.std.proofs.lemmas.Option.{slice_get_read}
use Rattle.nm_report.specs.Layout.{from_rank}
use Rattle.nm_report.specs.Events.{event_lines}
use Rattle.nm_report.proofs.Written.{next_written}
use Rattle.nm_report.proofs.events.push_all_events.Goals as goal

pub loop-rank-preserved : goal.loop-rank-preserved
loop-rank-preserved c =
    let ranks = c.args.ranks.now in
    let rank = c.loop-rank.rank in
    let account = c.index-ranks-rank in
    let found = slice_get_read ranks _ rank account.result refl c.loop-rank-test.true account.is in
    next_written (from_rank event_lines rank) (from_rank event_lines (rank + 1))
    (event_lines rank account.result) ranks rank account.result _ _ _ found refl
    c.in_ok-push_events.ensures.ok c.loop-rank.invariant
