-- One rank more.
use Rattle.std.proofs.Common.{◌≡◌, ◌+◌, map, sym}
use Rattle.nm_report.specs.Told.{told_of_rank}
use Rattle.nm_explored.specs.Successors.{spot_in}
use Rattle.nm_explored.specs.Ends.{all_told}
use Rattle.nm_explored.proofs.ToldLemmas.{told_more}
use Rattle.nm_explored.proofs.ends.told.Goals as goal

pub loop-i-preserved : goal.loop-i-preserved
loop-i-preserved c =
    let more : map told_of_rank c.push_account.new.accounts.items
    ≡ all_told c.args.view.lines.now (spot_in c.args.view.table.now c.args.view.ids.now) (c.loop-i.i + 1) =
    rw (c.in_ok-push_account.ensures, c.rank.ensures, c.loop-i.invariant)
    (sym (told_more c.args.view.lines.now (spot_in c.args.view.table.now c.args.view.ids.now) c.loop-i.i)) in more
