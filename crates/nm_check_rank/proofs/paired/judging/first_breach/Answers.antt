use Rattle.std.proofs.Common.{length, take}
use Rattle.nm_check_rank.specs.OwnBreaks.{KeepsSoFar}
use Rattle.nm_check_rank.specs.Runs.{commands_in}
use Rattle.nm_check_rank.proofs.FrontLemmas.{front_breach}
use Rattle.nm_check_rank.proofs.OwnLemmas.{each_rule}
use Rattle.nm_check_rank.proofs.paired.judging.first_breach.Goals as goal

pub returns-in-Breaks : goal.returns-in-Breaks
returns-in-Breaks c =
    let run = c.args.run.now in
    let breaks = rw (c.order.ensures, c.requires.front) at c.in-Breaks.ensures in
    front_breach run.shape (commands_in run) c.args.at run.all.now (length run.events.now) c.in-Breaks.k
    c.in-Breaks.standing.clause c.in-Breaks.standing.due c.requires.inside
    (each_rule (λ d. KeepsSoFar run.shape (commands_in run) d (take c.in-Breaks.k (take (length run.events.now)
    run.all.now))) breaks.0) breaks.1

pub breach_behind-requires : goal.breach_behind-requires
breach_behind-requires c = record {
  run = c.requires;
  kept = each_rule (λ d. KeepsSoFar c.args.run.now.shape (commands_in c.args.run.now) d c.args.run.now.events.now)
      (rw c.order.ensures at c.in-Ends.ensures.0);
  so_far = c.in-Ends.ensures.1;
}

pub returns-in-Ends : goal.returns-in-Ends
returns-in-Ends c = c.breach_behind.ensures
