-- The counts to the ranks in turn.
use Rattle.std.proofs.Common.{◌≡◌, ◌++◌, ◌+◌, ◌∙◌, ap, List}
use Rattle.nm_report.specs.declared.pairs.PairCount.{PairCount}
use Rattle.nm_report.specs.Ends.{packets_of}
use Rattle.nm_world.specs.Records.{counts_to}
use Rattle.nm_world.proofs.Accounts.{counts_grown, counts_kept}
use Rattle.nm_world.proofs.records.push_counts.Goals as goal
use Rattle.nm_world.proofs.records.push_counts.Goals.{then-packets-gt0+in_ok-push, else-packets-gt0}

pub loop-to-preserved : goal.loop-to-preserved
loop-to-preserved c =
    let p = c.args.port.now in
    let Goal = packets_of c.if-packets-gt0.pairs ≡ packets_of c.args.pairs.now ++ counts_to (c.loop-to.to + 1) p in
    let grown : Goal = elim c.if-packets-gt0.branch [
      | then-packets-gt0+in_ok-push w ↦ counts_grown c.loop-to.to c.rank-from.result c.sent-packets.result p
          c.args.pairs.now c.loop-to.pairs c.if-packets-gt0.pairs c.loop-to.invariant.0 c.sent-packets.ensures
          w.if-packets-gt0.true c.loop-to.invariant.1 (w.pairs-is ∙ w.in_ok-push.ensures.ok)
      | else-packets-gt0 w ↦ ap (λ (ps : List PairCount). packets_of ps) w.pairs-is
          ∙ counts_kept c.loop-to.to c.sent-packets.result p c.args.pairs.now c.loop-to.pairs
          c.sent-packets.ensures w.if-packets-gt0.false c.loop-to.invariant.1
    ] in
    (c.loop-to.invariant.0, grown)
