-- One rank more.
use Rattle.std.proofs.Common.{ℕ, [], ap, sym, take, ◌∙◌}
use Rattle.std.proofs.lemmas.Option.{unwrap_or-slice_get}
use Rattle.nm_types.specs.Commands.{commands_of}
use Rattle.nm_sure.specs.PlainText.{told_after}
use Rattle.nm_sure.proofs.Telling.{account_more}
use Rattle.nm_sure.proofs.records.accounts.Goals as goal

pub loop-rank-preserved : goal.loop-rank-preserved
loop-rank-preserved c =
    account_more c.args.plan.now.lines.now c.args.at.now c.loop-rank.rank _ c.loop-rank.accounts.items
    c.push.new.self.items
    (c.in_ok-history.ensures
    ∙ ap (λ (n : ℕ). told_after c.args.plan.now.lines.now c.loop-rank.rank []
    (take n (commands_of c.loop-rank.rank c.args.plan.now.lines.now)))
    (sym (unwrap_or-slice_get c.args.at.now c.loop-rank.rank 0)))
    c.next-waits.ensures c.loop-rank.invariant c.in_ok-push.ensures.items
