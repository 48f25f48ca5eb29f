use Rattle.std.proofs.Common.{ℕ, Option, sym, subst}
use Rattle.nm_history.specs.Delivery.{WithdrawAfterRecall}
use Rattle.nm_history.specs.declared.events.Happened.TheVariants as happening
use Rattle.nm_history.specs.Quiescence.{history_of}
use Rattle.nm_report.specs.Ends.{ends_of}
use Rattle.nm_check.specs.Marked.{Names}
use Rattle.nm_check.proofs.MarkLemmas.{no_withdrawal_names, withdrawal_names}
use Rattle.nm_check.proofs.marks.sender_not_recalling.Goals as goal

pub returns-in-Withdraw : goal.returns-in-Withdraw
returns-in-Withdraw c =
    let history = history_of (ends_of c.args.of.now.ranks.now) in
    rw c.in-Withdraw.is (subst (λ (o : Option ℕ). Names (λ i. WithdrawAfterRecall i c.args.j (history i)
    c.args.e.now.stamp (happening.Withdraw c.in-Withdraw.from c.in-Withdraw.n c.in-Withdraw.done)) o)
    (sym c.named_unless.ensures)
    (withdrawal_names c.args.j c.args.e.now.stamp history c.in-Withdraw.from c.in-Withdraw.n c.in-Withdraw.done
    c.was_recalled.result c.was_recalled.ensures))

pub returns-in_default : goal.returns-in_default
returns-in_default c = no_withdrawal_names c.args.j c.args.e.now.stamp (history_of (ends_of c.args.of.now.ranks.now))
    c.args.e.now.what c.in_default.not-Withdraw
