use Rattle.std.proofs.Common.{ℕ, Option, sym, subst}
use Rattle.nm_history.specs.Delivery.{UndoneAfterWithdraw}
use Rattle.nm_history.specs.declared.events.Happened.TheVariants as happening
use Rattle.nm_history.specs.Quiescence.{history_of}
use Rattle.nm_report.specs.Ends.{ends_of}
use Rattle.nm_check.specs.Marked.{Names}
use Rattle.nm_check.proofs.MarkLemmas.{answer_names, no_answer_names}
use Rattle.nm_check.proofs.marks.receiver_not_telling.Goals as goal

pub returns-in-Undone : goal.returns-in-Undone
returns-in-Undone c =
    let history = history_of (ends_of c.args.of.now.ranks.now) in
    rw c.in-Undone.is (subst (λ (o : Option ℕ). Names (λ j. UndoneAfterWithdraw c.args.i j (history j)
    c.args.e.now.stamp (happening.Undone c.in-Undone.to c.in-Undone.n c.in-Undone.done)) o)
    (sym c.named_unless.ensures)
    (answer_names c.args.i c.args.e.now.stamp history c.in-Undone.to c.in-Undone.n c.in-Undone.done
    c.was_withdrawn.result c.was_withdrawn.ensures))

pub returns-in_default : goal.returns-in_default
returns-in_default c = no_answer_names c.args.i c.args.e.now.stamp (history_of (ends_of c.args.of.now.ranks.now))
    c.args.e.now.what c.in_default.not-Undone
