use Rattle.std.proofs.Common.{ℕ, Option, take, sym, subst}
use Rattle.nm_history.specs.Delivery.{OutAfterPair}
use Rattle.nm_history.specs.declared.events.Happened.TheVariants as happening
use Rattle.nm_history.specs.Quiescence.{history_of}
use Rattle.nm_report.specs.Ends.{ends_of}
use Rattle.nm_check.specs.Marked.{Names}
use Rattle.nm_check.proofs.MarkLemmas.{no_out_names, out_names}
use Rattle.nm_check.proofs.marks.receiver_not_asked.Goals as goal

pub returns-in-Out : goal.returns-in-Out
returns-in-Out c = λ h placed. rw c.in-Out.is
    (subst (λ (o : Option ℕ). Names (λ j. OutAfterPair c.args.i j (history_of (ends_of c.args.of.now.ranks.now) j)
    (take c.args.k h) c.args.e.now.stamp (happening.Out c.in-Out.to c.in-Out.n)) o) (sym c.named_unless.ensures)
    (out_names c.args.i c.args.e.now.stamp (history_of (ends_of c.args.of.now.ranks.now)) (take c.args.k h) c.in-Out.to
    c.in-Out.n c.is_before-asked.result c.was_paired-paired.result c.is_allowed.result
    (c.is_before-asked.ensures h placed.outgoing.gone.asked) c.was_paired-paired.ensures c.is_allowed.ensures))

pub returns-in_default : goal.returns-in_default
returns-in_default c = λ h placed.
    no_out_names c.args.i c.args.e.now.stamp (history_of (ends_of c.args.of.now.ranks.now)) (take c.args.k h)
    c.args.e.now.what c.in_default.not-Out
