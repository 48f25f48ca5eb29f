use Rattle.std.proofs.Common.{ℕ, Option, sym, subst}
use Rattle.nm_history.specs.Growing.{ArrivesNext}
use Rattle.nm_history.specs.declared.events.Happened.TheVariants as happening
use Rattle.nm_history.specs.Quiescence.{history_of}
use Rattle.nm_report.specs.Ends.{ends_of}
use Rattle.nm_check.specs.Marked.{Names}
use Rattle.nm_check.proofs.MarkLemmas.{arrival_names, no_arrival_names}
use Rattle.nm_check.proofs.marks.sender_not_followed.Goals as goal

pub returns-in-Arrive : goal.returns-in-Arrive
returns-in-Arrive c = λ n before number. rw c.in-Arrive.is
    (subst (λ (o : Option ℕ). Names
    (λ i. ArrivesNext i c.args.j (history_of (ends_of c.args.of.now.ranks.now) i) before c.args.e.now.stamp
    (happening.Arrive c.in-Arrive.a)) o) (sym c.named_unless.ensures)
    (arrival_names c.args.j n c.args.e.now.stamp (history_of (ends_of c.args.of.now.ranks.now)) before c.in-Arrive.a
    c.was_sent.result (rw c.in-Arrive.is at number) c.was_sent.ensures))

pub returns-in_default : goal.returns-in_default
returns-in_default c = λ n before number. no_arrival_names c.args.j c.args.e.now.stamp
    (history_of (ends_of c.args.of.now.ranks.now)) before c.args.e.now.what c.in_default.not-Arrive
