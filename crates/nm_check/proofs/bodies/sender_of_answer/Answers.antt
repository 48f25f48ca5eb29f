use Rattle.std.proofs.Common.{ℕ, Option, Some, None, cond, take, sym, subst}
use Rattle.nm_types.specs.declared.answers.Answer.TheVariants.{Got}
use Rattle.nm_history.specs.declared.events.Happened.TheVariants.{Ran}
use Rattle.nm_history.specs.Quiescence.{history_of}
use Rattle.nm_report.specs.Ends.{ends_of}
use Rattle.nm_check.specs.Marked.{Names}
use Rattle.nm_check.proofs.BodyLemmas.{Shows, got_names, none_names, shown_names}
use Rattle.nm_check.proofs.bodies.sender_of_answer.Goals as goal

pub returns-in-Some : goal.returns-in-Some
returns-in-Some c = λ h e own here what.
    let lines = c.args.of.now.lines.now in
    let history = history_of (ends_of c.args.of.now.ranks.now) in
    rw c.in-Got.is
    (subst (λ (o : Option ℕ). Names (Shows lines history c.args.j (take c.args.k h)
    (Ran c.args.line (Got c.in-Got.from c.in-Got.tag c.in-Got.body))) o) (sym c.named_unless.ensures)
    (got_names lines history c.args.j (take c.args.k h) c.args.line c.in-Got.from c.in-Got.tag c.in-Got.body
    c.in-Some.pair (cond c.were_sent.result None (Some c.in-Some.pair.arrival.env.from))
    (c.in-Some.ensures h e c.args.answer.now own here what)
    (shown_names lines history c.args.j (take c.args.k h) c.in-Got.body c.in-Some.pair c.were_sent.result
    (rw c.as_slice-bytes.ensures at c.were_sent.ensures))))

pub returns-in-None : goal.returns-in-None
returns-in-None c = λ h e own here what. rw c.in-Got.is
    (none_names c.args.of.now.lines.now (history_of (ends_of c.args.of.now.ranks.now)) c.args.j (take c.args.k h)
    c.args.line c.in-Got.from c.in-Got.tag c.in-Got.body (c.in-None.ensures h e c.args.answer.now own here what))
