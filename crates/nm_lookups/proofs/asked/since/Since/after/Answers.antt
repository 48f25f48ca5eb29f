use Rattle.std.proofs.Common.{◌∙◌, ap, sym}
use Rattle.nm_history.specs.declared.events.Happened.{Happened}
use Rattle.nm_lookups.proofs.SinceLemmas.{since_answer}
use Rattle.nm_lookups.proofs.asked.since.Since.after.Goals as goal

pub returns-in-Ran : goal.returns-in-Ran
returns-in-Ran g c = λ h e here same before.
    since_answer g.T.Called.counts h c.args.k e here c.in-Ran.line c.in-Ran.answer (same ∙ c.in-Ran.is)

pub returns-in_default : goal.returns-in_default
returns-in_default g c = λ h e here same before.
    c.after_other.ensures g.T.Called.counts h e here
    (λ line answer is. c.in_default.not-Ran line answer (sym same ∙ is))
    (ap (λ (x : Happened). g.T.Called.counts x) same ∙ sym c.is_called.ensures) before
