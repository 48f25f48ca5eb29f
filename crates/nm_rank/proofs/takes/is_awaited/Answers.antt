use Rattle.std.proofs.Common.{◌∙◌, ap, sym}
use Rattle.nm_receiving.specs.StreamViews.{is_awaited}
use Rattle.nm_rank.proofs.AwaitLemmas.{answer_awaited, clearance_awaited}
use Rattle.nm_rank.proofs.takes.is_awaited.Goals as goal

pub returns-in-Clear : goal.returns-in-Clear
returns-in-Clear c = λ h known was agrees cleared.
    c.is_waiting.ensures h was
    ∙ clearance_awaited c.args.sending.now h known c.args.p.now.from c.in-Clear.n agrees cleared
    ∙ ap (is_awaited known h c.args.p.now.from) (sym c.in-Clear.is)

pub returns-in-Withdrawn : goal.returns-in-Withdrawn
returns-in-Withdrawn c = λ h known was agrees cleared.
    c.awaits_answer.ensures h was
    ∙ answer_awaited h known c.args.p.now.from c.in-Withdrawn.n agrees
    ∙ ap (is_awaited known h c.args.p.now.from) (sym c.in-Withdrawn.is)
