use Rattle.nm_eager.specs.Senders.{placed, standing}
use Rattle.std.proofs.Common.{sym, ◌∙◌}
use Rattle.nm_eager.proofs.SenderLemmas.{is_stream, lacking-none, lacking-some}
use Rattle.nm_eager.proofs.senders.Sender.missing.Goals as goal

pub returns-in-Some-clause-value : goal.returns-in-Some-clause-value
returns-in-Some-clause-value c =
    let s = c.self.inside in
    let kept = rw c.in-Some.is at c.self.invariant.1 in
    rw (← c.self.view_is, c.in-Some.is) (c.lacking.ensures.value
    ∙ sym (lacking-some s.count (standing (placed s.first s.whole.items)) _ c.in-Some.message kept))

pub returns-in-None-clause-value : goal.returns-in-None-clause-value
returns-in-None-clause-value c =
    let s = c.self.inside in
    let kept = rw c.in-None.is at c.self.invariant.1 in
    rw (← c.self.view_is, c.in-None.is) (sym (lacking-none s.count (standing (placed s.first s.whole.items)) _ kept))

pub returns-in-Some-clause-stream : goal.returns-in-Some-clause-stream
returns-in-Some-clause-stream c =
    let s = c.self.inside in
    rw (← c.self.view_is) (is_stream s.count (standing (placed s.first s.whole.items)) _ s.unfinished c.self.invariant.1)

pub returns-in-None-clause-stream : goal.returns-in-None-clause-stream
returns-in-None-clause-stream c =
    let s = c.self.inside in
    rw (← c.self.view_is) (is_stream s.count (standing (placed s.first s.whole.items)) _ s.unfinished c.self.invariant.1)
