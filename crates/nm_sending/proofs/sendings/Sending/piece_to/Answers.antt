-- The destination is one of the ranks.
use Rattle.std.proofs.Common.{ℕ, ◌<◌, length, sym, ◌∙◌, subst}
use Rattle.std.specs.Prelude.{IfSome}
use Rattle.nm_sending.specs.Departures.{SendingView}
use Rattle.nm_sending.proofs.sendings.Sending.piece_to.Goals as goal

pub returns-clause-in_range : goal.returns-clause-in_range
returns-clause-in_range c =
    let t = c.self.invariant in
    subst (λ (v : SendingView). IfSome c.piece_to.result (λ to. to < length v.outbox.popped)) c.self.view_is
    (subst (λ (k : ℕ). IfSome c.piece_to.result (λ to. to < k)) (t.offers ∙ sym t.letters)
    c.piece_to.ensures.in_range)
