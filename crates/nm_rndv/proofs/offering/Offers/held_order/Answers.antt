use Rattle.std.proofs.Common.{◌∙◌, ◌+◌, ap, sym}
use Rattle.nm_rndv.proofs.offering.Offers.held_order.Goals as goal

pub returns : goal.returns
returns c =
    rw (← c.self.view_is) (ap (λ k. k + c.held.result) (sym c.self.invariant.first_is) ∙ c.held.ensures)
