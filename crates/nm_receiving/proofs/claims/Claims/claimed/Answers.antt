use Rattle.std.specs.Prelude.{IsSome}
use Rattle.std.proofs.Common.{Option, refl, sym, ◌∙◌, subst}
use Rattle.nm_types.specs.declared.messages.Arrival.{Arrival}
use Rattle.nm_receiving.proofs.claims.Claims.claimed.Goals as goal

pub unwrap-requires : goal.unwrap-requires
unwrap-requires c =
    let was = c.self.invariant.each c.args.from c.args.n (rw (← c.self.view_is) at c.requires) in
    subst (λ (o : Option Arrival). IsSome o) (sym (c.find.ensures ∙ was.found)) refl

pub returns : goal.returns
returns c =
    let was = c.self.invariant.each c.args.from c.args.n (rw (← c.self.view_is) at c.requires) in
    rw (← c.self.view_is) (was.is ∙ sym was.found ∙ sym c.find.ensures ∙ c.unwrap.ensures)
