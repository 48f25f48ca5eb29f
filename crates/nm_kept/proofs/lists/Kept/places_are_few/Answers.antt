use Rattle.std.proofs.Common.{arith, length-append}
use Rattle.nm_kept.proofs.lists.Kept.places_are_few.Goals as goal

pub returns-clause-forgotten : goal.returns-clause-forgotten
returns-clause-forgotten g c =
    let a = c.self.inside in
    rw (← c.self.view_is) (omega (arith, length-append a.past.items a.window.items))

pub returns-clause-few : goal.returns-clause-few
returns-clause-few g c =
    let a = c.self.inside in
    rw (← c.self.view_is) (omega (arith, a.window.small.0))
