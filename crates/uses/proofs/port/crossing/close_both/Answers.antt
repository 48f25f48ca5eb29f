-- The lists of the closed fabric are those that the two ranks knew.
use Rattle.std.proofs.Common.{◌≡◌, ◌++◌, ◌∷◌, [], List, map, slice_get, ap, ◌∙◌, arith}
use Rattle.nm_cells.specs.declared.port.Port.{Port}
use Rattle.nm_cells.specs.ClosedLists.{entries}
use Rattle.nm_cells.specs.Ports.{knows}
use Rattle.uses.proofs.Fronts.{crossed}
use Rattle.uses.specs.declared.letters.Letter.{Letter}
use Rattle.uses.proofs.port.crossing.close_both.Goals as goal

pub returns : goal.returns
returns c text bytes sends takes =
    let two = c.requires.two in let e = c.close.ensures in
    let at : c.push-2.new.self.items ≡ c.args.a ∷ c.args.b ∷ [] =
    c.in_ok-push-2.ensures.items ∙ ap (λ (ports : List (Port Letter)). ports ++ c.args.b ∷ [])
    (c.in_ok-push.ensures.items ∙ ap (λ (ports : List (Port Letter)). ports ++ c.args.a ∷ [])
    c.new-ports.ensures.items) in
    let known : entries c.close.result ≡ map knows (c.args.a ∷ c.args.b ∷ []) =
    e.entries ∙ ap (λ (ports : List (Port Letter)). map knows ports) at in
    crossed c.close.result c.args.a c.args.b text bytes known
    (e.counts 0 1 c.args.a (ap (λ (ports : List (Port Letter)). slice_get ports 0) at) (omega (arith, two))).0
    (e.counts 1 0 c.args.b (ap (λ (ports : List (Port Letter)). slice_get ports 1) at) (omega (arith, two))).1
    (e.prefix 0 1 (omega (arith, two)) (omega (arith, two)))
    c.a_close_carries.ensures.sent c.a_close_carries.ensures.taken sends takes
