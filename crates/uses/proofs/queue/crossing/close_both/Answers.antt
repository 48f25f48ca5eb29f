-- The lists of the closed fabric are those that the two ranks knew.
use Rattle.std.proofs.Common.{◌≡◌, ◌++◌, ◌∷◌, [], List, map, ap, ◌∙◌, arith}
use lib.ListN.{get_elem?}
use Rattle.nm_chain.specs.declared.table.table.Entry.{Entry}
use Rattle.nm_cells.specs.declared.port.Port.{Port}
use Rattle.nm_cells.specs.ClosedLists.{entries}
use Rattle.nm_cells.specs.Ports.{knows}
use Rattle.uses.proofs.QueueFronts.{got_front}
use Rattle.uses.specs.declared.letters.Letter.{Letter}
use Rattle.uses.proofs.queue.crossing.close_both.Goals as goal

pub returns : goal.returns
returns c text bytes puts gets =
    let two = c.requires.two in let e = c.close.ensures in
    let at : c.push-2.new.self.items ≡ c.args.a ∷ c.args.b ∷ [] =
    c.in_ok-push-2.ensures.items ∙ ap (λ (ports : List (Port Letter)). ports ++ c.args.b ∷ [])
    (c.in_ok-push.ensures.items ∙ ap (λ (ports : List (Port Letter)). ports ++ c.args.a ∷ [])
    c.new-ports.ensures.items) in
    let known : entries c.close.result ≡ knows c.args.a ∷ knows c.args.b ∷ [] =
    e.entries ∙ ap (λ (ports : List (Port Letter)). map knows ports) at in
    let cells = (e.paths 0 1 (knows c.args.a) (knows c.args.b) (omega (arith, two)) (omega (arith, two))
    (ap (λ (es : List (Entry Letter)). get_elem? es 0) known) (ap (λ (es : List (Entry Letter)). get_elem? es 1) known)).0 in
    got_front (knows c.args.a) (knows c.args.b) cells.0 text bytes cells.1 puts gets
