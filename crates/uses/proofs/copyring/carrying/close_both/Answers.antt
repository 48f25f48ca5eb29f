-- What was pulled is the beginning of what was pushed.
use Rattle.std.proofs.Common.{◌≡◌, ◌++◌, ◌∷◌, [], List, map, ap, subst, ◌∙◌, arith}
use Rattle.nm_copyring.specs.declared.port.RingPort.{RingPort}
use Rattle.nm_copyring.specs.declared.table.Entry.{Entry}
use Rattle.nm_copyring.specs.AtClose.{pulled_in, pushed_in}
use Rattle.nm_copyring.specs.ClosedLists.{entries}
use Rattle.nm_copyring.specs.Ports.{knows, pulled_from, pushed_to}
use Rattle.uses.proofs.Lanes.{bytes_front}
use Rattle.uses.proofs.copyring.carrying.close_both.Goals as goal

pub returns : goal.returns
returns c =
    let two = c.requires.first.2 in
    let at : c.push-2.new.self.items ≡ c.args.first ∷ c.args.second ∷ [] =
    c.in_ok-push-2.ensures.items ∙ ap (λ (ports : List RingPort). ports ++ c.args.second ∷ [])
    (c.in_ok-push.ensures.items ∙ ap (λ (ports : List RingPort). ports ++ c.args.first ∷ [])
    c.new-ports.ensures.items) in
    let known : entries c.close.result ≡ knows c.args.first ∷ knows c.args.second ∷ [] =
    c.close.ensures.entries ∙ ap (λ (ports : List RingPort). map knows ports) at in
    let list = c.close.ensures.lists 0 1 (omega (arith, two)) (omega (arith, two)) in
    bytes_front (pushed_to c.args.first 1) (pulled_from c.args.second 0) list.0
    (subst (λ (es : List Entry). pushed_in es 0 1 ≡ pulled_in es 0 1 ++ list.0) known list.1)
