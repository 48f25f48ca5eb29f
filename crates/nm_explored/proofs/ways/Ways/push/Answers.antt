-- One way more.
use Rattle.std.proofs.Common.{◌∷◌, [], ◌++◌, Option, List, sym, ◌∙◌, ap, subst}
use Rattle.nm_explored.specs.declared.stores.Way.{Way}
use Rattle.nm_explored.specs.declared.ways.Packed.{Packed}
use Rattle.nm_explored.specs.Ways.{AreKnown}
use Rattle.nm_explored.proofs.WayLemmas.{all_known, known_more, ways_more}
use Rattle.nm_explored.proofs.ways.Ways.push.Goals as goal

pub invariant_of-self : goal.invariant_of-self
invariant_of-self c =
    all_known c.self.inside.moves c.numbered.new.moves c.self.inside.items.items c.in_err-packed.ensures.kept
    c.self.invariant

pub invariant_of-self-in_err-push : goal.invariant_of-self-in_err-push
invariant_of-self-in_err-push c =
    subst (λ (ps : List (Option Packed)). AreKnown c.numbered.new.moves ps) (sym c.in_err-push.ensures.items)
    (all_known c.self.inside.moves c.numbered.new.moves c.self.inside.items.items c.in_ok-packed.ensures.kept
    c.self.invariant)

pub invariant_of-self-2 : goal.invariant_of-self-2
invariant_of-self-2 c =
    known_more c.self.inside.moves c.numbered.new.moves c.self.inside.items.items c.push.new.self.items
    c.in_ok-packed.packed c.in_ok-packed.ensures.kept c.self.invariant c.in_ok-packed.ensures.known
    c.in_ok-push.ensures.items

pub returns : goal.returns
returns c =
    ways_more c.self.inside.moves c.numbered.new.moves c.self.inside.items.items c.push.new.self.items
    c.in_ok-packed.packed c.args.way c.in_ok-packed.ensures.kept c.self.invariant c.in_ok-packed.ensures.way
    c.in_ok-push.ensures.items
    ∙ ap (λ (ws : List (Option Way)). ws ++ c.args.way ∷ []) c.self.view_is
