-- The way with a number.
use Rattle.std.proofs.Common.{Option, List, Some, sym, ◌∙◌, ap}
use Rattle.std.specs.Prelude.{option_and_then}
use Rattle.std.specs.List.{slice_get}
use Rattle.nm_explored.specs.declared.stores.Way.{Way}
use Rattle.nm_explored.specs.declared.ways.Packed.{Packed}
use Rattle.nm_explored.proofs.WayLemmas.{way_found}
use Rattle.nm_explored.proofs.ways.Ways.get.Goals as goal

pub returns-in-Some : goal.returns-in-Some
returns-in-Some c =
    c.way_of.ensures
    ∙ way_found c.self.inside.moves c.self.inside.items.items c.args.k (Some c.in-Some.way)
    (ap (λ (ps : List (Option Packed)). slice_get ps c.args.k) (sym c.as_slice.ensures.value)
    ∙ sym c.item_at.ensures ∙ c.in-Some.is)
    ∙ ap (λ (ws : List (Option Way)). option_and_then (λ (w : Option Way). w) (slice_get ws c.args.k)) c.self.view_is

pub returns-in-None : goal.returns-in-None
returns-in-None c =
    way_found c.self.inside.moves c.self.inside.items.items c.args.k _
    (ap (λ (ps : List (Option Packed)). slice_get ps c.args.k) (sym c.as_slice.ensures.value)
    ∙ sym c.item_at.ensures ∙ c.in-None.is)
    ∙ ap (λ (ws : List (Option Way)). option_and_then (λ (w : Option Way). w) (slice_get ws c.args.k)) c.self.view_is
