-- The state of the rank at the place.
use Rattle.std.proofs.Common.{Some, Option, sym, ◌∙◌, subst}
use Rattle.std.specs.List.{slice_get}
use Rattle.nm_types.proofs.ListLemmas.{get_some}
use Rattle.nm_types.proofs.OptionLemmas.{no_some}
use Rattle.nm_outcomes.specs.RankStates.{Spot}
use Rattle.nm_explored.proofs.TellLemmas.{ok_weaker}
use Rattle.nm_hangs.specs.Alike.{IsAlikeOr}
use Rattle.nm_hangs.proofs.NotedLemmas.{spot_by}
use Rattle.nm_hangs.proofs.classes.class_in.Goals as goal

pub returns-in-Some : goal.returns-in-Some
returns-in-Some c =
    ok_weaker _ _
    (λ class alike.
    subst (λ (o : Option Spot). IsAlikeOr c.args.lines.now c.args.place o (slice_get c.args.table.now class))
    (sym (spot_by c.args.table.now c.args.ids.now c.args.place (Some c.in-Some.id)
    (sym c.id_at.ensures ∙ c.in-Some.is)))
    alike)
    c.class_by.result c.class_by.ensures

pub returns-in-None : goal.returns-in-None
returns-in-None c =
    let id = get_some c.args.ids.now c.args.place c.requires.inside in
    absurd (no_some id.0 (sym c.in-None.is ∙ c.id_at.ensures ∙ id.1))
