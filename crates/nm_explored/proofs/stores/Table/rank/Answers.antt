-- The state of the parts of a row.
use Rattle.std.proofs.Common.{◌≡◌, Some, List, Option, length, sym, ◌∙◌, ap, arith}
use Rattle.std.specs.List.{slice_get}
use Rattle.nm_types.proofs.ListLemmas.{get_map}
use Rattle.nm_outcomes.specs.RankStates.{Spot}
use Rattle.nm_explored.specs.Packs.{spot_by}
use Rattle.nm_explored.proofs.PackLemmas.{row_missing}
use Rattle.nm_explored.proofs.RestedLemmas.{state_there}
use Rattle.nm_explored.proofs.stores.Table.rank.Goals as goal

pub returns-in_ok-rank_of-in-Some : goal.returns-in_ok-rank_of-in-Some
returns-in_ok-rank_of-in-Some c =
    ap (λ (s : Spot). Some s) c.in_ok-rank_of-in-Some.ensures
    ∙ ap (λ row. Some (spot_by c.self.inside.parts row)) c.as_slice-in-Some.ensures
    ∙ sym (get_map (spot_by c.self.inside.parts) c.self.inside.rows c.args.id c.in-Some.row.now
    (state_there c.as_slice.result.now c.self.inside.rows c.args.id c.in-Some.row.now c.as_slice.ensures
    c.in-Some.ensures.lookup.3.0 c.in-Some.ensures.lookup.3.1))
    ∙ ap (λ (ss : List Spot). slice_get ss c.args.id) c.self.view_is

pub returns-in-None : goal.returns-in-None
returns-in-None c =
    let past = c.in-None.ensures.lookup.3 in
    let long = ap (λ rows. length rows) c.as_slice.ensures in
    sym (row_missing c.self.inside.parts c.self.inside.rows c.args.id (omega (arith, past, long)))
    ∙ ap (λ (ss : List Spot). slice_get ss c.args.id) c.self.view_is
