-- The states at the state with a number.
use Rattle.std.proofs.Common.{◌≡◌, ℕ, [], List, sym, ◌∙◌, ap, subst}
use Rattle.std.specs.Prelude.{unwrap_or}
use Rattle.std.specs.List.{slice_get}
use Rattle.nm_outcomes.specs.RankStates.{Spot}
use Rattle.nm_explored.specs.Stores.{AreAt, AreLow, Store}
use Rattle.nm_explored.proofs.PackLemmas.{found_at, shows}
use Rattle.nm_explored.proofs.TellLemmas.{ok_weaker}
use Rattle.nm_explored.proofs.searches.Search.state_at.Goals as goal

pub returns-clause-shows : goal.returns-clause-shows
returns-clause-shows c low =
    ok_weaker _ _
    (λ all are.
    shows c.args.self.now c.args.k all
    (found_at c.self.inside.table c.args.self.now c.args.k c.ids_of.result.now all
    (ap (λ (s : Store). s.table) c.self.view_is) c.ids_of.ensures low are))
    c.state.result c.state.ensures

pub returns-clause-are : goal.returns-clause-are
returns-clause-are c low =
    ok_weaker _ _
    (λ all are.
    (found_at c.self.inside.table c.args.self.now c.args.k c.ids_of.result.now all
    (ap (λ (s : Store). s.table) c.self.view_is) c.ids_of.ensures low are).0)
    c.state.result c.state.ensures
