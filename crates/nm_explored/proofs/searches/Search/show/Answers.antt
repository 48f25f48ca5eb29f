-- The states at the state with a number.
use Rattle.std.proofs.Common.{sym, ap, subst}
use Rattle.std.specs.Prelude.{OnOk, Ok, Err, Result}
use Rattle.nm_outcomes.specs.RankStates.{Spot}
use Rattle.nm_explored.specs.Stores.{AreOf, Store}
use Rattle.nm_explored.proofs.PackLemmas.{found_from, shows}
use Rattle.nm_explored.proofs.searches.Search.show.Goals as goal

on_ok : {X E P Q : Type 0} → (P → Q) → (r : Result X E) → OnOk r P → OnOk r Q
on_ok follows (Ok x) right = follows right
on_ok follows (Err e) right = tt

pub returns-clause-shows : goal.returns-clause-shows
returns-clause-shows c low are =
    on_ok (λ at. shows c.args.self.now c.args.k c.show.new.all at) c.show.result
    (found_from c.self.inside.table c.args.self.now c.args.k c.ids_of.result.now c.args.all.now c.show.new.all
    (OnOk c.show.result) (ap (λ (s : Store). s.table) c.self.view_is) c.ids_of.ensures low are c.show.ensures)

pub returns-clause-are : goal.returns-clause-are
returns-clause-are c low are =
    on_ok (λ at. at.0) c.show.result
    (found_from c.self.inside.table c.args.self.now c.args.k c.ids_of.result.now c.args.all.now c.show.new.all
    (OnOk c.show.result) (ap (λ (s : Store). s.table) c.self.view_is) c.ids_of.ensures low are c.show.ensures)
