-- A set of states has each once, and keeps what it has.
use Rattle.std.proofs.Common.{List, ℕ, ◌∙◌, ap}
use Rattle.std.specs.List.{slice_get}
use Rattle.nm_explored.proofs.SetLemmas.{ids_keep, ids_once}
use Rattle.nm_explored.proofs.stores.States.add.Goals as goal

pub returns-clause-kept : goal.returns-clause-kept
returns-clause-kept c k x here =
    ids_keep c.self.inside.items.keys c.insert_full.new.self.keys c.args.ids.items c.in_ok-new.ensures.keys k x
    (ap (λ (xs : List (List ℕ)). slice_get xs k) c.self.view_is ∙ here)

pub returns-clause-once : goal.returns-clause-once
returns-clause-once c = ids_once c.insert_full.new.self.keys c.in_ok-new.ensures.unique
