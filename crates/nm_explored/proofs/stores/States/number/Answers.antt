-- A set of states has each once, and keeps what it has.
use Rattle.std.proofs.Common.{◌≡◌, ◌⊎◌, inl, ◌∷◌, [], ◌++◌, List, ℕ, sym, ◌∙◌, subst}
use Rattle.nm_explored.proofs.SetLemmas.{ids_added, ids_at, ids_once}
use Rattle.nm_explored.proofs.stores.States.number.Goals as goal

pub returns-clause-there : goal.returns-clause-there
returns-clause-there c =
    ids_at c.insert_full.new.self.keys c.in_ok-number.number c.args.ids.items c.in_ok-number.ensures.stored

pub returns-clause-added : goal.returns-clause-added
returns-clause-added c =
    subst (λ (xs : List (List ℕ)). (c.insert_full.new.self.keys ≡ xs)
    ⊎ (c.insert_full.new.self.keys ≡ xs ++ c.args.ids.items ∷ [])) c.self.view_is
    (ids_added c.self.inside.items.keys c.insert_full.new.self.keys c.args.ids.items c.in_ok-number.ensures.keys)

pub returns-clause-once : goal.returns-clause-once
returns-clause-once c = ids_once c.insert_full.new.self.keys c.in_ok-number.ensures.unique

pub returns-in_err-number-clause-once : goal.returns-in_err-number-clause-once
returns-in_err-number-clause-once c = ids_once c.insert_full.new.self.keys c.in_err-number.ensures.unique
