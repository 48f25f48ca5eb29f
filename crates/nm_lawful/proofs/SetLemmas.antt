-- Sets of states.
use Rattle.std.proofs.Common.{◌≡◌, ◌⊎◌, ℕ, true, Some, List, [], ◌∷◌, ◌++◌}
use Rattle.std.proofs.Common.{sym, ◌∙◌, ap}
use Rattle.std.specs.List.{IsDistinct, slice_get}
use Rattle.indexmap.specs.IndexSet.{insert_key}
use Rattle.nm_search.specs.Lists.{Has, StandOnce}
use Rattle.nm_search.proofs.SetLemmas.{inserted, once_in}
use Rattle.nm_lawful.specs.Ranks.{RankState}
use Rattle.nm_lawful.specs.SameLaws.{states, states_equiv}
use Rattle.nm_lawful.specs.Sames.{same_states}

pub states_once : (xs : List (List RankState)) → IsDistinct same_states xs → StandOnce xs
states_once xs distinct = once_in same_states states_equiv.refl xs distinct

pub states_added : (xs ys : List (List RankState)) (x : List RankState) → ys ≡ insert_key same_states xs x →
    (ys ≡ xs) ⊎ (ys ≡ xs ++ x ∷ [])
states_added xs ys x is = inserted same_states xs ys x is

pub state_there : (ys : List (List RankState)) (id : ℕ) (x : List RankState) →
    (k : List RankState) × (slice_get ys id ≡ Some k) × (same_states x k ≡ true) → Has ys x
state_there ys id x at = (id, at.1 ∙ ap (λ (s : List RankState). Some s) (sym ((states x at.0).0 at.2)))
