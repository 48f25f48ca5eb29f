-- Stores that grow.
use Rattle.std.proofs.Common.{◌≡◌, ◌⊎◌, inl, inr, ℕ, zero, suc, ◌+◌, ◌<◌, Option, Some, None, List}
use Rattle.std.proofs.Common.{[], ◌∷◌, ◌++◌, length, get_or, replicate, refl, sym, ◌∙◌, ap, subst, arith}
use Rattle.std.specs.Prelude.{option_and_then}
use Rattle.std.specs.List.{slice_get, slice_set}
use Rattle.std.proofs.lemmas.Option.{slice_get-get_or}
use Rattle.nm_types.proofs.ListLemmas.{no_item, place_below}
use Rattle.nm_types.proofs.OptionLemmas.{no_some, same_some}
use Rattle.nm_outcomes.specs.RankStates.{Spot}
use Rattle.nm_explored.specs.declared.choices.moves.Turn.{Turn}
use Rattle.nm_explored.specs.Successors.{spot_in}
use Rattle.nm_search.specs.Lists.{Has, Extends}
use Rattle.nm_explored.specs.Moves.{moved_at}
use Rattle.nm_search.proofs.ListLemmas.{has_kept}
use Rattle.nm_explored.specs.Stores.{Grows, Leads, Store}

pub grows_all : (a : Store) → Grows a a
grows_all a = record { table = λ k x here. here; states = λ k x here. here }

pub grows_then : (a b c : Store) → Grows a b → Grows b c → Grows a c
grows_then a b c one two =
    record {
      table = λ k x here. two.table k x (one.table k x here);
      states = λ k x here. two.states k x (one.states k x here);
    }

pub spot_kept : (xs ys : List Spot) (ids : List ℕ) (j : ℕ) (s : Spot) → Extends xs ys → spot_in xs ids j ≡ Some s →
    spot_in ys ids j ≡ Some s
spot_kept xs ys ids j s kept here = by_id (slice_get ids j) here
  where
    by_id : (o : Option ℕ) → option_and_then (λ id. slice_get xs id) o ≡ Some s →
        option_and_then (λ id. slice_get ys id) o ≡ Some s
    by_id None here = absurd (no_some s here)
    by_id (Some id) here = kept id s here

pub leads_kept : (a b : Store) → Grows a b → (ids : List ℕ) (i : ℕ) (s : Spot) → Leads a ids i s → Leads b ids i s
leads_kept a b grows ids i s lead =
    record {
      id = lead.id;
      spot = grows.table lead.id s lead.spot;
      state = has_kept a.states b.states (slice_set ids i lead.id) grows.states lead.state;
    }

pub own_place : (table : List Spot) (ids : List ℕ) (i : ℕ) (s : Spot) → spot_in table ids i ≡ Some s → i < length ids
own_place table ids i s here = by_id (slice_get ids i) refl here
  where
    by_id : (o : Option ℕ) → slice_get ids i ≡ o → option_and_then (λ id. slice_get table id) o ≡ Some s →
        i < length ids
    by_id None at here = absurd (no_some s here)
    by_id (Some id) at here = place_below ids i id at

pub one_state : (old new : List (List ℕ)) (ids : List ℕ) → old ≡ [] → Has new ids →
    (new ≡ old) ⊎ (new ≡ old ++ ids ∷ []) → new ≡ ids ∷ []
one_state old new ids none at (inl same) =
    absurd (no_item at.0 ids (ap (λ (xs : List (List ℕ)). slice_get xs at.0) (sym (same ∙ none)) ∙ at.1))
one_state old new ids none at (inr more) = more ∙ ap (λ (xs : List (List ℕ)). xs ++ ids ∷ []) none

pub get_replicate : (n x j : ℕ) → j < n → slice_get (replicate n x) j ≡ Some x
get_replicate zero x j low = absurd (omega (arith, low))
get_replicate (suc n) x zero low = refl
get_replicate (suc n) x (suc j) low = let y : j < n = omega (arith, low) in get_replicate n x j y

-- what a move leads to, of the element of a list
pub follow_leads : (new : Store) (ids : List ℕ) (turns : List Turn) (k : ℕ) (d t : Turn) (table : List Spot) →
    slice_get turns k ≡ Some t →
    ((spot : Spot) → spot_in table ids (get_or turns k d).rank ≡ Some spot →
    Leads new ids (get_or turns k d).rank (moved_at spot (get_or turns k d).by)) →
    (spot : Spot) → spot_in table ids t.rank ≡ Some spot → Leads new ids t.rank (moved_at spot t.by)
follow_leads new ids turns k d t table at leads =
    subst (λ (x : Turn). (spot : Spot) → spot_in table ids x.rank ≡ Some spot →
    Leads new ids x.rank (moved_at spot x.by)) (got turns k at) leads
  where
    got : (turns : List Turn) (k : ℕ) → slice_get turns k ≡ Some t → get_or turns k d ≡ t
    got [] k at = absurd (no_item k t at)
    got (y ∷ ys) zero at = same_some y t at
    got (y ∷ ys) (suc k) at = got ys k at

-- the element at a place
pub looked_up : (xs : List (List ℕ)) (k : ℕ) (x ids : List ℕ) → k < length xs → ((d : List ℕ) → x ≡ get_or xs k d) →
    slice_get xs k ≡ Some ids → x ≡ ids
looked_up xs k x ids below is here =
    is ids ∙ same_some (get_or xs k ids) ids (sym (slice_get-get_or xs k ids below) ∙ here)
