-- One state, in which no rank did anything.
use Rattle.std.proofs.Common.{◌≡◌, ℕ, zero, suc, Option, Some, None, List, [], ◌∷◌, ◌++◌, length, replicate, sym, ◌∙◌, ap, subst}
use Rattle.std.specs.Prelude.{option_and_then}
use Rattle.std.specs.List.{slice_get}
use Rattle.nm_types.proofs.ListLemmas.{no_item}
use Rattle.nm_types.proofs.OptionLemmas.{same_some}
use Rattle.nm_outcomes.specs.RankStates.{Spot, first_spot}
use Rattle.nm_explored.specs.declared.stores.Way.{Way}
use Rattle.nm_explored.specs.Met.{IsBack, IsSound}
use Rattle.nm_explored.specs.Stores.{states_in}
use Rattle.nm_explored.proofs.MetLemmas.{sound_first, states_alike}
use Rattle.nm_explored.proofs.SetLemmas.{by_new}
use Rattle.nm_explored.proofs.StoreLemmas.{get_replicate, one_state}
use Rattle.nm_explored.proofs.searches.Search.new.Goals as goal

pub returns-clause-first : goal.returns-clause-first
returns-clause-first c =
    record {
      ids = c.in_ok-ids.ids.items;
      only = one_state c.new-states.result c.add.new.self c.in_ok-ids.ids.items c.new-states.ensures
          c.in_ok-add.ensures.there
          (by_new c.new-states.result c.add.new.self c.in_ok-ids.ids.items c.in_ok-add.field-0
          c.in_ok-add.ensures.added);
      idle = λ j low.
          ap (λ (xs : List ℕ). option_and_then (λ id. slice_get c.number.new.self id) (slice_get xs j))
          (c.in_ok-ids.ensures.items_if_clones_equal (λ y is. is))
          ∙ ap (λ (o : Option ℕ). option_and_then (λ id. slice_get c.number.new.self id) o)
          (get_replicate c.args.ranks c.in_ok-id.id j low)
          ∙ c.in_ok-id.ensures.there ∙ ap (λ (s : Spot). Some s) c.new-first.ensures;
    }

-- .. and how it was found
pub returns-clause-back : goal.returns-clause-back
returns-clause-back c eager lines = record {
  as_many = ap (λ (ws : List (Option Way)). length ws) found
      ∙ ap (λ (ss : List (List ℕ)). length ss) (sym only);
  back = λ k ids way here at.
      back_only k ids way (ap (λ (xs : List (List ℕ)). slice_get xs k) (sym only) ∙ here)
      (ap (λ (ws : List (Option Way)). slice_get ws k) (sym found) ∙ at);
}
  where
    found : c.push.new.self ≡ None ∷ []
    found = c.in_ok-push.ensures ∙ ap (λ (ws : List (Option Way)). ws ++ None ∷ []) c.new-ways.ensures

    only : c.add.new.self ≡ c.in_ok-ids.ids.items ∷ []
    only =
        one_state c.new-states.result c.add.new.self c.in_ok-ids.ids.items c.new-states.ensures
        c.in_ok-add.ensures.there
        (by_new c.new-states.result c.add.new.self c.in_ok-ids.ids.items c.in_ok-add.field-0 c.in_ok-add.ensures.added)

    first : states_in c.number.new.self c.in_ok-ids.ids.items ≡ replicate c.args.ranks first_spot
    first =
        ap (λ (ids : List ℕ). states_in c.number.new.self ids) (c.in_ok-ids.ensures.items_if_clones_equal (λ y is. is))
        ∙ states_alike c.number.new.self c.args.ranks c.in_ok-id.id
        (c.in_ok-id.ensures.there ∙ ap (λ (s : Spot). Some s) c.new-first.ensures)

    back_only : (k : ℕ) (ids : List ℕ) (way : Option Way) → slice_get (c.in_ok-ids.ids.items ∷ []) k ≡ Some ids →
        slice_get (None ∷ []) k ≡ Some way →
        IsBack eager c.args.ranks lines (record {
          table = c.number.new.self;
          states = c.add.new.self;
          ways = c.push.new.self;
        }) k ids way
    back_only zero ids way here at =
        subst (λ (w : Option Way). IsBack eager c.args.ranks lines (record {
          table = c.number.new.self;
          states = c.add.new.self;
          ways = c.push.new.self;
        }) 0 ids w) (same_some None way at)
        (subst (λ (xs : List ℕ). states_in c.number.new.self xs ≡ replicate c.args.ranks first_spot)
        (same_some c.in_ok-ids.ids.items ids here) first)
    back_only (suc k) ids way here at = absurd (no_item k ids here)

-- .. and no moves lead to it
pub returns-clause-made : goal.returns-clause-made
returns-clause-made c eager lines =
    record {
      table = c.in_ok-id.ensures.once;
      states = c.in_ok-add.ensures.once;
      sound = λ k other here. sound_only k other (ap (λ (xs : List (List ℕ)). slice_get xs k) (sym only) ∙ here);
    }
  where
    only : c.add.new.self ≡ c.in_ok-ids.ids.items ∷ []
    only =
        one_state c.new-states.result c.add.new.self c.in_ok-ids.ids.items c.new-states.ensures
        c.in_ok-add.ensures.there
        (by_new c.new-states.result c.add.new.self c.in_ok-ids.ids.items c.in_ok-add.field-0 c.in_ok-add.ensures.added)

    alike : c.in_ok-ids.ids.items ≡ replicate c.args.ranks c.in_ok-id.id
    alike = c.in_ok-ids.ensures.items_if_clones_equal (λ y is. is)

    sound : IsSound eager c.args.ranks lines c.number.new.self c.in_ok-ids.ids.items
    sound =
        subst (λ (ids : List ℕ). IsSound eager c.args.ranks lines c.number.new.self ids) (sym alike)
        (sound_first eager c.args.ranks lines c.number.new.self c.in_ok-id.id
        (c.in_ok-id.ensures.there ∙ ap (λ (s : Spot). Some s) c.new-first.ensures))

    sound_only : (k : ℕ) (other : List ℕ) → slice_get (c.in_ok-ids.ids.items ∷ []) k ≡ Some other →
        IsSound eager c.args.ranks lines c.number.new.self other
    sound_only zero other here =
        subst (λ (ids : List ℕ). IsSound eager c.args.ranks lines c.number.new.self ids) (same_some _ _ here) sound
    sound_only (suc k) other here = absurd (no_item k other here)
