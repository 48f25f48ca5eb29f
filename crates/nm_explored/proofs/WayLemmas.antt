-- How states were found, by the numbers of the moves.
use Rattle.std.proofs.Common.{◌≡◌, ℕ, suc, ◌<◌, true, Option, Some, None, List, [], ◌∷◌, ◌++◌, length, map, refl}
use Rattle.std.proofs.Common.{sym, ◌∙◌, ◌⊎◌, inl, inr, ap, subst}
use Rattle.std.specs.Prelude.{option_and_then, option_map}
use Rattle.std.specs.List.{slice_get}
use Rattle.std.proofs.lemmas.List.{map-append}
use Rattle.std.proofs.lemmas.Option.{slice_get-map}
use Rattle.nm_types.proofs.ListLemmas.{get_some, place_below}
use Rattle.nm_outcomes.proofs.SentLemmas.{get_more}
use Rattle.nm_outcomes.specs.declared.spots.deeds.Part.{Part}
use Rattle.nm_search.specs.Lists.{Extends}
use Rattle.nm_explored.specs.declared.choices.moves.Move.{Move}
use Rattle.nm_explored.specs.declared.choices.moves.Move.TheVariants.{Act, Arrive, Withdraw}
use Rattle.nm_explored.specs.declared.stores.Way.{Way}
use Rattle.nm_explored.specs.declared.ways.Packed.{Packed}
use Rattle.nm_explored.specs.Ways.{AreKnown, IsKnown, move_of_part, part_of_move, way_by, way_with}

-- a move is that of its part
move_back : (m : Move) → move_of_part (part_of_move m) ≡ Some m
move_back (Act d) = refl
move_back (Arrive a) = refl
move_back (Withdraw m) = refl

same_way : (p : Packed) (way : Way) → p.before ≡ way.before → p.rank ≡ way.rank → way_with p way.by ≡ way
same_way p way before rank = λ i. record { before = before i; rank = rank i; by = way.by }

-- a way that was numbered
pub way_is : (moves : List Part) (p : Packed) (way : Way) → slice_get moves p.by ≡ Some (part_of_move way.by) →
    p.before ≡ way.before → p.rank ≡ way.rank → way_by moves (Some p) ≡ Some way
way_is moves p way here before rank =
    ap (λ (o : Option Part). option_map (way_with p) (option_and_then move_of_part o)) here
    ∙ ap (λ (o : Option Move). option_map (way_with p) o) (move_back way.by)
    ∙ ap (λ (w : Way). Some w) (same_way p way before rank)

-- where there are more moves
known_kept : (old new : List Part) → Extends old new → (o : Option Packed) → IsKnown old o → IsKnown new o
known_kept old new kept None known = tt
known_kept old new kept (Some p) known =
    let x = get_some old p.by known in place_below new p.by x.0 (kept p.by x.0 x.1)

way_kept : (old new : List Part) → Extends old new → (o : Option Packed) → IsKnown old o → way_by new o ≡ way_by old o
way_kept old new kept None known = refl
way_kept old new kept (Some p) known =
    let x = get_some old p.by known in
    ap (λ (o : Option Part). option_map (way_with p) (option_and_then move_of_part o)) (kept p.by x.0 x.1 ∙ sym x.1)

pub all_known : (old new : List Part) (items : List (Option Packed)) → Extends old new → AreKnown old items →
    AreKnown new items
all_known old new items kept known k o here = known_kept old new kept o (known k o here)

ways_kept : (old new : List Part) → Extends old new → (items : List (Option Packed)) → AreKnown old items →
    map (way_by new) items ≡ map (way_by old) items
ways_kept old new kept [] known = refl
ways_kept old new kept (o ∷ items) known =
    λ i. way_kept old new kept o (known 0 o refl) i
    ∷ ways_kept old new kept items (λ k p here. known (suc k) p here) i

-- one more
pub known_more : (old new : List Part) (items more : List (Option Packed)) (o : Option Packed) → Extends old new →
    AreKnown old items → IsKnown new o → more ≡ items ++ o ∷ [] → AreKnown new more
known_more old new items more o kept known here is k p at =
    by_place (get_more items o true k p (ap (λ (ps : List (Option Packed)). slice_get ps k) (sym is) ∙ at))
  where
    by_place : (slice_get items k ≡ Some p) ⊎ ((k ≡ length items) × (o ≡ p) × (true ≡ true)) → IsKnown new p
    by_place (inl before) = known_kept old new kept p (known k p before)
    by_place (inr last) = subst (λ (p : Option Packed). IsKnown new p) last.1 here

pub ways_more : (old new : List Part) (items more : List (Option Packed)) (o : Option Packed) (way : Option Way) →
    Extends old new → AreKnown old items → way_by new o ≡ way → more ≡ items ++ o ∷ [] →
    map (way_by new) more ≡ map (way_by old) items ++ way ∷ []
ways_more old new items more o way kept known here is =
    ap (λ (ps : List (Option Packed)). map (way_by new) ps) is ∙ map-append (way_by new) items (o ∷ [])
    ∙ ap (λ (ws : List (Option Way)). ws ++ way_by new o ∷ []) (ways_kept old new kept items known)
    ∙ ap (λ (w : Option Way). map (way_by old) items ++ w ∷ []) here

-- the way with a number
pub way_found : (moves : List Part) (items : List (Option Packed)) (k : ℕ) (o : Option (Option Packed)) →
    slice_get items k ≡ o → option_and_then (λ (w : Option Way). w) (option_map (way_by moves) o)
    ≡ option_and_then (λ (w : Option Way). w) (slice_get (map (way_by moves) items) k)
way_found moves items k o here =
    sym (ap (λ (w : Option (Option Way)). option_and_then (λ (w : Option Way). w) w)
    (slice_get-map (way_by moves) items k ∙ ap (λ (o : Option (Option Packed)). option_map (way_by moves) o) here))
