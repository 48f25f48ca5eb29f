-- States that are to be looked at, and those that were.
use Rattle.std.proofs.Common.{◌≡◌, ◌⊎◌, inl, inr, ℕ, zero, suc, ◌+◌, ◌<◌, ◌≤◌, ◌&&◌, Bool, true, false, Option, Some, None}
use Rattle.std.proofs.Common.{List, [], ◌∷◌, ◌++◌, length, length-append, refl, sym, ◌∙◌, ap, subst, arith}
use Rattle.std.specs.Prelude.{is_none, option_map}
use Rattle.std.specs.List.{cons_option, list_all, slice_get}
use Rattle.std.specs.Option.{option_map_or}
use Rattle.std.proofs.lemmas.List.Folds.{list_all-append}
use Rattle.nm_types.specs.declared.scripts.Line.{Line}
use Rattle.nm_types.proofs.ListLemmas.{get_last, get_some, no_item, place_below}
use Rattle.nm_report.specs.Told.{RankTold}
use Rattle.nm_outcomes.specs.RankStates.{Spot}
use Rattle.nm_types.proofs.OptionLemmas.{same_some}
use Rattle.nm_search.specs.Lists.{Extends, Has}
use Rattle.nm_search.proofs.ListLemmas.{each_next, has_kept, has_nothing, has_push, keeps_all, keeps_push}
use Rattle.nm_search.proofs.ListLemmas.{more_only, same_before}
use Rattle.nm_explored.specs.Ends.{all_told, told_in}
use Rattle.nm_explored.specs.Met.{IsMade}
use Rattle.nm_explored.specs.Stores.{Grows, IsExpanded, Store}
use Rattle.nm_explored.specs.Successors.{spot_in}
use Rattle.nm_explored.proofs.ExpandLemmas.{expanded_kept}
use Rattle.nm_explored.proofs.MetLemmas.{low_kept, spots_kept}
use Rattle.nm_explored.proofs.StoreLemmas.{grows_all}
use Rattle.nm_explored.proofs.ToldLemmas.{told_more}
use Rattle.nm_hangs.specs.Alike.{AreAlike}
use Rattle.nm_hangs.specs.Hunts.{AreAlikeIn, AreLookedAt, AreNear, AreOpen, IsAhead, IsLookedAt, IsNearBy, IsNoted}
use Rattle.nm_hangs.specs.Hunts.{IsStuckAt}
use Rattle.nm_hangs.specs.declared.hunts.Ahead.{Ahead}
use Rattle.nm_hangs.proofs.ClassLemmas.{are_then, are_turned}
use Rattle.nm_hangs.proofs.NotedLemmas.{are_near}

-- what a list has more is at its end
pub longer : {X : Type 0} (xs ys : List X) → Extends xs ys → length xs ≤ length ys
longer {X} xs ys kept = by_length (length xs) refl
  where
    by_length : (n : ℕ) → length xs ≡ n → length xs ≤ length ys
    by_length zero none = omega (arith, none)
    by_length (suc n) many =
        let last = get_some xs n (omega (arith, many)) in
        let below = place_below ys n last.0 (kept n last.0 last.1) in
        omega (arith, below, many)

-- whether none of the ranks up to one has a command left
pub done_more : (lines : List Line) (v : ℕ → Option Spot) (i : ℕ) (before now : Bool) →
    before ≡ list_all (λ (rank : RankTold). is_none rank.waits) (all_told lines v i) →
    now ≡ (before && option_map_or (λ (spot : Spot). is_none (told_in lines i spot).waits) (v i) true) →
    now ≡ list_all (λ (rank : RankTold). is_none rank.waits) (all_told lines v (i + 1))
done_more lines v i before now was is =
    is ∙ ap (λ (b : Bool). b && option_map_or (λ (spot : Spot). is_none (told_in lines i spot).waits) (v i) true) was
    ∙ ap (λ (b : Bool). list_all (λ (rank : RankTold). is_none rank.waits) (all_told lines v i) && b) (by_rank (v i))
    ∙ sym (list_all-append (λ (rank : RankTold). is_none rank.waits) (all_told lines v i)
    (cons_option (option_map (told_in lines i) (v i)) []))
    ∙ ap (λ (told : List RankTold). list_all (λ (rank : RankTold). is_none rank.waits) told) (sym (told_more lines v i))
  where
    by_bool : (b : Bool) → b ≡ (b && true)
    by_bool true = refl
    by_bool false = refl

    by_rank : (o : Option Spot) →
        option_map_or (λ (spot : Spot). is_none (told_in lines i spot).waits) o true
        ≡ list_all (λ (rank : RankTold). is_none rank.waits) (cons_option (option_map (told_in lines i) o) [])
    by_rank None = refl
    by_rank (Some spot) = by_bool (is_none (told_in lines i spot).waits)

-- at most one state more is to be looked at
pub few_more : (lines : List Line) (table : List Spot) (ids : List ℕ) (n : ℕ) (old new : List (List ℕ))
    (before ahead : List Ahead) → IsNoted lines table ids n old new before ahead → length ahead ≤ length before + 1
few_more lines table ids n old new before ahead noted = by_kind noted.3
  where
    by_kind : ((new ≡ old) × (ahead ≡ before))
        ⊎ ((new ≡ old ++ noted.0 ∷ []) × (ahead ≡ before ++ record { state = n; classes = length old } ∷ [])) →
        length ahead ≤ length before + 1
    by_kind (inl same) = let e = ap (λ (xs : List Ahead). length xs) same.1 in omega (arith, e)
    by_kind (inr more) =
        let e = ap (λ (xs : List Ahead). length xs) more.1
        ∙ length-append before (record { state = n; classes = length old } ∷ []) in omega (arith, e)

-- .. and none that was met is lost
pub met_kept : (lines : List Line) (table : List Spot) (ids : List ℕ) (n : ℕ) (old new : List (List ℕ))
    (before ahead : List Ahead) → IsNoted lines table ids n old new before ahead → Extends old new
met_kept lines table ids n old new before ahead noted = by_kind noted.3
  where
    by_kind : ((new ≡ old) × (ahead ≡ before))
        ⊎ ((new ≡ old ++ noted.0 ∷ []) × (ahead ≡ before ++ record { state = n; classes = length old } ∷ [])) →
        Extends old new
    by_kind (inl same) = λ k x here. ap (λ (xs : List (List ℕ)). slice_get xs k) same.0 ∙ here
    by_kind (inr more) = keeps_push old new noted.0 more.0

-- a state nearby, and the classes that it names
pub near_by : (lines : List Line) (store : Store) (met : List (List ℕ)) (e : Ahead) → IsNearBy lines store met e →
    (ids classes : List ℕ) → slice_get store.states e.state ≡ Some ids → slice_get met e.classes ≡ Some classes →
    AreNear lines store.table ids classes
near_by lines store met e near ids classes here there =
    subst (λ (u : List ℕ). AreNear lines store.table u classes) (same_some near.0 ids (sym near.2 ∙ here))
    (subst (λ (t : List ℕ). AreNear lines store.table near.0 t) (same_some near.1 classes (sym near.3 ∙ there))
    (are_near lines store.table near.0 near.1 near.4))

module _ (eager ranks : ℕ) (lines : List Line) where
  -- a state that was looked at was where the store has more
  pub looked_kept : (a b : Store) → Grows a b → (ids : List ℕ) → IsLookedAt eager ranks lines a ids →
      IsLookedAt eager ranks lines b ids
  looked_kept a b grows ids looked = record {
    expanded = expanded_kept eager ranks lines a b grows ids looked.expanded;
    free = λ stuck. looked.free
        (subst (λ (v : ℕ → Option Spot). IsStuckAt ranks lines v)
        (λ j i. spots_kept a.table b.table ids grows.table looked.expanded.low i j) stuck);
  }

  -- states that go on alike do where the table has more
  alike_kept : (a b : Store) → Grows a b → (ids other : List ℕ) → AreAlikeIn lines a.table ids other →
      AreAlikeIn lines b.table ids other
  alike_kept a b grows ids other are = (
    low_kept a.table b.table ids grows.table are.0,
    low_kept a.table b.table other grows.table are.1,
    subst (λ (v : ℕ → Option Spot). AreAlike lines v (spot_in b.table other))
        (λ j i. sym (spots_kept a.table b.table ids grows.table are.0 i) j)
        (subst (λ (w : ℕ → Option Spot). AreAlike lines (spot_in a.table ids) w)
        (λ j i. sym (spots_kept a.table b.table other grows.table are.1 i) j) are.2),
  )

  -- a state nearby is so where there is more
  pub near_kept : (a b : Store) (met new : List (List ℕ)) → Grows a b → Extends met new → (e : Ahead) →
      IsNearBy lines a met e → IsNearBy lines b new e
  near_kept a b met new grows kept e near = (
    near.0,
    near.1,
    grows.states e.state near.0 near.2,
    kept e.classes near.1 near.3,
    alike_kept a b grows near.0 near.1 near.4,
  )

  -- nothing was met yet
  pub none_open : (store : Store) → AreOpen eager ranks lines store [] [] 0
  none_open store = record {
    near = λ e at. absurd (no_item at.0 e at.1);
    classed = λ k ids low here. absurd (omega (arith, low));
    covered = λ classes at. absurd (no_item at.0 classes at.1);
  }

  -- one state more was looked at
  pub open_next : (a b : Store) (met : List (List ℕ)) (left : List Ahead) (e : Ahead) → Grows a b →
      IsMade eager ranks lines a → AreOpen eager ranks lines a met (left ++ e ∷ []) (length a.states) →
      ((ids : List ℕ) → slice_get a.states e.state ≡ Some ids → IsExpanded eager ranks lines b ids) →
      ((ids : List ℕ) → slice_get a.states e.state ≡ Some ids → IsStuckAt ranks lines (spot_in a.table ids) → ⊥) →
      AreOpen eager ranks lines b met left (length a.states)
  open_next a b met left e grows made are expanded free = record {
    near = λ f at.
        near_kept a b met met grows (keeps_all met) f
        (are.near f (has_kept left (left ++ e ∷ []) f (keeps_push left (left ++ e ∷ []) e refl) at));
    classed = λ n ids low here.
        let was = are.classed n ids low (same_before a.states b.states n ids grows.states low here) in
        (was.0, was.1, alike_kept a b grows ids was.0 was.2);
    covered = λ classes at.
        let was = are.covered classes at in (
          was.0,
          was.1,
          grows.states was.0 was.1 was.2,
          alike_kept a b grows was.1 classes was.3,
          by_old was.0 was.1 was.2 was.4,
        );
  }
    where
      now : (ids : List ℕ) → slice_get a.states e.state ≡ Some ids → IsLookedAt eager ranks lines b ids
      now ids here = record {
        expanded = expanded ids here;
        free = λ stuck. free ids here
            (subst (λ (v : ℕ → Option Spot). IsStuckAt ranks lines v)
            (λ j i. spots_kept a.table b.table ids grows.table (made.sound e.state ids here).low i j) stuck);
      }

      by_old : (n : ℕ) (ids : List ℕ) → slice_get a.states n ≡ Some ids →
          IsAhead (left ++ e ∷ []) n ⊎ IsLookedAt eager ranks lines a ids →
          IsAhead left n ⊎ IsLookedAt eager ranks lines b ids
      by_old n ids was (inr looked) = inr (looked_kept a b grows ids looked)
      by_old n ids was (inl at) = elim (more_only left (left ++ e ∷ []) e refl at.0 at.1) [
        | inl before ↦ inl (at.0, before, at.2)
        | inr same ↦ inr (now ids (ap (λ (f : Ahead). slice_get a.states f.state) same
            ∙ ap (λ (m : ℕ). slice_get a.states m) at.2 ∙ was))
      ]

  -- one state more was noted
  pub open_noted : (store : Store) (met new : List (List ℕ)) (before ahead : List Ahead) (n : ℕ) (ids : List ℕ) →
      slice_get store.states n ≡ Some ids → AreOpen eager ranks lines store met before n →
      IsNoted lines store.table ids n met new before ahead → AreOpen eager ranks lines store new ahead (n + 1)
  open_noted store met new before ahead n ids here are noted = by_kind noted.3
    where
      kept : Extends met new
      kept = met_kept lines store.table ids n met new before ahead noted

      own : (u : List ℕ) → slice_get store.states n ≡ Some u → AreAlikeIn lines store.table u noted.0
      own u at = subst (λ (z : List ℕ). AreAlikeIn lines store.table z noted.0)
          (same_some ids u (sym here ∙ at)) noted.1

      each : (k : ℕ) (u : List ℕ) → k < n + 1 →
          slice_get store.states k ≡ Some u → (t : List ℕ) × Has new t × AreAlikeIn lines store.table u t
      each k u low at =
          each_next (λ (k : ℕ). (u : List ℕ) → slice_get store.states k ≡ Some u →
          (t : List ℕ) × Has new t × AreAlikeIn lines store.table u t) n
          (λ k low u at. let was = are.classed k u low at in (was.0, has_kept met new was.0 kept was.1, was.2))
          (λ u at. (noted.0, noted.2, own u at)) k low u at

      by_kind : ((new ≡ met) × (ahead ≡ before))
          ⊎ ((new ≡ met ++ noted.0 ∷ []) × (ahead ≡ before ++ record { state = n; classes = length met } ∷ [])) →
          AreOpen eager ranks lines store new ahead (n + 1)
      by_kind (inl same) = record {
        near = λ e at. near_kept store store met new (grows_all store) kept e
            (are.near e (subst (λ (xs : List Ahead). Has xs e) same.1 at));
        classed = each;
        covered = λ t at.
            let was = are.covered t (subst (λ (xs : List (List ℕ)). Has xs t) same.0 at) in
            (was.0, was.1, was.2, was.3, still was.0 was.1 was.4);
      }
        where
          still : (k : ℕ) (u : List ℕ) → IsAhead before k ⊎ IsLookedAt eager ranks lines store u →
              IsAhead ahead k ⊎ IsLookedAt eager ranks lines store u
          still k u (inl at) = inl (subst (λ (xs : List Ahead). IsAhead xs k) (sym same.1) at)
          still k u (inr looked) = inr looked
      by_kind (inr more) = record {
        near = λ f at. elim (more_only before ahead e more.1 f at) [
          | inl was ↦ near_kept store store met new (grows_all store) kept f (are.near f was)
          | inr same ↦ subst (λ (g : Ahead). IsNearBy lines store new g) same (ids, noted.0, here, last, noted.1)
        ];
        classed = each;
        covered = λ t at. elim (more_only met new noted.0 more.0 t at) [
          | inl was ↦ (let c = are.covered t was in (c.0, c.1, c.2, c.3, still c.0 c.1 c.4))
          | inr same ↦ (
            n,
            ids,
            here,
            subst (λ (z : List ℕ). AreAlikeIn lines store.table ids z) same noted.1,
            inl (e, has_push before ahead e more.1, refl),
          )
        ];
      }
        where
          e : Ahead
          e = record { state = n; classes = length met }

          last : slice_get new (length met) ≡ Some noted.0
          last = ap (λ (xs : List (List ℕ)). slice_get xs (length met)) more.0 ∙ get_last met noted.0

          still : (k : ℕ) (u : List ℕ) → IsAhead before k ⊎ IsLookedAt eager ranks lines store u →
              IsAhead ahead k ⊎ IsLookedAt eager ranks lines store u
          still k u (inl at) = inl (at.0, has_kept before ahead at.0 (keeps_push before ahead e more.1) at.1, at.2)
          still k u (inr looked) = inr looked

  -- where none is to be looked at, each goes on as one that was
  pub all_looked : (store : Store) (met : List (List ℕ)) (ahead : List Ahead) → ahead ≡ [] →
      AreOpen eager ranks lines store met ahead (length store.states) → AreLookedAt eager ranks lines store
  all_looked store met ahead none are k ids here =
      let class = are.classed k ids (place_below store.states k ids here) here in
      let first = are.covered class.0 class.1 in (
        first.1,
        (first.0, first.2),
        (
          class.2.0,
          first.3.0,
          are_then lines (spot_in store.table ids) (spot_in store.table class.0) (spot_in store.table first.1) class.2.2
              (are_turned lines (spot_in store.table first.1) (spot_in store.table class.0) first.3.2),
        ),
        looked first.0 first.1 first.4,
      )
    where
      looked : (k : ℕ) (u : List ℕ) → IsAhead ahead k ⊎ IsLookedAt eager ranks lines store u →
          IsLookedAt eager ranks lines store u
      looked k u (inl at) = absurd (has_nothing ahead at.0 none at.1)
      looked k u (inr is) = is
