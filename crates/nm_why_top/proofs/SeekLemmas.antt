-- States that are to be looked at, and those that were, where one run is sought.
use Rattle.std.proofs.Common.{◌≡◌, ◌⊎◌, inl, inr, ℕ, ◌+◌, ◌<◌, ◌≤◌, ◌||◌, Bool, true, false, Option, Some, None}
use Rattle.std.proofs.Common.{List, [], ◌∷◌, ◌++◌, length, refl, sym, ◌∙◌, ap, subst, arith}
use Rattle.std.specs.Prelude.{is_some, option_map}
use Rattle.std.specs.List.{cons_option, list_any, slice_get}
use Rattle.std.specs.Option.{option_map_or}
use Rattle.std.proofs.lemmas.Bool.{cases_lt}
use Rattle.std.proofs.lemmas.List.Folds.{list_any-append}
use Rattle.nm_types.specs.declared.scripts.Line.{Line}
use Rattle.nm_types.specs.Commands.{StandAtLines}
use Rattle.nm_types.specs.Limits.{IsScript}
use Rattle.nm_types.specs.Sizes.{Sizes}
use Rattle.nm_types.proofs.ListLemmas.{get_some, no_item, place_below}
use Rattle.nm_report.specs.Told.{RankTold}
use Rattle.nm_outcomes.specs.RankStates.{Spot, first_spot}
use Rattle.nm_search.specs.Lists.{AddsOnly, Extends, Has}
use Rattle.nm_search.proofs.ListLemmas.{has_kept, has_nothing, has_push, keeps_push, more_only, same_before}
use Rattle.nm_explored.specs.declared.choices.moves.Turn.{Turn}
use Rattle.nm_explored.specs.Ends.{all_told, told_in}
use Rattle.nm_explored.specs.Met.{IsMade, IsWay}
use Rattle.nm_explored.specs.Stores.{Grows, IsExpanded, IsExplored, IsFirst, Store, states_in}
use Rattle.nm_explored.specs.Successors.{spot_in}
use Rattle.nm_explored.proofs.ExpandLemmas.{expanded_kept}
use Rattle.nm_explored.proofs.MetLemmas.{spots_kept, state_at}
use Rattle.nm_explored.proofs.StoreLemmas.{spot_kept}
use Rattle.nm_explored.proofs.TellLemmas.{rest_found}
use Rattle.nm_explored.proofs.ToldLemmas.{told_more}
use Rattle.nm_listed.specs.Ends.{EndsAreRuns}
use Rattle.nm_why.specs.Hangs.{is_hung}
use Rattle.nm_why_top.specs.declared.seeking.Sought.{Sought}
use Rattle.nm_why_top.specs.declared.seeking.Sought.TheVariants as sought
use Rattle.nm_why_top.specs.Answers.{IsStuck}
use Rattle.nm_why_top.specs.Seeking.{AreAhead, Can, IsPassed, IsSought, IsSoughtIn, IsWayTo}

-- whether one of the ranks up to one waits
pub hung_more : (lines : List Line) (v : ℕ → Option Spot) (i : ℕ) (before now : Bool) →
    before ≡ is_hung (all_told lines v i) →
    now ≡ (before || option_map_or (λ (spot : Spot). is_some (told_in lines i spot).waits) (v i) false) →
    now ≡ is_hung (all_told lines v (i + 1))
hung_more lines v i before now was is =
    is ∙ ap (λ (b : Bool). b || option_map_or (λ (spot : Spot). is_some (told_in lines i spot).waits) (v i) false) was
    ∙ ap (λ (b : Bool). is_hung (all_told lines v i) || b) (by_rank (v i))
    ∙ sym (list_any-append (λ (rank : RankTold). is_some rank.waits) (all_told lines v i)
    (cons_option (option_map (told_in lines i) (v i)) []))
    ∙ ap (λ (told : List RankTold). is_hung told) (sym (told_more lines v i))
  where
    by_bool : (b : Bool) → b ≡ (b || false)
    by_bool true = refl
    by_bool false = refl

    by_rank : (o : Option Spot) →
        option_map_or (λ (spot : Spot). is_some (told_in lines i spot).waits) o false
        ≡ is_hung (cons_option (option_map (told_in lines i) o) [])
    by_rank None = refl
    by_rank (Some spot) = by_bool (is_some (told_in lines i spot).waits)

-- what is sought at equal states
sought_at : (sought : Sought) (ranks : ℕ) (lines : List Line) (v w : ℕ → Option Spot) → ((i : ℕ) → v i ≡ w i) →
    IsSought sought ranks lines v → IsSought sought ranks lines w
sought_at sought ranks lines v w same is =
    subst (λ (u : ℕ → Option Spot). IsSought sought ranks lines u) (λ k i. same i k) is

module _ (sought : Sought) (eager ranks : ℕ) (lines : List Line) where
  -- a state that was passed was where the store has more
  passed_kept : (a b : Store) → Grows a b → (ids : List ℕ) → IsPassed sought eager ranks lines a ids →
      IsPassed sought eager ranks lines b ids
  passed_kept a b grows ids passed = record {
    expanded = expanded_kept eager ranks lines a b grows ids passed.expanded;
    other = λ is. passed.other
        (sought_at sought ranks lines (spot_in b.table ids) (spot_in a.table ids)
        (λ i. spots_kept a.table b.table ids grows.table passed.expanded.low i) is);
  }

  -- the first state is to be looked at
  pub first_ahead : (store : Store) → IsFirst ranks store → (ahead : List ℕ) → ahead ≡ 0 ∷ [] →
      AreAhead sought eager ranks lines store ahead
  first_ahead store first ahead is =
      let one : length store.states ≡ 1 = ap (λ (ss : List (List ℕ)). length ss) first.only in
      record {
        low = λ k at. elim (more_only [] ahead 0 is k at) [
          | inl before ↦ absurd (no_item before.0 k before.1)
          | inr same ↦ omega (arith, same, one)
        ];
        each = λ k ids here.
            let below = place_below store.states k ids here in
            let same : 0 ≡ k = omega (arith, below, one) in
            inl (subst (λ (n : ℕ). Has ahead n) same (has_push [] ahead 0 is));
      }

  -- one state more was looked at
  pub ahead_next : (a b : Store) (left new : List ℕ) (k : ℕ) → Grows a b → IsMade eager ranks lines a →
      AreAhead sought eager ranks lines a (left ++ k ∷ []) →
      ((ids : List ℕ) → slice_get a.states k ≡ Some ids → IsExpanded eager ranks lines b ids) →
      ((ids : List ℕ) → slice_get a.states k ≡ Some ids → IsSought sought ranks lines (spot_in a.table ids) → ⊥) →
      Extends left new → AddsOnly (λ (n : ℕ). n < length b.states) left new →
      ((n : ℕ) → length a.states ≤ n → n < length b.states → Has new n) → AreAhead sought eager ranks lines b new
  ahead_next a b left new k grows made are expanded other kept only all = record {
    low = λ n at. elim (only n at) [
      | inl was ↦ below n (are.low n (has_kept left (left ++ k ∷ []) n (keeps_push left (left ++ k ∷ []) k refl) was))
      | inr low ↦ low
    ];
    each = λ n ids here. elim (cases_lt n (length a.states)) [
      | inl low ↦ by_old n ids (same_before a.states b.states n ids grows.states low here)
      | inr high ↦ inl (all n high (place_below b.states n ids here))
    ];
  }
    where
      below : (n : ℕ) → n < length a.states → n < length b.states
      below n low =
          let item = get_some a.states n low in place_below b.states n item.0 (grows.states n item.0 item.1)

      now : (ids : List ℕ) → slice_get a.states k ≡ Some ids → IsPassed sought eager ranks lines b ids
      now ids here = record {
        expanded = expanded ids here;
        other = λ is. other ids here
            (sought_at sought ranks lines (spot_in b.table ids) (spot_in a.table ids)
            (λ i. spots_kept a.table b.table ids grows.table (made.sound k ids here).low i) is);
      }

      by_old : (n : ℕ) (ids : List ℕ) → slice_get a.states n ≡ Some ids →
          Has new n ⊎ IsPassed sought eager ranks lines b ids
      by_old n ids was = elim (are.each n ids was) [
        | inl at ↦ elim (more_only left (left ++ k ∷ []) k refl n at) [
          | inl before ↦ inl (has_kept left new n kept before)
          | inr same ↦ inr (now ids (ap (λ (m : ℕ). slice_get a.states m) same ∙ was))
        ]
        | inr passed ↦ inr (passed_kept a b grows ids passed)
      ]

  -- where none is to be looked at, each was passed
  pub all_passed : (store : Store) (ahead : List ℕ) → ahead ≡ [] → AreAhead sought eager ranks lines store ahead →
      (k : ℕ) (ids : List ℕ) → slice_get store.states k ≡ Some ids → IsPassed sought eager ranks lines store ids
  all_passed store ahead none are k ids here = elim (are.each k ids here) [
    | inl at ↦ absurd (has_nothing ahead k none at)
    | inr passed ↦ passed
  ]

-- .. and then no run ends as is sought
pub none_sought : StandAtLines → (sought : Sought) (shape : Sizes) (lines : List Line) → IsScript shape.ranks lines →
    (old new : Store) → IsFirst shape.ranks old → Grows old new →
    ((k : ℕ) (ids : List ℕ) → slice_get new.states k ≡ Some ids →
    IsPassed sought shape.eager shape.ranks lines new ids) → ¬ (Can sought shape lines)
none_sought stand sought shape lines script old new first grows passed (run, lawful, hung) =
    let here = grows.states 0 first.ids (ap (λ (xs : List (List ℕ)). slice_get xs 0) first.only) in
    let explored : IsExplored shape.eager shape.ranks lines new = record {
      first = first.ids;
      found = (0, here);
      idle = λ j low. spot_kept old.table new.table first.ids j first_spot grows.table (first.idle j low);
      expanded = λ k ids at. (passed k ids at).expanded;
    } in
    let end = rest_found stand shape lines script new explored run lawful in
    let there = end.1 in
    let same : (i : ℕ) → slice_get end.0 i ≡ spot_in new.table there.0 i =
    λ i. ap (λ (s : List Spot). slice_get s i) (sym there.3) ∙ state_at new.table there.0 there.2 i in
    (passed there.1.0 there.0 there.1.1).other
    (sought_at sought shape.ranks lines (λ i. slice_get end.0 i) (spot_in new.table there.0) same
    (record {
      rest = end.2;
      hung = ap (λ (told : List RankTold). is_hung told) (sym end.3) ∙ hung;
    }))

-- the moves that lead to a state of a store are those to the end of a run that is sought
pub way_sought : (sought : Sought) (shape : Sizes) (lines : List Line) (store : Store) (k : ℕ) (path : List Turn) →
    IsMade shape.eager shape.ranks lines store → (at : IsSoughtIn sought shape.ranks lines store k) →
    IsWay shape.eager shape.ranks lines path (states_in store.table at.0) → IsWayTo sought shape lines path
way_sought sought shape lines store k path made at way = record {
  state = states_in store.table at.0;
  way = way;
  is = sought_at sought shape.ranks lines (spot_in store.table at.0) (λ i. slice_get (states_in store.table at.0) i)
      (λ i. sym (state_at store.table at.0 (made.sound k at.0 at.1).low i)) at.2;
}

-- .. and such a run there is
pub way_runs : EndsAreRuns → (sought : Sought) (shape : Sizes) (lines : List Line) → IsScript shape.ranks lines →
    (path : List Turn) → IsWayTo sought shape lines path → Can sought shape lines
way_runs runs sought shape lines script path way =
    let run = runs shape lines way.state script (path, way.way) way.is.rest in
    (run.0, run.1, ap (λ (told : List RankTold). is_hung told) run.2 ∙ way.is.hung)

-- the states that it leads to are stuck where a rank waits there
pub stuck_by : (shape : Sizes) (lines : List Line) (path : List Turn) (states : List Spot) →
    (way : IsWayTo sought.Hang shape lines path) → states ≡ way.state → IsStuck shape lines states
stuck_by shape lines path states way same =
    subst (λ (s : List Spot). IsStuck shape lines s) (sym same)
    (record {
      path = path;
      way = way.way;
      rest = way.is.rest;
      hung = way.is.hung;
    })
