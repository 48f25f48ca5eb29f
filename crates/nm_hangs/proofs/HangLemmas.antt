-- Where each state goes on as one that was looked at, no run hangs.
use Rattle.std.proofs.Common.{◌≡◌, inl, inr, ℕ, Bool, true, false, Option, List, refl, sym, ◌∙◌, ap, subst}
use Rattle.std.specs.Prelude.{is_none}
use Rattle.std.specs.List.{list_all, slice_get}
use Rattle.nm_types.specs.declared.scripts.Line.{Line}
use Rattle.nm_types.specs.Commands.{StandAtLines}
use Rattle.nm_types.specs.Limits.{IsScript}
use Rattle.nm_types.specs.Sizes.{Sizes}
use Rattle.nm_report.specs.Told.{RankTold}
use Rattle.nm_outcomes.specs.RankStates.{Spot, first_spot}
use Rattle.nm_outcomes.specs.Searches as searches
use Rattle.nm_explored.specs.Chosen.{Goes}
use Rattle.nm_explored.specs.Coming.{AreEnoughAt, Makes}
use Rattle.nm_explored.specs.Met.{IsMade, IsMet}
use Rattle.nm_explored.specs.Stores.{AreLow, Grows, IsExpanded, IsFirst, IsThere, Store, states_in}
use Rattle.nm_explored.specs.Successors.{spot_in}
use Rattle.nm_explored.proofs.MetLemmas.{state_at}
use Rattle.nm_explored.proofs.StoreLemmas.{spot_kept}
use Rattle.nm_explored.proofs.TellLemmas.{rest_among}
use Rattle.nm_listed.proofs.ToldLemmas.{done_by_ends}
use Rattle.nm_hangs.specs.Alike.{AreAlike}
use Rattle.nm_hangs.specs.Found.{HasNoHang}
use Rattle.nm_hangs.specs.Hunts.{AreLookedAt, IsLookedAt, IsStuckAt, IsStuckIn}
use Rattle.nm_hangs.proofs.ClassLemmas.{are_same, are_then, are_turned}
use Rattle.nm_hangs.proofs.GoLemmas.{StatesAlike, enough_alike, goes_alike, makes_alike, makes_go, met_next, stuck_alike}

-- moves lead to these states, and they go on as some that were looked at
abbrev IsFound : ℕ → ℕ → List Line → Store → List Spot → Type 0
IsFound eager ranks lines store s =
    IsMet eager ranks lines s × (ids : List ℕ) × AreLow store.table ids
    × AreAlike lines (λ i. slice_get s i) (spot_in store.table ids) × IsLookedAt eager ranks lines store ids

module _ (eager ranks : ℕ) (lines : List Line) (store : Store) (looked : AreLookedAt eager ranks lines store) where
  -- .. that go on as states that are there
  found : (u z : List Spot) → IsMet eager ranks lines u → IsThere store z → StatesAlike lines u z →
      IsFound eager ranks lines store u
  found u z met there alike =
      let l = looked there.1.0 there.0 there.1.1 in (
        met,
        l.0,
        l.2.1,
        are_then lines (λ i. slice_get u i) (λ i. slice_get z i) (spot_in store.table l.0) alike
            (are_then lines (λ i. slice_get z i) (spot_in store.table there.0) (spot_in store.table l.0)
            (are_same lines (λ i. slice_get z i) (spot_in store.table there.0)
            (λ i. ap (λ (w : List Spot). slice_get w i) (sym there.3) ∙ state_at store.table there.0 there.2 i)) l.2.2),
        l.3,
      )

  -- moves that are enough lead to others
  explored : (s : List Spot) → IsFound eager ranks lines store s →
      searches.IsExplored (Goes eager ranks lines) (AreEnoughAt ranks lines) (Makes eager ranks lines)
      (IsFound eager ranks lines store) s
  explored s is = by_kind e.leads
    where
      e : IsExpanded eager ranks lines store is.1
      e = is.4.expanded

      alike : StatesAlike lines s e.state
      alike =
          are_then lines (λ i. slice_get s i) (spot_in store.table is.1) (λ i. slice_get e.state i) is.3
          (are_same lines (spot_in store.table is.1) (λ i. slice_get e.state i)
          (λ i. sym (state_at store.table is.1 is.2 i) ∙ ap (λ (w : List Spot). slice_get w i) e.is))

      by_kind : searches.IsExplored (Goes eager ranks lines) (AreEnoughAt ranks lines) (Makes eager ranks lines)
          (IsThere store) e.state →
          searches.IsExplored (Goes eager ranks lines) (AreEnoughAt ranks lines) (Makes eager ranks lines)
          (IsFound eager ranks lines store) s
      by_kind (inl all) =
          inl (λ u go.
          let g = goes_alike eager ranks lines s e.state alike u go in
          found u g.0 (met_next eager ranks lines s u is.0 go) (all g.0 g.1) g.2)
      by_kind (inr some) =
          let at = enough_alike eager ranks lines s e.state alike is.0 some.0 some.1 in
          inr (
            some.0,
            at,
            λ u makes.
                let g = makes_alike eager ranks lines s e.state alike some.0 u makes in
                found u g.0
                (met_next eager ranks lines s u is.0 (makes_go eager ranks lines some.0 s u at makes))
                (some.2 g.0 g.1) g.2,
          )

  -- no rank is stuck there
  not_stuck : (s : List Spot) → IsFound eager ranks lines store s → IsStuckAt ranks lines (λ i. slice_get s i) → ⊥
  not_stuck s is stuck =
      is.4.free
      (subst (λ (v : ℕ → Option Spot). IsStuckAt ranks lines v) (λ j i. state_at store.table is.1 is.2 i j)
      (stuck_alike eager ranks lines (states_in store.table is.1) s
      (are_then lines (λ i. slice_get (states_in store.table is.1) i) (spot_in store.table is.1) (λ i. slice_get s i)
      (are_same lines (λ i. slice_get (states_in store.table is.1) i) (spot_in store.table is.1)
      (λ i. state_at store.table is.1 is.2 i))
      (are_turned lines (λ i. slice_get s i) (spot_in store.table is.1) is.3)) stuck))

pub never_hangs : StandAtLines → (shape : Sizes) (lines : List Line) → IsScript shape.ranks lines → (old new : Store) →
    IsFirst shape.ranks old → Grows old new → IsMade shape.eager shape.ranks lines new →
    AreLookedAt shape.eager shape.ranks lines new → HasNoHang shape lines
never_hangs stand shape lines script old new first grows made looked run lawful =
    let here = grows.states 0 first.ids (ap (λ (xs : List (List ℕ)). slice_get xs 0) first.only) in
    let sound = made.sound 0 first.ids here in
    let start = states_in new.table first.ids in
    let rest = rest_among stand shape lines script (IsFound shape.eager shape.ranks lines new)
    (explored shape.eager shape.ranks lines new looked) start
    (found shape.eager shape.ranks lines new looked start start sound.met (first.ids, (0, here), sound.low, refl)
    (are_same lines (λ i. slice_get start i) (λ i. slice_get start i) (λ i. refl)))
    (λ j low. state_at new.table first.ids sound.low j
    ∙ spot_kept old.table new.table first.ids j first_spot grows.table (first.idle j low)) run lawful in
    not_false run.done
    (λ stuck. not_stuck shape.eager shape.ranks lines new looked rest.0 rest.1 (record {
      rest = rest.2;
      waits = ap (λ (told : List RankTold). list_all (λ (rank : RankTold). is_none rank.waits) told) (sym rest.3)
          ∙ sym (done_by_ends run.ranks) ∙ sym lawful.ended ∙ stuck;
    }))
  where
    not_false : (b : Bool) → (b ≡ false → ⊥) → b ≡ true
    not_false true is = refl
    not_false false is = absurd (is refl)

-- the states at which a rank is stuck, by the numbers of theirs
pub stuck_there : (eager ranks : ℕ) (lines : List Line) (store : Store) (k : ℕ) → IsMade eager ranks lines store →
    (at : IsStuckIn ranks lines store k) →
    IsStuckAt ranks lines (λ i. slice_get (states_in store.table at.0) i)
stuck_there eager ranks lines store k made at =
    subst (λ (v : ℕ → Option Spot). IsStuckAt ranks lines v)
    (λ j i. sym (state_at store.table at.0 (made.sound k at.0 at.1).low i) j) at.2

-- what holds of sizes and lines holds of equal ones
pub of_equal : (P : ℕ → ℕ → List Line → Type 0) (a b c d : ℕ) (xs ys : List Line) → a ≡ b → c ≡ d → xs ≡ ys →
    P a c xs → P b d ys
of_equal P a b c d xs ys one two three holds =
    subst (λ (x : ℕ). P x d ys) one
    (subst (λ (x : ℕ). P a x ys) two (subst (λ (x : List Line). P a c x) three holds))
