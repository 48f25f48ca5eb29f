-- The states of the ranks after moves, one move after another.
use Rattle.std.proofs.Common.{◌≡◌, ℕ, zero, suc, ◌+◌, ◌-◌, ◌<◌, ◌≤◌, Some, List, [], ◌∷◌, length, drop, refl}
use Rattle.std.proofs.Common.{sym, ◌∙◌, ap, arith, replicate}
use Rattle.std.specs.List.{slice_get, slice_set}
use Rattle.std.specs.Option.{option_map_or}
use Rattle.std.specs.Prelude.{Option}
use Rattle.nm_types.specs.declared.scripts.Line.{Line}
use Rattle.nm_types.proofs.OptionLemmas.{no_some, same_some}
use Rattle.nm_outcomes.specs.RankStates.{Spot, first_spot}
use Rattle.nm_explored.specs.declared.choices.moves.Turn.{Turn}
use Rattle.nm_explored.specs.Met.{IsWay}
use Rattle.nm_explored.specs.Moves.{moved_at}
use Rattle.nm_waits.specs.States.{states_by, states_next}

drop_at : (ts : List Turn) (n : ℕ) (t : Turn) → slice_get ts n ≡ Some t → drop n ts ≡ t ∷ drop (n + 1) ts
drop_at [] n t here = absurd (no_some t here)
drop_at (x ∷ ts) zero t here = ap (λ (y : Turn). y ∷ ts) (same_some x t here)
drop_at (x ∷ ts) (suc n) t here =
    let more : suc (n + 1) ≡ suc n + 1 = omega arith in
    drop_at ts n t here ∙ ap (λ (m : ℕ). t ∷ drop m (x ∷ ts)) more

-- one move more
pub states_more : (ranks : ℕ) (path : List Turn) (k : ℕ) (t : Turn) → k < length path →
    slice_get path (length path - 1 - k) ≡ Some t →
    states_by ranks (drop (length path - (k + 1)) path)
    ≡ states_next (states_by ranks (drop (length path - k) path)) t
states_more ranks path k t below here =
    let e : length path - (k + 1) + 1 ≡ length path - k = omega (arith, below) in
    let f : length path - 1 - k ≡ length path - (k + 1) = omega (arith, below) in
    ap (λ (ts : List Turn). states_by ranks ts)
    (drop_at path (length path - (k + 1)) t (ap (λ (n : ℕ). slice_get path n) (sym f) ∙ here))
    ∙ ap (λ (n : ℕ). states_next (states_by ranks (drop n path)) t) e

-- .. all of them
pub states_all : (ranks : ℕ) (path : List Turn) (k : ℕ) → length path ≤ k →
    states_by ranks (drop (length path - k) path) ≡ states_by ranks path
states_all ranks path k over =
    let e : length path - k ≡ 0 = omega (arith, over) in
    ap (λ (n : ℕ). states_by ranks (drop n path)) e

-- .. none
pub states_none : (ranks : ℕ) (path : List Turn) →
    replicate ranks first_spot ≡ states_by ranks (drop (length path - 0) path)
states_none ranks path =
    let e : length path - 0 ≡ length path = omega arith in
    sym (ap (λ (n : ℕ). states_by ranks (drop n path)) e ∙ ap (λ (ts : List Turn). states_by ranks ts) (none path))
  where
    none : (ts : List Turn) → drop (length ts) ts ≡ []
    none [] = refl
    none (x ∷ ts) = none ts

-- a way leads to these states
pub way_states : (eager ranks : ℕ) (lines : List Line) (path : List Turn) (state : List Spot) →
    IsWay eager ranks lines path state → states_by ranks path ≡ state
way_states eager ranks lines [] state is = sym is
way_states eager ranks lines (t ∷ ts) state way =
    ap (λ (before : List Spot). states_next before t) (way_states eager ranks lines ts way.0 way.1)
    ∙ ap (λ (x : Option Spot). option_map_or (λ spot. slice_set way.0 t.rank (moved_at spot t.by)) x way.0) way.2.here
    ∙ sym way.3
