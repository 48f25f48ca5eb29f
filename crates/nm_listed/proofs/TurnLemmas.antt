-- One turn more of a way, and one number more of those below a bound.
use Rattle.std.proofs.Common.{◌≡◌, ℕ, zero, suc, ◌+◌, ◌-◌, ◌<◌, ◌≤◌, Bool, true, Some, List, [], ◌∷◌, ◌++◌, length, drop, refl}
use Rattle.std.proofs.Common.{sym, ◌∙◌, ap, arith, replicate}
use Rattle.std.specs.Prelude.{if◌then◌else◌}
use Rattle.std.specs.List.{slice_get}
use Rattle.nm_types.specs.declared.scripts.Line.{Line}
use Rattle.nm_types.proofs.OptionLemmas.{no_some, same_some}
use Rattle.nm_outcomes.specs.Logs.{Step}
use Rattle.nm_outcomes.specs.RankStates.{Spot}
use Rattle.nm_explored.specs.declared.choices.moves.Turn.{Turn}
use Rattle.nm_listed.specs.Tellings.{answered, each_below, first_told, may_leave, over, told_next, told_way, with_out}
use Rattle.nm_listed.specs.Tellings.{with_whole}

-- one number more
pub below_next : (f : ℕ → List Step → List Step) (n : ℕ) (log : List Step) →
    each_below f (n + 1) log ≡ f n (each_below f n log)
below_next f n log = let e : n + 1 ≡ suc n = omega arith in ap (λ (k : ℕ). each_below f k log) e

-- one turn more
pub way_next : (lines : List Line) (ranks : ℕ) (path : List Turn) (k : ℕ) (t : Turn) → k < length path →
    slice_get path (length path - 1 - k) ≡ Some t →
    told_way lines ranks (drop (length path - (k + 1)) path)
    ≡ told_next lines (told_way lines ranks (drop (length path - k) path)) t
way_next lines ranks path k t below here =
    let e : length path - (k + 1) + 1 ≡ length path - k = omega (arith, below) in
    let f : length path - 1 - k ≡ length path - (k + 1) = omega (arith, below) in
    ap (λ (ts : List Turn). told_way lines ranks ts)
    (drop_at path (length path - (k + 1)) t (ap (λ (n : ℕ). slice_get path n) (sym f) ∙ here))
    ∙ ap (λ (n : ℕ). told_next lines (told_way lines ranks (drop n path)) t) e
  where
    drop_at : (ts : List Turn) (n : ℕ) (t : Turn) → slice_get ts n ≡ Some t → drop n ts ≡ t ∷ drop (n + 1) ts
    drop_at [] n t here = absurd (no_some t here)
    drop_at (x ∷ ts) zero t here = ap (λ (y : Turn). y ∷ ts) (same_some x t here)
    drop_at (x ∷ ts) (suc n) t here =
        let more : suc (n + 1) ≡ suc n + 1 = omega arith in
        drop_at ts n t here ∙ ap (λ (m : ℕ). t ∷ drop m (x ∷ ts)) more

pub way_all : (lines : List Line) (ranks : ℕ) (path : List Turn) (k : ℕ) → length path ≤ k →
    told_way lines ranks (drop (length path - k) path) ≡ told_way lines ranks path
way_all lines ranks path k over =
    let e : length path - k ≡ 0 = omega (arith, over) in
    ap (λ (n : ℕ). told_way lines ranks (drop n path)) e

pub way_none : (lines : List Line) (ranks : ℕ) (path : List Turn) →
    first_told ranks ≡ told_way lines ranks (drop (length path - 0) path)
way_none lines ranks path =
    let e : length path - 0 ≡ length path = omega arith in
    sym (ap (λ (n : ℕ). told_way lines ranks (drop n path)) e
    ∙ ap (λ (ts : List Turn). told_way lines ranks ts) (none path))
  where
    none : (ts : List Turn) → drop (length ts) ts ≡ []
    none [] = refl
    none (x ∷ ts) = none ts

-- one element more
pub replicate_next : {X : Type 0} (n : ℕ) (x : X) → replicate (n + 1) x ≡ replicate n x ++ x ∷ []
replicate_next {X} n x = let e : n + 1 ≡ suc n = omega arith in ap (λ (k : ℕ). replicate k x) e ∙ more n
  where
    more : (n : ℕ) → replicate (suc n) x ≡ replicate n x ++ x ∷ []
    more zero = refl
    more (suc n) = ap (λ (xs : List X). x ∷ xs) (more n)

-- what is left of a message that may leave
pub over_when : (spot other : Spot) (i j n : ℕ) (log : List Step) → may_leave spot other i j n ≡ true →
    over spot other i j n log ≡ with_whole (with_out (answered log i j n) i j n) j i n
over_when spot other i j n log is =
    ap (λ (b : Bool). if b then with_whole (with_out (answered log i j n) i j n) j i n else answered log i j n) is
