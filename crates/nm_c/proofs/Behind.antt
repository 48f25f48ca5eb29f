-- The handles behind ranks, place by place.
use Rattle.std.proofs.Common.{◌≡◌, ℕ, zero, suc, List, [], ◌∷◌, length, set, get_or, refl, ap}
use Rattle.nm_handle.specs.declared.handles.Handle.{Handle}
use Rattle.nm_c.specs.Ranks.{handles_in}
use Rattle.nm_c.specs.declared.Rank.{Rank}

pub many_behind : (rs : List Rank) → length (handles_in rs) ≡ length rs
many_behind [] = refl
many_behind (r ∷ rs) = ap suc (many_behind rs)

pub set_behind : (rs : List Rank) (k : ℕ) (b : Rank) → handles_in (set rs k b) ≡ set (handles_in rs) k b.value
set_behind [] k b = refl
set_behind (r ∷ rs) zero b = refl
set_behind (r ∷ rs) (suc k) b = ap (λ (hs : List Handle). r.value ∷ hs) (set_behind rs k b)

pub get_behind : (rs : List Rank) (k : ℕ) (d : Rank) → (get_or rs k d).value ≡ get_or (handles_in rs) k d.value
get_behind [] k d = refl
get_behind (r ∷ rs) zero d = refl
get_behind (r ∷ rs) (suc k) d = get_behind rs k d
