-- Bytes over the beginning of others.
use Rattle.std.proofs.Common.{◌≡◌, ℕ, ◌≤◌, List, ◌++◌, length, take, drop, append-nil, ap, ◌∙◌}
use Rattle.std.proofs.lemmas.List.{drop_all, take_all}
use Rattle.nm_c.specs.Told.{overlay}

pub fits : (bytes room : List ℕ) → length bytes ≤ length room →
    overlay bytes room ≡ bytes ++ drop (length bytes) room
fits bytes room le =
    ap (λ (xs : List ℕ). xs ++ drop (length bytes) room) (take_all (length room) bytes le)

pub is_short : (bytes room : List ℕ) → length room ≤ length bytes → overlay bytes room ≡ take (length room) bytes
is_short bytes room le =
    ap (λ (xs : List ℕ). take (length room) bytes ++ xs) (drop_all (length bytes) room le)
    ∙ append-nil (take (length room) bytes)
