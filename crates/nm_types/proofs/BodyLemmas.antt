-- A body has its length, and each command of a script is in range.
use Rattle.std.proofs.Common.{◌≡◌, ℕ, Bool, true, ◌&&◌, List, [], ◌∷◌, length, refl}
use Rattle.std.specs.Prelude.{nat_lt}
use Rattle.std.specs.List.{list_all}
use Rattle.std.proofs.lemmas.List.FromFn.{length-map-range_with_len}
use Rattle.nm_types.proofs.TruthLemmas.{both, and_left, and_right}
use Rattle.nm_types.specs.Bodies.{body_len, bytes_of, generated_byte}
use Rattle.nm_types.specs.Limits.{is_in_range}
use Rattle.nm_types.specs.declared.scripts.Body.{Body}
use Rattle.nm_types.specs.declared.scripts.Body.TheVariants.{Hex, Gen}
use Rattle.nm_types.specs.declared.scripts.Line.{Line}

pub bytes_count : (body : Body) → length (bytes_of body) ≡ body_len body
bytes_count (Hex bytes) = refl
bytes_count (Gen len) = length-map-range_with_len generated_byte 0 len

pub all_in_range : (ranks : ℕ) (lines : List Line) →
    list_all (λ line. nat_lt line.rank ranks && is_in_range ranks line.command) lines ≡ true →
    list_all (λ line. is_in_range ranks line.command) lines ≡ true
all_in_range ranks [] range = refl
all_in_range ranks (line ∷ lines) range =
    let Ranged : Line → Bool = λ line. nat_lt line.rank ranks && is_in_range ranks line.command in
    let In : Line → Bool = λ line. is_in_range ranks line.command in
    both (In line) (list_all In lines)
    (and_right (nat_lt line.rank ranks) (In line) (and_left (Ranged line) (list_all Ranged lines) range))
    (all_in_range ranks lines (and_right (Ranged line) (list_all Ranged lines) range))
