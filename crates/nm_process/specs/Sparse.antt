-- Names that came, and where each of them stands (a sparse set, by pages of places).
use Rattle.std.specs.Prelude.{◌≡◌, ℕ, ◌+◌, ◌*◌, ◌/◌, ◌%◌, ◌<◌, Some, List, [], slice_get, slice_index}
use Rattle.std.specs.Prelude.{slice_index_or}
use Rattle.nm_request.specs.declared.Req.{Req}

-- the page of a name: bits 4 and 5 stand below those from 10 on
abbrev pub page_of : ℕ → ℕ
page_of q = q / 1024 * 4 + q / 16 % 4

-- where it has its place there: bits 0 to 3 stand below bits 6 to 9
abbrev pub slot_of : ℕ → ℕ
slot_of q = q / 64 % 16 * 16 + q % 16

-- the place of a name, 0 where it has none
unfoldable pub place_of_name : List (List ℕ) → ℕ → ℕ
place_of_name pages q = slice_index (slice_index_or pages (page_of q) []) (slot_of q)

-- each name that came stands at its place
abbrev pub StandAt : (ℕ → ℕ) → List (ℕ × Req) → Type 0
StandAt place names =
    (k q : ℕ) (r : Req) → slice_get names k ≡ Some (q, r) → (q < 65536) × (place q ≡ k)
