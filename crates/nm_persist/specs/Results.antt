-- What is kept of a rank's answers, and of the parts of one receive.
use Rattle.std.specs.Prelude.{◌≡◌, ℕ, ◌+◌, Option, List, length, flat_map, nat_eq, option_map, sum_by}
use Rattle.std.specs.Prelude.{Vec, ◌<◌, ◌≤◌, [], slice_index_or}
use Rattle.std.specs.Borrow.{Bor}
use Rattle.std.specs.List.{list_any}
use Rattle.indexmap.specs.IndexMap.{IndexMap, get}
use Rattle.nm_types.specs.declared.answers.Answer.{Answer}
use Rattle.nm_persist.specs.declared.asked.Asked.{Asked}
use Rattle.nm_persist.specs.declared.results.Received.{Received}
use Rattle.nm_persist.specs.Report.{Named, asked_at, bytes_in, is_cut, last_result, len_in}

-- the result that is kept under a name
abbrev pub found : {S : Type 0} → IndexMap ℕ (Bor Answer) S → ℕ → Option Answer
found map name = option_map (λ a. a.now) (get nat_eq map name)

-- under each name the last result among these answers is kept
pub record AreResults {S : Type 0} (answers : List Named) (map : IndexMap ℕ (Bor Answer) S) : Type 0 where
  pub each : (name : ℕ) → found map name ≡ last_result answers name

-- these are the parts of a receive
pub record IsReceived (parts : List (Option Answer)) (received : Received) : Type 0 where
  pub bytes : received.bytes.items ≡ flat_map bytes_in parts
  pub len : length (flat_map bytes_in parts) + received.lost ≡ sum_by len_in parts
  pub cut : received.cut ≡ list_any is_cut parts

-- by rank, what its lines ask of all that lines ask
pub record AreRows {A : Type 0} (all : List Asked) (rows : List (Vec Asked A)) : Type 0 where
  pub each : (rank : ℕ) (d : Vec Asked A) → rank < length rows
      → (slice_index_or rows rank d).items ≡ asked_at rank all
  pub beyond : (rank : ℕ) → length rows ≤ rank → asked_at rank all ≡ []
