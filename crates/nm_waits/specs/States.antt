-- The states of the ranks after moves.
use Rattle.std.specs.Prelude.{ℕ, List, [], ◌∷◌, replicate}
use Rattle.std.specs.List.{slice_get, slice_set}
use Rattle.std.specs.Option.{option_map_or}
use Rattle.nm_explored.specs.declared.choices.moves.Turn.{Turn}
use Rattle.nm_explored.specs.Moves.{moved_at}
use Rattle.nm_outcomes.specs.RankStates.{Spot, first_spot}

-- the states of the ranks after one move more
abbrev pub states_next : List Spot → Turn → List Spot
states_next states t =
    option_map_or (λ spot. slice_set states t.rank (moved_at spot t.by)) (slice_get states t.rank) states

-- .. after these moves, the newest first, where no rank did anything before
abbrev pub states_by : ℕ → List Turn → List Spot
states_by ranks [] = replicate ranks first_spot
states_by ranks (t ∷ ts) = states_next (states_by ranks ts) t
