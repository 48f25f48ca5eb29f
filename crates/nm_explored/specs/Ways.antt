-- How states were found, by the numbers of the moves.
use Rattle.std.specs.Prelude.{◌≡◌, ℕ, ◌<◌, Option, Some, None, List, length, option_and_then, option_map}
use Rattle.std.specs.List.{slice_get}
use Rattle.nm_outcomes.specs.declared.spots.deeds.Part.{Part}
use Rattle.nm_outcomes.specs.declared.spots.deeds.Part.TheVariants as part
use Rattle.nm_explored.specs.declared.choices.moves.Move.{Move}
use Rattle.nm_explored.specs.declared.choices.moves.Move.TheVariants.{Act, Arrive, Withdraw}
use Rattle.nm_explored.specs.declared.stores.Way.{Way}
use Rattle.nm_explored.specs.declared.ways.Packed.{Packed}

-- what a move adds to a state, as a part
abbrev pub part_of_move : Move → Part
part_of_move (Act d) = part.Did d
part_of_move (Arrive a) = part.Came a
part_of_move (Withdraw m) = part.Gone m

-- the move that adds a part
abbrev pub move_of_part : Part → Option Move
move_of_part (part.Did d) = Some (Act d)
move_of_part (part.Came a) = Some (Arrive a)
move_of_part (part.Gone m) = Some (Withdraw m)
move_of_part _ = None

-- how a state was found, by this move
abbrev pub way_with : Packed → Move → Way
way_with p by = record { before = p.before; rank = p.rank; by = by }

-- .. by the number of the move
abbrev pub way_by : List Part → Option Packed → Option Way
way_by moves None = None
way_by moves (Some p) = option_map (way_with p) (option_and_then move_of_part (slice_get moves p.by))

-- the number is that of a move
abbrev pub IsKnown : List Part → Option Packed → Type 0
IsKnown moves None = Unit {0}
IsKnown moves (Some p) = p.by < length moves

-- all of them are
abbrev pub AreKnown : List Part → List (Option Packed) → Type 0
AreKnown moves items = (k : ℕ) (o : Option Packed) → slice_get items k ≡ Some o → IsKnown moves o
