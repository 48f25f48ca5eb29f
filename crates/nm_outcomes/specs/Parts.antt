-- The parts of a rank's state.
use Rattle.std.specs.Prelude.{List, [], ◌∷◌, ◌++◌, map}
use Rattle.nm_outcomes.specs.declared.spots.deeds.Part.{Part}
use Rattle.nm_outcomes.specs.declared.spots.deeds.Part.TheVariants as part
use Rattle.nm_outcomes.specs.RankStates.{Spot}

-- the state with a part more, behind those of its kind
abbrev pub with_part : Spot → Part → Spot
with_part s (part.Did d) = record s { deeds = s.deeds ++ d ∷ [] }
with_part s (part.Open r) = record s { receives = s.receives ++ r ∷ [] }
with_part s (part.Free a) = record s { free = s.free ++ a ∷ [] }
with_part s (part.Paired p) = record s { pairs = s.pairs ++ p ∷ [] }
with_part s (part.Came a) = record s { came = s.came ++ a ∷ [] }
with_part s (part.Gone m) = record s { withdrawn = s.withdrawn ++ m ∷ [] }

-- the parts of a state
abbrev pub parts_of : Spot → List Part
parts_of s =
    map part.Did s.deeds ++ map part.Open s.receives ++ map part.Free s.free ++ map part.Paired s.pairs
    ++ map part.Came s.came ++ map part.Gone s.withdrawn
