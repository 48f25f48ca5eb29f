-- What a packet of a message makes happen.
use Rattle.std.specs.Prelude.{ℕ, List, ◌++◌, option_map, option_to_list}
use Rattle.nm_history.specs.declared.events.Happened.{Happened}
use Rattle.nm_history.specs.declared.events.Happened.TheVariants.{Arrive}
use Rattle.nm_history.specs.Effects.{whole_if}
use Rattle.nm_receiving.specs.declared.streams.effects.Made.{Made}

-- in the order in which it happens, for a message of this rank
abbrev pub all_made : ℕ → Made → List Happened
all_made from made =
    option_to_list (option_map Arrive made.arrival) ++ whole_if made.whole from made.n
