-- The oldest receive of each ring, where one key stands by itself and the others in a map.
use Rattle.std.specs.Prelude.{ℕ, Bool, false, Option, if◌then◌else◌}
use Rattle.std.specs.Option.{option_and_then, option_map_or}
use Rattle.indexmap.specs.IndexMap.{get}
use Rattle.nm_match.specs.declared.fronts.Fronts.{Fronts}
use Rattle.nm_match.specs.declared.fronts.One.{One}
use Rattle.nm_match.specs.declared.picks.Picks.{Picks}
use Rattle.nm_match.specs.Picks.{same_picks}

-- the key stands by itself
abbrev pub is_one : Option One → Picks → Bool
is_one one key = option_map_or (λ o. same_picks o.key key) one false

-- the number of the oldest receive under the key that stands by itself, if one waits
abbrev pub first_of : Option One → Option ℕ
first_of one = option_and_then (λ o. o.first) one

-- the number of the oldest receive under a key, if one waits
abbrev pub front_at : Fronts → Picks → Option ℕ
front_at f key = if is_one f.one key then first_of f.one else get same_picks f.map key
