use Rattle.std.proofs.Common.{◌≡◌, map}
use Rattle.std.specs.List.{range_with_len}
use Rattle.std.specs.HashMap.{get}
use Rattle.nm_sure.specs.declared.names.Name as key
use Rattle.nm_sure.specs.Held.{before, held_at, same_name}
use Rattle.nm_sure.specs.Names.{holder}
use Rattle.nm_sure.proofs.names.all_held.Given as goal

-- each name stands for what it does before this line, and so did those of the lines so far
abbrev pub invariant-loop-k : goal.invariant-loop-k
invariant-loop-k l =
    ((n : key.Name) → get same_name l.names n ≡ holder (before l.lines l.k n.rank) n.q)
    × (l.held.items ≡ map (held_at l.lines) (range_with_len 0 l.k))
