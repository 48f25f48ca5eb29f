-- The handles behind ranks.
use Rattle.std.specs.Prelude.{List, map}
use Rattle.nm_handle.specs.declared.handles.Handle.{Handle}
use Rattle.nm_c.specs.declared.Rank.{Rank}

-- the handles of these ranks
abbrev pub handles_in : List Rank → List Handle
handles_in = map (λ r. r.value)
