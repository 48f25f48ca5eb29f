use Rattle.std.proofs.Common.{◌<◌}
use Rattle.std.specs.Prelude.{Contains}
use Rattle.nm_why.specs.declared.changes.Change.{Change}
use Rattle.nm_why.specs.Candidates.{IsSingle, place_of}
use Rattle.nm_why.proofs.candidates.single_changes.Given as goal

abbrev pub invariant-loop-place : goal.invariant-loop-place
invariant-loop-place l =
    (change : Change) → place_of change < l.place → IsSingle l.ranks l.lines change → Contains l.changes.items change
