-- The states of the first numbers.
use Rattle.std.proofs.Common.{◌≡◌, take}
use Rattle.std.specs.List.{filter_map, slice_get}
use Rattle.nm_explored.proofs.stores.Table.ranks.Given as goal

abbrev pub invariant-loop-id : goal.invariant-loop-id
invariant-loop-id l = l.all.items ≡ filter_map (λ id. slice_get l.self id) (take l.id-index l.ids)
