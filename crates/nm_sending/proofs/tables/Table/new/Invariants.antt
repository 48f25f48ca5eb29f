use Rattle.std.proofs.Common.{◌≡◌, [], map, replicate}
use Rattle.nm_sending.proofs.tables.Table.new.Given as goal

abbrev pub invariant-loop : goal.invariant-loop
invariant-loop l = map (λ v. v.items) l.rows.items ≡ replicate l.counter []
