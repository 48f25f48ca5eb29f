use Rattle.std.proofs.Common.{◌≡◌, [], map, replicate}
use Rattle.nm_receiving.proofs.receipts.Receipts.new.Given as goal

abbrev pub invariant-loop : goal.invariant-loop
invariant-loop l = map (λ row. row.messages) l.rows.items ≡ replicate l.counter []
