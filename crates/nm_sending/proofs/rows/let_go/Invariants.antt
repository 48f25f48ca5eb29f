use Rattle.std.proofs.Common.{◌≡◌, ◌+◌, ◌≤◌}
use Rattle.nm_sending.specs.Rows.{all_recalled, gone}
use Rattle.nm_sending.proofs.rows.let_go.Given as goal

abbrev pub invariant-loop-gone : goal.invariant-loop-gone
invariant-loop-gone l =
    (l.sent.items ≡ l.fn.sent.items)
    × (l.sent.forgotten ≡ l.fn.sent.forgotten + l._gone)
    × (l.sent.forgotten ≤ gone (all_recalled l.recalls.entries 0 l.fn.sent.items))
