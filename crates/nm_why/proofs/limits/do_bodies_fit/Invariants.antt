use Rattle.std.proofs.Common.{◌≡◌, ◌+◌, sum_by, take}
use Rattle.nm_types.specs.Limits.{sent_len}
use Rattle.nm_why.proofs.limits.do_bodies_fit.Given as goal

abbrev pub invariant-loop-line : goal.invariant-loop-line
invariant-loop-line l =
    sum_by (λ line. sent_len line.command) (take l.line-index l.lines) + l.room ≡ l.most
