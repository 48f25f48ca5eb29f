use Rattle.std.proofs.Common.{◌≡◌, ◌+◌, length, sum_by, take}
use Rattle.nm_types.specs.Text.{command_line}
use Rattle.nm_why.proofs.limits.does_text_fit.Given as goal

abbrev pub invariant-loop-line : goal.invariant-loop-line
invariant-loop-line l =
    sum_by (λ line. length (command_line line)) (take l.line-index l.lines) + l.room ≡ l.most
