use Rattle.std.proofs.Common.{◌≡◌, [], take}
use Rattle.std.specs.List.{filter_map}
use Rattle.nm_types.specs.Commands.{commands_of}
use Rattle.nm_report.specs.Told.{told_by}
use Rattle.nm_sure.specs.PlainText.{told_after}
use Rattle.nm_sure.proofs.records.history.Given as goal

-- the answers of the commands so far
abbrev pub invariant-loop-line : goal.invariant-loop-line
invariant-loop-line l =
    filter_map (λ e. told_by e.what) l.events.items
    ≡ told_after l.plan.lines.now l.rank [] (take l.line-index (commands_of l.rank l.plan.lines.now))
