use Rattle.std.proofs.Common.{◌≡◌, ◌++◌, drop, string_bytes}
use Rattle.nm_report.specs.Layout.{by_rank, from_rank}
use Rattle.nm_report.specs.Events.{event_lines}
use Rattle.nm_report.proofs.events.push_all_events.Given as goal

-- what is written and what is still to write are all
abbrev pub invariant-loop-rank : goal.invariant-loop-rank
invariant-loop-rank l =
    string_bytes l.out ++ from_rank event_lines l.rank (drop l.rank l.ranks)
    ≡ string_bytes l.fn.out ++ by_rank event_lines l.ranks
