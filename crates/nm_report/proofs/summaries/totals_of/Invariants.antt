use Rattle.std.proofs.Common.{take, flat_map}
use Rattle.nm_report.specs.Totals.{Added, answers_in}
use Rattle.nm_report.proofs.summaries.totals_of.Given as goal

-- the answers of the ranks so far are added
abbrev pub invariant-loop-account : goal.invariant-loop-account
invariant-loop-account l =
    Added (flat_map answers_in (take l.account-index l.ranks)) (record { sent = 0; got = 0; bytes = 0 })
    l.totals
