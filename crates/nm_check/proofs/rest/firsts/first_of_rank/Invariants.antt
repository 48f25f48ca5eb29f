use Rattle.std.proofs.Common.{◌≡◌, length, take}
use Rattle.nm_report.specs.Ends.{ends_of}
use Rattle.nm_check.specs.RestBreaks.{KeepRestAt}
use Rattle.nm_check.proofs.rest.firsts.first_of_rank.Given as goal

-- the events so far keep the rule
abbrev pub invariant-loop-k : goal.invariant-loop-k
invariant-loop-k l =
    (length l.events ≡ l.end) × KeepRestAt l.rule (ends_of l.of.ranks.now) l.i l.events (take l.k l.events)
