use Rattle.nm_report.specs.Ends.{ends_of}
use Rattle.nm_check.proofs.RankLemmas.{UpTo}
use Rattle.nm_check.specs.RestBreaks.{KeepRestAt}
use Rattle.nm_check.proofs.rest.firsts.first_rest_at.Given as goal

-- the ranks so far keep the rule
abbrev pub invariant-loop-i : goal.invariant-loop-i
invariant-loop-i l =
    UpTo (λ x rank. KeepRestAt l.rule (ends_of l.of.ranks.now) x rank.events rank.events) (ends_of l.of.ranks.now) l.i
