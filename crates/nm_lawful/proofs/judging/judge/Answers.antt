-- What a search for a run with this rest says.
use Rattle.std.proofs.Common.{None}
use Rattle.nm_lawful.specs.Moves.{report_lem}
use Rattle.nm_lawful.proofs.EndLemmas.{says_end, says_many, says_none}
use Rattle.nm_lawful.proofs.judging.judge.Goals as goal

pub returns-in-End : goal.returns-in-End
returns-in-End c =
    says_end c.args.case.lines.now (report_lem c.args.case.told.now c.args.case.waits.now) c.args.case.ranks None c.args.case.limit c.in_ok-found.found
    c.in-End.is c.in_ok-found.ensures

pub unlawful-requires : goal.unlawful-requires
unlawful-requires c =
    says_none c.args.case.lines.now (report_lem c.args.case.told.now c.args.case.waits.now) c.args.case.ranks None c.args.case.limit c.in_ok-found.found
    c.in-NoEnd.is c.in_ok-found.ensures

pub returns-in-TooMany : goal.returns-in-TooMany
returns-in-TooMany c = (
  c.args.case.waits.now,
  None,
  says_many c.args.case.lines.now (report_lem c.args.case.told.now c.args.case.waits.now) c.args.case.ranks None c.args.case.limit
      c.in_ok-found.found c.in-TooMany.is c.in_ok-found.ensures,
)
