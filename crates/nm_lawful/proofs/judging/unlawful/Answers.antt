-- What a search for the answers without their rest says.
use Rattle.std.proofs.Common.{Some}
use Rattle.nm_lawful.specs.Moves.{report_lem}
use Rattle.nm_lawful.proofs.EndLemmas.{says_end, says_many, says_none}
use Rattle.nm_lawful.proofs.judging.unlawful.Goals as goal

pub first_restless-requires-clause-told : goal.first_restless-requires-clause-told
first_restless-requires-clause-told c =
    says_end c.args.case.lines.now (report_lem c.args.case.told.now c.args.case.waits.now) c.args.case.ranks (Some c.args.count)
    c.args.case.limit c.in_ok-found.found c.in-End.is c.in_ok-found.ensures

pub first_unlawful-requires-clause-untold : goal.first_unlawful-requires-clause-untold
first_unlawful-requires-clause-untold c =
    says_none c.args.case.lines.now (report_lem c.args.case.told.now c.args.case.waits.now) c.args.case.ranks (Some c.args.count) c.args.case.limit
    c.in_ok-found.found c.in-NoEnd.is c.in_ok-found.ensures

pub returns-in-TooMany : goal.returns-in-TooMany
returns-in-TooMany c = (
  c.args.case.waits.now,
  Some c.args.count,
  says_many c.args.case.lines.now (report_lem c.args.case.told.now c.args.case.waits.now) c.args.case.ranks (Some c.args.count)
      c.args.case.limit c.in_ok-found.found c.in-TooMany.is c.in_ok-found.ensures,
)
