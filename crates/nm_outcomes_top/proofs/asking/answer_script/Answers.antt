-- Where each standard send may wait, and where a hang is looked for, no report is given.
use Rattle.nm_outcomes_top.proofs.InputLemmas.{of_reports}
use Rattle.nm_outcomes_top.proofs.asking.answer_script.Goals as goal

pub returns-in-Either : goal.returns-in-Either
returns-in-Either c = c.answer_either.ensures c.args.report.now

pub returns-in-Hangs : goal.returns-in-Hangs
returns-in-Hangs c = c.answer_hangs.ensures c.args.report.now

pub answer_reports-requires-clause-listed : goal.answer_reports-requires-clause-listed
answer_reports-requires-clause-listed c =
    of_reports c.args.asked.question c.in_default.not-Either c.in_default.not-Hangs
