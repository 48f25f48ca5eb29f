-- The law is a lemma.
use Rattle.nm_report.proofs.ToldLemmas.{report_told}
use Rattle.nm_report.proofs.laws.reports_say_what_was_told.Goals as goal

pub returns : goal.returns
returns c = report_told
