-- The record of a way has the report of what is told where it leads to.
use Rattle.std.proofs.Common.{List, ap, sym, ◌∙◌}
use Rattle.nm_report.specs.Told.{RankTold}
use Rattle.nm_explored.proofs.TellLemmas.{ok_weaker}
use Rattle.nm_listed.specs.Finding.{text_of_told}
use Rattle.nm_listed.proofs.ToldLemmas.{report_by_told}
use Rattle.nm_listed.proofs.records.trace_by.Goals as goal

pub returns : goal.returns
returns c = λ text by.
    let told = c.in_ok-run.ensures by.state by.way by.rest in
    ok_weaker _ _
    (λ trace is. record {
      run = c.in_ok-run.run';
      lawful = told.0;
      report = report_by_told c.reports_say_what_was_told.ensures c.args.shape c.args.script.now.lines c.in_ok-run.run'
          told.0 ∙ ap (λ (t : List RankTold). text_of_told c.args.shape t) told.1 ∙ sym by.text_is;
      trace_is = is;
    }) c.trace.result c.trace.ensures
