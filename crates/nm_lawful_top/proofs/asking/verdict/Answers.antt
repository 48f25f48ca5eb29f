-- What is judged is what the lines tell.
use Rattle.std.proofs.Common.{ℕ, List, Option, ap, ◌∙◌}
use Rattle.nm_lawful.specs.Moves.{report_lem}
use Rattle.nm_lawful_top.specs.Texts.{named_wait}
use Rattle.nm_lawful_top.proofs.InputLemmas.{judged_as}
use Rattle.nm_lawful_top.proofs.asking.verdict.Goals as goal

pub returns : goal.returns
returns c =
    record {
      told = report_lem c.args.report.now.said.items c.args.report.now.waits.items;
      count = c.args.count;
      read = c.requires;
      says = judged_as c.as_slice-lines.result.now c.args.script.now.lines c.as_slice-told.result.now
          c.args.report.now.said.items c.as_slice-waits.result.now c.args.report.now.waits.items
          c.args.script.now.ranks c.args.count c.args.asked.states c.in_ok-judged.judged c.as_slice-lines.ensures
          c.as_slice-told.ensures.value c.as_slice-waits.ensures.value c.in_ok-judged.ensures;
      line_is = c.in_ok-line.ensures;
      wait_is = c.wait_of-wait.ensures
          ∙ ap (λ (w : List (Option ℕ)). named_wait c.in_ok-judged.judged w) c.as_slice-waits.ensures.value;
    }
