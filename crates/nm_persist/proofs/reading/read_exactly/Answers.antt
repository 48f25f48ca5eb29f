-- A plan that is read keeps its limits.
use Rattle.nm_script.specs.Lines.{lines_of}
use Rattle.nm_script.specs.Reading.{ranks_at}
use Rattle.nm_script.proofs.FirstLineLemmas.{ranks_taken}
use Rattle.nm_script.proofs.StepLemmas.{at_line_ok}
use Rattle.nm_script.proofs.TextLemmas.{text_of_parts, text_taken}
use Rattle.nm_plans.specs.declared.faults.PlanKind.TheVariants as kind
use Rattle.nm_persist.specs.Reading.{plan_reader}
use Rattle.nm_persist.specs.Rules.{plans}
use Rattle.nm_persist.proofs.ReadLemmas.{reads_plans, spelled_of}
use Rattle.nm_persist.proofs.reading.read_exactly.Goals as goal

pub other_lines-requires : goal.other_lines-requires
other_lines-requires c =
    let line = c.split_line.result.0.now in
    let ranks = c.in_ok-ranks.ranks in
    (ranks_taken kind.NotAscii kind.First line ranks
    (at_line_ok 1 (ranks_at kind.NotAscii kind.First line) ranks c.in_ok-ranks.ensures)).2

pub invariant_of-result : goal.invariant_of-result
invariant_of-result c =
    let ranks = c.in_ok-ranks.ranks in
    let lines = c.in_ok-draft.draft.lines in
    let read = text_of_parts plans plan_reader reads_plans c.args.bytes.now c.split_line.result.0.now
    (lines_of c.split_line.result.1.now) ranks lines
    (cc (c.is_too_long.ensures, c.if-is_too_long.false)) c.split_line.ensures.lines
    c.in_ok-ranks.ensures c.in_ok-draft.ensures.exact in
    record {
      limits = (spelled_of c.args.bytes.now ranks lines
          (text_taken plans plan_reader reads_plans c.args.bytes.now ranks lines read)).limits;
    }
