-- A script that is read keeps its limits.
use Rattle.nm_script.specs.Lines.{lines_of}
use Rattle.nm_script.specs.Reading.{script_reader}
use Rattle.nm_script.specs.Rules.{scripts}
use Rattle.nm_script.proofs.ReadLemmas.{reads_scripts, spelled_of}
use Rattle.nm_script.proofs.TextLemmas.{text_of_parts, text_taken}
use Rattle.nm_script.proofs.reading.read_exactly.Goals as goal

pub invariant_of-result : goal.invariant_of-result
invariant_of-result c =
    let ranks = c.in_ok-ranks.ranks in
    let lines = c.in_ok-lines.lines in
    let read = text_of_parts scripts script_reader reads_scripts c.args.bytes.now c.split_line.result.0.now
    (lines_of c.split_line.result.1.now) ranks lines
    (cc (c.is_too_long.ensures, c.if-is_too_long.false)) c.split_line.ensures.lines
    c.in_ok-ranks.ensures c.in_ok-lines.ensures in
    record {
      limits = (spelled_of c.args.bytes.now ranks lines
          (text_taken scripts script_reader reads_scripts c.args.bytes.now ranks lines read)).limits;
    }
