use Rattle.std.proofs.Common.{◌≡◌, ◌≤◌, ◌<◌, ◌+◌, length, []}
use Rattle.nm_types.specs.declared.limits.TheConstants.{MAX_BODIES, MAX_LINES}
use Rattle.nm_script.specs.Lines.{lines_of}
use Rattle.nm_script.specs.Reading.{bodies_len, script_reader}
use Rattle.nm_script.specs.TextReading.{lines_from}
use Rattle.nm_script.proofs.reading.other_lines.Given as goal

-- the lines so far and those of what is left are those of all
abbrev pub invariant-loop-rest : goal.invariant-loop-rest
invariant-loop-rest l = record {
  read : lines_from script_reader l.ranks l.lines (lines_of l.rest)
      ≡ lines_from script_reader l.ranks [] (lines_of l.bytes);
  number : l.number ≡ length l.lines + 2;
  few : length l.lines < MAX_LINES;
  total : l.total ≡ bodies_len l.lines;
  fits : l.total ≤ MAX_BODIES;
}

abbrev pub decreases-loop-rest : goal.decreases-loop-rest
decreases-loop-rest l = length l.rest
