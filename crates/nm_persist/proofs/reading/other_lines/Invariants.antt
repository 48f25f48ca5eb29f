use Rattle.std.proofs.Common.{◌≡◌, ◌<◌, length, []}
use Rattle.nm_types.specs.declared.limits.TheConstants.{MAX_LINES}
use Rattle.nm_script.specs.Lines.{lines_of}
use Rattle.nm_persist.specs.Drafts.{IsDraft}
use Rattle.nm_script.specs.TextReading.{lines_from}
use Rattle.nm_persist.specs.Reading.{plan_reader}
use Rattle.nm_persist.proofs.reading.other_lines.Given as goal

-- the lines so far and those of what is left are those of all
abbrev pub invariant-loop-rest : goal.invariant-loop-rest
invariant-loop-rest l = record {
  read : lines_from plan_reader l.ranks l.draft.lines (lines_of l.rest)
      ≡ lines_from plan_reader l.ranks [] (lines_of l.bytes);
  draft : IsDraft l.draft;
  ranks : l.draft.ranks ≡ l.ranks;
  few : length l.draft.lines < MAX_LINES;
}

abbrev pub decreases-loop-rest : goal.decreases-loop-rest
decreases-loop-rest l = length l.rest
