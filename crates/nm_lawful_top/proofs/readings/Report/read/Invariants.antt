use Rattle.std.proofs.Common.{◌≡◌, ◌≤◌, ◌+◌, length}
use Rattle.nm_script.specs.Lines.{lines_of}
use Rattle.nm_lawful.specs.Moves.{report_lem}
use Rattle.nm_lawful_top.specs.Readings.{read_from}
use Rattle.nm_lawful_top.proofs.readings.Report.read.Given as goal

-- the lines that are left, behind what is told so far, tell what all do
abbrev pub invariant-loop-rest : goal.invariant-loop-rest
invariant-loop-rest l = record {
  read : read_from l.form.cuts l.form.lines.now (lines_of l.rest) l.number (report_lem l.self.said.items l.self.waits.items)
      ≡ read_from l.form.cuts l.form.lines.now (lines_of l.text) 0
      (report_lem l.initial.self.said.items l.initial.self.waits.items);
  fits : l.number + length l.rest ≤ length l.text;
}

abbrev pub decreases-loop-rest : goal.decreases-loop-rest
decreases-loop-rest l = length l.rest
