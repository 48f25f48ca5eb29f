use Rattle.std.proofs.Common.{◌≡◌, length}
use Rattle.nm_report.specs.Ends.{ends_of}
use Rattle.nm_check.specs.Marked.{AreMarks}
use Rattle.nm_check.proofs.ItemLemmas.{EachItem}
use Rattle.nm_check.proofs.firsts.marks_of.Given as goal

-- there are the marks of the ranks so far
abbrev pub invariant-loop-x : goal.invariant-loop-x
invariant-loop-x l = (length l.marks.items ≡ l.x) × EachItem (AreMarks l.lines (ends_of l.ranks)) l.marks.items
