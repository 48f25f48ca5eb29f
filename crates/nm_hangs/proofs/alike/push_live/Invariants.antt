-- The receives that the names of the lines so far stand for.
use Rattle.std.proofs.Common.{◌≡◌, ℕ, ◌<◌, true, Some}
use Rattle.std.specs.List.{slice_get}
use Rattle.nm_types.specs.declared.scripts.Line.{Line}
use Rattle.nm_history.specs.Answers.{is_start_of}
use Rattle.nm_history.specs.Completion.Request.{Receiving}
use Rattle.nm_outcomes.specs.Looks.{live_in}
use Rattle.nm_search.specs.Lists.{Extends, Has}
use Rattle.nm_hangs.proofs.alike.push_live.Given as goal

abbrev pub invariant-loop-line : goal.invariant-loop-line
invariant-loop-line l = record {
  kept : Extends l.fn.numbers.items l.numbers.items;
  added : (m : ℕ) (line : Line) → m < l.line-index → slice_get l.lines m ≡ Some line → line.rank ≡ l.i →
      (q number : ℕ) → is_start_of q line.command ≡ true → live_in l.lines l.i l.deeds q ≡ Some (Receiving number) →
      Has l.numbers.items number;
}
