-- The receives that the deeds so far started.
use Rattle.std.proofs.Common.{◌≡◌, ℕ, ◌<◌, ◌≤◌, true, Some, []}
use Rattle.std.specs.List.{slice_get}
use Rattle.nm_history.specs.Answers.{request_of}
use Rattle.nm_history.specs.Completion.Request.{Receiving}
use Rattle.nm_outcomes.specs.declared.spots.deeds.Deed.{Deed}
use Rattle.nm_outcomes.specs.Deeds.{happening}
use Rattle.nm_outcomes.specs.Looks.{is_start_by}
use Rattle.nm_search.specs.Lists.{Extends, Has}
use Rattle.nm_hangs.proofs.alike.push_started.Given as goal

abbrev pub invariant-loop-deed : goal.invariant-loop-deed
invariant-loop-deed l = record {
  kept : Extends l.fn.numbers.items l.numbers.items;
  added : (m : ℕ) (d : Deed) → m < l.deed-index → slice_get l.deeds m ≡ Some d → (line number : ℕ) →
      l.current ≤ line → is_start_by line d ≡ true → request_of line (happening [] d) ≡ Some (Receiving number) →
      Has l.numbers.items number;
}
