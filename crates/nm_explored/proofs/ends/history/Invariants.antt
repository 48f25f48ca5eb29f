-- The answers of the deeds so far.
use Rattle.std.proofs.Common.{◌≡◌, take}
use Rattle.std.specs.List.{filter_map}
use Rattle.nm_report.specs.Told.{told_by}
use Rattle.nm_outcomes.specs.Deeds.{happening}
use Rattle.nm_explored.proofs.ends.history.Given as goal

abbrev pub invariant-loop-deed : goal.invariant-loop-deed
invariant-loop-deed l =
    filter_map (λ e. told_by e.what) l.events.items
    ≡ filter_map (λ d. told_by (happening l.lines d)) (take l.deed-index l.deeds)
