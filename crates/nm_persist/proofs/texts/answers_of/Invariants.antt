use Rattle.std.proofs.Common.{◌≡◌, map, take}
use Rattle.std.specs.Prelude.{filter_map}
use Rattle.nm_report.specs.Told.{told_by}
use Rattle.nm_persist.proofs.texts.answers_of.Given as goal

-- the answers so far
abbrev pub invariant-loop-event : goal.invariant-loop-event
invariant-loop-event l =
    map (λ a. a.now) l.answers.items
    ≡ map (λ t. t.answer) (filter_map (λ event. told_by event.what) (take l.event-index l.history.events))
