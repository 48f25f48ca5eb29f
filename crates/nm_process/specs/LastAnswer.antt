-- The answer that a rank gave last.
use Rattle.std.specs.Prelude.{◌-◌, Option, option_and_then, List, length}
use Rattle.std.specs.List.{slice_get}
use Rattle.nm_types.specs.declared.answers.Answer.{Answer}
use Rattle.nm_history.specs.declared.events.Event.{Event}
use Rattle.nm_history.specs.Totals.{answer_in}

-- the answer of the last event, if that is one
abbrev pub last_answer : List Event → Option Answer
last_answer h = option_and_then (λ e. slice_get (answer_in e.what) 0) (slice_get h (length h - 1))
