-- The kinds of events that commands call for.
use Rattle.std.specs.Prelude.{Bool, is_some}
use Rattle.nm_history.specs.declared.events.Happened.{Happened}
use Rattle.nm_history.specs.RankRun.{line_of_claim}

-- a claim (starts are `is_start`, cancels and recalls `is_cancelling`)
abbrev pub is_claiming : Happened → Bool
is_claiming what = is_some (line_of_claim what)
