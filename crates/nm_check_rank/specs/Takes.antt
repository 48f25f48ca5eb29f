-- The event by which a receive took a message.
use Rattle.std.specs.Prelude.{◌≡◌, ℕ, false, MatchOption, Option, List}
use Rattle.nm_history.specs.declared.events.Event.{Event}
use Rattle.nm_history.specs.Completion.{is_taken}
use Rattle.nm_check_rank.specs.Breaks.{BreaksFirstAt}

-- it is the place of the first event by which a receive has message n of a rank, or none has
abbrev pub IsTakenAt : List Event → ℕ → ℕ → Option ℕ → Type 0
IsTakenAt h from n found =
    MatchOption found (is_taken h from n ≡ false) (BreaksFirstAt (λ g. is_taken g from n ≡ false) h)
