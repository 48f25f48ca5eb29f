-- The events of one kind since the last command gave its answer.
use Rattle.std.specs.Prelude.{◌≡◌, ◌≢◌, ℕ, ◌≤◌, Bool, IsSomeAnd, List, [], ◌∷◌, filter, length, slice_get, take}
use Rattle.nm_types.specs.declared.answers.Answer.{Answer}
use Rattle.nm_history.specs.declared.events.Event.{Event}
use Rattle.nm_history.specs.declared.events.Happened.{Happened}
use Rattle.nm_history.specs.declared.events.Happened.TheVariants.{Ran}
use Rattle.nm_history.specs.RankRun.{since_command}
use Rattle.nm_lookups.specs.declared.asked.since.Since.{Since}
use Rattle.nm_lookups.specs.declared.asked.since.Since.TheVariants.{Nothing, One, More}

-- what happened is no answer of a command
abbrev pub IsNoAnswer : Happened → Type 0
IsNoAnswer what = (line : ℕ) (answer : Answer) → what ≢ Ran line answer

-- the events of a kind since the last answer
abbrev pub of_kind : (Happened → Bool) → List Event → List Happened
of_kind p h = filter p (since_command h)

-- there is none of them before a place, or the one at another place, or there are more
abbrev pub IsSince : (Happened → Bool) → List Event → ℕ → Since → Type 0
IsSince p h k Nothing = of_kind p (take k h) ≡ []
IsSince p h k (One t) = IsSomeAnd (slice_get h t) (λ e. of_kind p (take k h) ≡ e.what ∷ [])
IsSince p h k More = 2 ≤ length (of_kind p (take k h))
