-- A history of which memory keeps the last events.
use Rattle.std.specs.Prelude.{ℕ, ◌-◌, List, length, drop}
use Rattle.std.specs.List.{All, Contains}
use Rattle.nm_history.specs.declared.events.Event.{Event}

-- the events, oldest first, those that are pending, for how many of the last memory has a place, and for how many
-- pending ones more
pub record RecentView : Type 0 where
  pub events : List Event
  pub pending : List Event
  pub places : ℕ
  pub room : ℕ

-- the last n of these, or all where they are fewer
abbrev pub last_items : {T : Type 0} → ℕ → List T → List T
last_items n xs = drop (length xs - n) xs

-- each of these is one of the history
abbrev pub AreOf : List Event → List Event → Type 0
AreOf history events = All (Contains history) events
