-- Where a rule of a history breaks first.
use Rattle.std.specs.Prelude.{ℕ, ◌+◌, ◌<◌, List, length, take}
use Rattle.nm_history.specs.declared.events.Event.{Event}

-- The events before this one keep the rule, and with it they break it.
pub record BreaksFirstAt (Keeps : List Event → Type 0) (h : List Event) (k : ℕ) : Type 0 where
  pub inside : k < length h
  pub kept : Keeps (take k h)
  pub broken : ¬ Keeps (take (k + 1) h)
