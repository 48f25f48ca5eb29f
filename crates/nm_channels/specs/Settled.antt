-- What two ends owe one another.
use Rattle.std.specs.Prelude.{◌≡◌, ℕ, ◌==◌, true, List, length}
use Rattle.std.specs.List.{AllByRecursion}
use Rattle.std.specs.Bool.{OnTrue}
use Rattle.nm_types.specs.Commands.{Numbered}
use Rattle.nm_history.specs.declared.events.Event.{Event}
use Rattle.nm_history.specs.declared.events.Happened.{Happened}
use Rattle.nm_history.specs.declared.events.Happened.TheVariants.{Recall}
use Rattle.nm_history.specs.Sends.{sends, arrivals}
use Rattle.nm_history.specs.Delivery.{AreDelivered}
use Rattle.nm_history.specs.Quiescence.{EagerOver, AskedOver, IsAnswered}
use Rattle.nm_channels.specs.Moments.{LogEntry, history_of, taken_from, pulled_from}

-- a recall of a message to this rank has its answer
abbrev pub RecallAnswered : ℕ → List Event → Happened → Type 0
RecallAnswered j h (Recall to n) = OnTrue (to == j) (IsAnswered h (Recall to n))
RecallAnswered j h _ = Unit {0}

-- no packet and no piece of a rank was a stray
pub record HasNoStray (from : ℕ) (log : List LogEntry) : Type 0 where
  pub packets : AllByRecursion (λ t. t.continued ≡ true) (taken_from from log)
  pub pieces : AllByRecursion (λ d. d.continued ≡ true) (pulled_from from log)

-- The messages from i to j, which may be the same, are delivered: in order, with their bodies, and
-- each answer after its cause. They have all arrived, the eager ones and those that were sent by
-- asking and are paired are over, those that are claimed and not received are kept back, and the
-- recalls have their answers. Nothing that j took from i was a stray.
pub record AreSettled (i j : ℕ) (ci cj : List Numbered) (li lj : List LogEntry) : Type 0 where
  pub delivered : AreDelivered i j ci cj (history_of li) (history_of lj)
  pub arrived : length (arrivals (history_of lj) i) ≡ length (sends (history_of li) j)
  pub eager : EagerOver i j (history_of li) (history_of lj)
  pub asked : AskedOver i j (history_of li) (history_of lj)
  pub recalls : AllByRecursion (λ e. RecallAnswered j (history_of li) e.what) (history_of li)
  pub no_stray : HasNoStray i lj
