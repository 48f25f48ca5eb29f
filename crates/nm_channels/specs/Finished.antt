-- The ranks of a run with nothing left to send.
use Rattle.std.specs.Prelude.{◌≡◌, ℕ, true, Option, IfSome, List}
use Rattle.std.specs.List.{AllByRecursion, slice_get}
use Rattle.nm_types.specs.declared.scripts.Line.{Line}
use Rattle.nm_types.specs.Commands.{Numbered}
use Rattle.nm_types.specs.Limits.{is_in_range}
use Rattle.nm_types.specs.Sizes.{Sizes}
use Rattle.nm_history.specs.Quiescence.{Ended, commands_by_rank}
use Rattle.nm_channels.specs.Moments.{LogEntry, history_of}
use Rattle.nm_channels.specs.Ends.{AreEnds}

-- a rank at the end of a run: how many of its commands ran, the line of one that waits, and its log
pub record Finished : Type 0 where
  pub at : ℕ
  pub waits : Option ℕ
  pub log : List LogEntry

-- what is recorded of it
abbrev pub ended_of : Finished → Ended
ended_of rank = record { at = rank.at; waits = rank.waits; events = history_of rank.log }

-- each two ranks, which may be the same, are the ends of the channels between them, where their commands are
-- these
abbrev pub AreAllEndsBy : Sizes → (ℕ → List Numbered) → List Finished → Type 0
AreAllEndsBy shape commands ranks =
    (i j : ℕ) →
    IfSome (slice_get ranks i)
    (λ a. IfSome (slice_get ranks j)
    (λ b. AreEnds shape i j (commands i) (commands j) a.at b.at a.log b.log))

-- the same of the lines of a script
abbrev pub AreAllEnds : Sizes → List Line → List Finished → Type 0
AreAllEnds shape lines = AreAllEndsBy shape (commands_by_rank lines)

-- the commands of each rank are in range
abbrev pub AreInRange : ℕ → (ℕ → List Numbered) → Type 0
AreInRange ranks commands = (i : ℕ) → AllByRecursion (λ c. is_in_range ranks c.command ≡ true) (commands i)
