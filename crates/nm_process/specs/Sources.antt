-- What gives a rank its commands.
use Rattle.std.specs.Prelude.{ℕ, ◌+◌, ◌≤◌, Option, List}
use Rattle.nm_types.specs.declared.answers.Answer.{Answer}
use Rattle.nm_types.specs.declared.scripts.Command.{Command}
use Rattle.nm_types.specs.Commands.{Numbered}
use Rattle.nm_process.specs.Work.{IsNext}

-- What contracts see of it: how many of its commands ran, among how many ranks its commands are in range,
-- which command is next, if there is one, the answers that it was told, if it is told any, and what it was at
-- first.
pub record SourceView (B : Type 0) : Type 0 where
  pub at : ℕ
  pub ranks : ℕ
  pub next : Option Command
  pub told : Option (List Answer)
  pub begun : B

-- Before the command after the first `at` of these ran, it gave them too, and the line of that command is
-- not past this one.
pub record PassedOn (gave : List Numbered → ℕ → Type 0) (commands : List Numbered) (at last : ℕ) : Type 0 where
  pub before : ℕ
  pub gives : gave commands before
  pub rises : (line : ℕ) (x : Command) → IsNext commands at (before + 1) line x → line ≤ last

-- it gives some commands
pub record GivesSome (gives : List Numbered → ℕ → Type 0) : Type 0 where
  pub commands : List Numbered
  pub last : ℕ
  pub some : gives commands last
