-- What is known of a rank's run.
use Rattle.std.specs.Prelude.{◌≡◌, ◌<◌, ◌≤◌, List, length, map, take}
use Rattle.nm_types.specs.Commands.{Numbered, commands_of}
use Rattle.nm_history.specs.RankRun.{Always, NumberAt}
use Rattle.nm_check_rank.specs.Breaks.{BreaksFirstAt}
use Rattle.nm_check_rank.specs.Tabled.{AreRankTables}
use Rattle.nm_check_rank.specs.declared.paired.runs.Run.{Run}

-- the rank's commands
abbrev pub commands_in : Run → List Numbered
commands_in run = commands_of run.rank run.lines.now

-- its tables, the lines of its commands, and its numbers are right up to the first that is wrong
pub record IsRun (run : Run) : Type 0 where
  pub tables : AreRankTables run.rank run.lines.now run.events.now run.tables.now
  pub own : run.own.now ≡ map (λ c. c.line) (commands_in run)
  pub numbers : Always (NumberAt run.shape.ranks) run.events.now
  pub inside : length run.events.now ≤ length run.all.now
  pub front : run.events.now ≡ take (length run.events.now) run.all.now
  pub wrong : length run.events.now < length run.all.now →
      BreaksFirstAt (Always (NumberAt run.shape.ranks)) run.all.now (length run.events.now)
