-- What a command of a process comes to.
use Rattle.std.specs.Prelude.{◌≡◌, ℕ, ◌+◌, Bool, true, false, is_some, List}
use Rattle.std.specs.List.{slice_get}
use Rattle.std.specs.Option.{option_map_or}
use Rattle.nm_types.specs.declared.scripts.Command.{Command}
use Rattle.nm_types.specs.declared.scripts.Command.TheVariants as command
use Rattle.nm_types.specs.Commands.{Numbered}
use Rattle.nm_history.specs.Answers.{can_go_on}
use Rattle.nm_history.specs.Completion.{is_complete}
use Rattle.nm_history.specs.Matching.{first_message, matched_pairs}
use Rattle.nm_process.specs.declared.steps.Step.{Step}
use Rattle.nm_process.specs.declared.steps.Step.TheVariants.{Waits, Ran as Took}
use Rattle.nm_process.specs.Names.{named}
use Rattle.nm_process.specs.Processes.{ProcessView}
use Rattle.nm_process.specs.Starts.{HasTried}

-- whether there is a next command and it can go on
abbrev pub goes_on : List Numbered → ProcessView → Bool
goes_on commands v =
    option_map_or (λ c. can_go_on commands v.rank.events c.command) (slice_get commands v.at) false

-- a command looks at what came: a test, a probe, an await or a matched probe
abbrev pub is_look : Command → Bool
is_look (command.Test q) = true
is_look (command.Probe from tag ctx) = true
is_look (command.Await from tag ctx) = true
is_look (command.Mprobe m from tag ctx) = true
is_look _ = false

-- whether there is a next command and it looks at what came
abbrev pub looks_on : List Numbered → ProcessView → Bool
looks_on commands v = option_map_or (λ c. is_look c.command) (slice_get commands v.at) false

-- whether a command can go on, by what the names of the process stand for
abbrev pub can_go_on_by : ProcessView → Command → Bool
can_go_on_by v (command.Wait q) = option_map_or (is_complete v.rank.events) (named v q) true
can_go_on_by v (command.Await from tag ctx) =
    is_some (first_message v.rank.events (matched_pairs v.rank.events) from tag ctx)
can_go_on_by v _ = true

-- the process ran this command of this line, and counts it
pub record HasRun (command : Command) (line : ℕ) (a b : ProcessView) : Type 0 where
  pub tried : HasTried a (record b { at = a.at }) command line Took
  pub at : b.at ≡ a.at + 1

-- what this command of this line came to
abbrev pub HasStepped : Command → ℕ → ProcessView → ProcessView → Step → Type 0
HasStepped command line a b Waits = b ≡ a
HasStepped command line a b Took = HasRun command line a b
