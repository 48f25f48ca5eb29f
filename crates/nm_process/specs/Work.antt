-- A process at work on commands, whatever gives them.
use Rattle.std.specs.Prelude.{◌≡◌, ℕ, ◌≤◌, Bool, true, nat_lt, Some, List, slice_get}
use Rattle.std.specs.List.{list_all}
use Rattle.nm_types.specs.declared.scripts.Command.{Command}
use Rattle.nm_types.specs.Commands.{Numbered, command_at}
use Rattle.nm_types.specs.Sizes.{Sizes}
use Rattle.nm_history.specs.declared.events.Event.{Event}
use Rattle.nm_history.specs.declared.events.Happened.{Happened}
use Rattle.nm_history.specs.declared.events.Happened.TheVariants.{Send, Post, Claim, Match, Ran}
use Rattle.nm_history.specs.Answers.{live, live_message}
use Rattle.nm_history.specs.RankRun.{Answers, Cancels, Claims, Starts}
use Rattle.nm_process.specs.Names.{handled, named}
use Rattle.nm_process.specs.Processes.{ProcessView}

-- the line of a start, of a claim or of an answer, 0 for other events
abbrev pub line_of : Happened → ℕ
line_of (Send to n tag ctx len how line) = line
line_of (Post p line) = line
line_of (Match number from n cap line) = line
line_of (Claim from n line) = line
line_of (Ran line x) = line
line_of _ = 0

-- all that commands did stands on lines below this one
abbrev pub are_below : ℕ → List Event → Bool
are_below line h = list_all (λ e. nat_lt (line_of e.what) line) h

-- The history is that of a rank that ran the first of these commands, `at` in number, and no event is of
-- the line `bound` or a later one. Each name stands for its live request, and each handle for its live
-- message.
pub record IsWorking (shape : Sizes) (commands : List Numbered) (bound : ℕ) (v : ProcessView) : Type 0 where
  pub sizes : v.rank.sizes ≡ shape
  pub answers : Answers commands v.at v.rank.events
  pub starts : Starts shape.eager commands v.rank.events
  pub cancels : Cancels commands v.rank.events
  pub claims : Claims commands v.rank.events
  pub past : are_below bound v.rank.events ≡ true
  pub requests : (q : ℕ) → named v q ≡ live commands v.rank.events q
  pub handles : (m : ℕ) → handled v m ≡ live_message commands v.rank.events m

-- the command after the first `at` is this one, at this line, which is not before the bound
pub record IsNext (commands : List Numbered) (at bound line : ℕ) (x : Command) : Type 0 where
  pub next : slice_get commands at ≡ Some (record { line = line; command = x })
  pub found : command_at commands line ≡ Some x
  pub past : bound ≤ line
