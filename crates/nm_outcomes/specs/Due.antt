-- What a rank does is what its next command calls for.
use Rattle.std.specs.Prelude.{◌≡◌, ℕ, Some, List, [], ◌∷◌, length}
use Rattle.std.specs.List.{slice_get}
use Rattle.nm_types.specs.declared.scripts.Command.{Command}
use Rattle.nm_types.specs.Commands.{Numbered, command_at}
use Rattle.nm_types.specs.Sizes.{Sizes}
use Rattle.nm_history.specs.declared.events.Event.{Event}
use Rattle.nm_history.specs.declared.events.Happened.{Happened}
use Rattle.nm_history.specs.declared.events.Happened.TheVariants.{Cancel, Claim, Match, Post, Ran}
use Rattle.nm_history.specs.declared.events.Happened.TheVariants.{Recall, Send}
use Rattle.nm_history.specs.Answers.{live, live_message}
use Rattle.nm_history.specs.Completion.{Request}
use Rattle.nm_history.specs.Completion.Request.{Receiving, Sending}
use Rattle.nm_types.specs.declared.scripts.Command.TheVariants as command
use Rattle.nm_history.specs.AtEach.{AtEach}
use Rattle.nm_history.specs.RankRun.{IsRankRun, cancels_since, claims_since, ran_lines, start_of, starts_since}
use Rattle.nm_history.specs.RankRun.{without_number}

-- the commands stand at their lines
abbrev pub AreAtLines : List Numbered → Type 0
AreAtLines commands =
    (k : ℕ) (c : Numbered) → slice_get commands k ≡ Some c → command_at commands c.line ≡ Some c.command

-- the rank's next command
abbrev pub IsNextCommand : List Numbered → List Event → Numbered → Type 0
IsNextCommand commands before c = slice_get commands (length (ran_lines before)) ≡ Some c

-- a send or a receive is the start of the next command, and its first
pub record IsStartOf (eager : ℕ) (commands : List Numbered) (before : List Event) (what : Happened) : Type 0 where
  pub command : Numbered
  pub next : IsNextCommand commands before command
  pub first : starts_since before ≡ []
  pub start : without_number what ∷ [] ≡ start_of eager commands before command.line command.command

-- an answer is that of the next command
pub record IsAnswerOf (commands : List Numbered) (before : List Event) (line : ℕ) : Type 0 where
  pub command : Numbered
  pub next : IsNextCommand commands before command
  pub line_is : command.line ≡ line

-- the command that cancels the request of a name
abbrev pub cancel_of : ℕ → Command
cancel_of name = command.Cancel name

-- the command that receives the message of a handle
abbrev pub receive_of : ℕ → ℕ → ℕ → Command
receive_of name handle cap = command.Mrecv name handle cap

-- a cancel or a recall is of the live request of the next command, which cancels
pub record IsCancelOf (commands : List Numbered) (before : List Event) (request : Request) : Type 0 where
  pub command : Numbered
  pub next : IsNextCommand commands before command
  pub name : ℕ
  pub cancels : command.command ≡ cancel_of name
  pub live_is : live commands before name ≡ Some request

-- a receive of a claimed message is that of the next command, of the message of its handle
pub record IsMatchOf (commands : List Numbered) (before : List Event) (from n cap line : ℕ) : Type 0 where
  pub command : Numbered
  pub next : IsNextCommand commands before command
  pub line_is : command.line ≡ line
  pub name : ℕ
  pub handle : ℕ
  pub receives : command.command ≡ receive_of name handle cap
  pub message_is : live_message commands before handle ≡ Some (record { from = from; n = n })

-- What happens is what the next command calls for, if it comes of a command. The cancel of a receive and
-- a claim are the first of their command.
abbrev pub IsDue : ℕ → List Numbered → List Event → Happened → Type 0
IsDue eager commands before (Send to n tag ctx len how line) =
    IsStartOf eager commands before (Send to n tag ctx len how line)
IsDue eager commands before (Post p line) = IsStartOf eager commands before (Post p line)
IsDue eager commands before (Match number from n cap line) = IsMatchOf commands before from n cap line
IsDue eager commands before (Cancel number done) =
    IsCancelOf commands before (Receiving number) × (cancels_since before ≡ [])
IsDue eager commands before (Recall to n) = IsCancelOf commands before (Sending to n)
IsDue eager commands before (Claim from n line) =
    IsAnswerOf commands before line × (claims_since before ≡ [])
IsDue eager commands before (Ran line answer) = IsAnswerOf commands before line
IsDue eager commands before _ = Unit {0}

-- so it is at each event of a rank's run
abbrev pub EventsAreDue : Type 0
EventsAreDue =
    (shape : Sizes) (commands : List Numbered) (at : ℕ) (h : List Event) → AreAtLines commands →
    IsRankRun shape commands at h → AtEach (λ before e. IsDue shape.eager commands before e.what) h
