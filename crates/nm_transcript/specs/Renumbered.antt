-- Events by other numbers of lines.
use Rattle.std.specs.Prelude.{◌≡◌, ℕ, ◌+◌, ◌-◌, ◌<◌, ◌≤◌, ◌==◌, IfSome, Option, Some, None, List, [], ◌∷◌, get_or, map}
use Rattle.std.specs.Prelude.{option_map}
use Rattle.std.specs.List.{AllByRecursion}
use Rattle.nm_types.specs.Commands.{Numbered}
use Rattle.nm_history.specs.declared.events.Event.{Event}
use Rattle.nm_history.specs.declared.events.Happened.{Happened}
use Rattle.nm_history.specs.declared.events.Happened.TheVariants.{Send, Post, Claim, Match, Ran}
use Rattle.nm_history.specs.Quiescence.{Ended}

-- the line of the command of an event, if it has one
abbrev pub line_of : Happened → Option ℕ
line_of (Send to n tag ctx len how line) = Some line
line_of (Post p line) = Some line
line_of (Claim from n line) = Some line
line_of (Match number from n cap line) = Some line
line_of (Ran line answer) = Some line
line_of _ = None

-- what happened, by another number of its line
abbrev pub renumbered : (ℕ → ℕ) → Happened → Happened
renumbered f (Send to n tag ctx len how line) = Send to n tag ctx len how (f line)
renumbered f (Post p line) = Post p (f line)
renumbered f (Claim from n line) = Claim from n (f line)
renumbered f (Match number from n cap line) = Match number from n cap (f line)
renumbered f (Ran line answer) = Ran (f line) answer
renumbered f what = what

abbrev pub renumbered_event : (ℕ → ℕ) → Event → Event
renumbered_event f e = record { stamp = e.stamp; what = renumbered f e.what }

-- a history, by other numbers of lines
abbrev pub renumbered_all : (ℕ → ℕ) → List Event → List Event
renumbered_all f h = map (renumbered_event f) h

-- the end of a rank, by other numbers of lines
abbrev pub renumbered_end : (ℕ → ℕ) → Ended → Ended
renumbered_end f rank =
    record { at = rank.at; waits = option_map f rank.waits; events = renumbered_all f rank.events }

-- the ends of the ranks from k on, each by its own numbers
abbrev pub renumbered_ends : (ℕ → ℕ → ℕ) → ℕ → List Ended → List Ended
renumbered_ends f k [] = []
renumbered_ends f k (rank ∷ ranks) = renumbered_end (f k) rank ∷ renumbered_ends f (k + 1) ranks

-- a command, by another number of its line
abbrev pub renumbered_command : (ℕ → ℕ) → Numbered → Numbered
renumbered_command f c = record { line = f c.line; command = c.command }

-- different lines stay different
abbrev pub KeepsApart : (ℕ → ℕ) → Type 0
KeepsApart f = (a b : ℕ) → (f a == f b) ≡ (a == b)

-- the line is that of one of n commands, of which the k-th one, from 0, has line k + 2
abbrev pub IsOneOf : ℕ → ℕ → Type 0
IsOneOf n line = (2 ≤ line) × (line < n + 2)

-- so are the lines of all events
abbrev pub AreOf : ℕ → List Event → Type 0
AreOf n h = AllByRecursion (λ e. IfSome (line_of e.what) (IsOneOf n)) h

-- the number that such a line gets, where these are the numbers of the commands
abbrev pub number_in : List ℕ → ℕ → ℕ
number_in numbers line = get_or numbers (line - 2) 0
