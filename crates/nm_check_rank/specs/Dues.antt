-- What is called for where a rank breaks a rule of its own run.
use Rattle.std.specs.Prelude.{◌≡◌, ◌≢◌, ℕ, if◌then◌else◌, nat_lt, Option, Some, None, IsSomeAnd}
use Rattle.std.specs.Prelude.{List, length, map, option_and_then, option_map, slice_get}
use Rattle.nm_types.specs.declared.answers.Answer.{Answer}
use Rattle.nm_types.specs.Commands.{Numbered, command_at}
use Rattle.nm_types.specs.Sizes.{Sizes}
use Rattle.nm_history.specs.declared.events.Event.{Event}
use Rattle.nm_history.specs.declared.events.Happened.{Happened}
use Rattle.nm_history.specs.declared.events.Happened.TheVariants as what
use Rattle.nm_history.specs.Answers.{answer_of, without_bytes}
use Rattle.nm_history.specs.RankRun.{last_stamp, ran_lines}
use Rattle.nm_history.specs.Sends.{arrivals, receives, sends}
use Rattle.nm_check_rank.specs.Cancellings.{cancel_due}
use Rattle.nm_check_rank.specs.Claimings.{claim_due}
use Rattle.nm_check_rank.specs.Objections.{end_objection, whole_objection}
use Rattle.nm_check_rank.specs.Startings.{IsStartDue}
use Rattle.nm_check_rank.specs.Told.{untold}
use Rattle.nm_check_rank.specs.declared.clauses.OwnClause.{OwnClause}
use Rattle.nm_check_rank.specs.declared.clauses.OwnClause.TheVariants as own
use Rattle.nm_check_rank.specs.declared.paired.dues.Due.{Due}
use Rattle.nm_check_rank.specs.declared.paired.dues.Due.TheVariants as due

-- the line of a rank's next command after these events, if one is left
abbrev pub next_line : List Numbered → List Event → Option ℕ
next_line commands before = slice_get (map (λ c. c.line) commands) (length (ran_lines before))

-- The answer to the command of a line is out of turn: another one is the next, or none is left. Or it is of the
-- next command, which has this answer by the events before, or can't go on, and this one was given.
abbrev pub IsDue : List Numbered → List Event → ℕ → Answer → Due → Type 0
IsDue commands before line answer (due.Command next) =
    (next ≡ next_line commands before) × (next ≢ Some line)
IsDue commands before line answer (due.Answer called found) =
    (next_line commands before ≡ Some line)
    × (option_map untold called
    ≡ option_and_then (λ c. answer_of commands before line c) (command_at commands line))
    × (untold found ≡ without_bytes answer)
IsDue commands before line answer other = ⊥

-- what is called for at what happened, if it is an answer
abbrev pub IsDueAt : List Numbered → List Event → Happened → Option Due → Type 0
IsDueAt commands before (what.Ran line answer) called = IsSomeAnd called (IsDue commands before line answer)
IsDueAt commands before w called = called ≡ None

-- the number of a send, a receive or an arrival
abbrev pub number_of : Happened → Option ℕ
number_of (what.Send to n tag ctx len how line) = Some n
number_of (what.Post p line) = Some p.number
number_of (what.Match number from n cap line) = Some number
number_of (what.Arrive a) = Some a.n
number_of w = None

-- .. and the next one after these events
abbrev pub next_number : List Event → Happened → Option ℕ
next_number before (what.Send to n tag ctx len how line) = Some (length (sends before to))
next_number before (what.Post p line) = Some (length (receives before))
next_number before (what.Match number from n cap line) = Some (length (receives before))
next_number before (what.Arrive a) = Some (length (arrivals before a.env.from))
next_number before w = None

-- the sender of an arrival that is none of so many ranks
abbrev pub stranger : ℕ → Happened → Option ℕ
stranger ranks (what.Arrive a) = if nat_lt a.env.from ranks then None else Some a.env.from
stranger ranks w = None

-- the next number, and the one that there is
abbrev pub numbers_due : Option ℕ → Option ℕ → Option Due
numbers_due called found = option_and_then (λ c. option_map (λ f. due.Number c f) found) called

-- an arrival is to be of one of the ranks, and a send, a receive or an arrival to have the next number
abbrev pub number_due : ℕ → Option ℕ → Option Due → Option Due
number_due ranks (Some found) numbers = Some (due.Rank ranks found)
number_due ranks None numbers = numbers

-- what a rule of a rank's run calls for at an event
abbrev pub IsOwnDue : Sizes → List Numbered → OwnClause → List Event → Event → Option Due → Type 0
IsOwnDue shape commands own.Answers before e called = IsDueAt commands before e.what called
IsOwnDue shape commands own.Stamps before e called = called ≡ Some (due.Stamp (last_stamp before) e.stamp)
IsOwnDue shape commands own.Numbers before e called =
    called ≡ number_due shape.ranks (stranger shape.ranks e.what)
    (numbers_due (next_number before e.what) (number_of e.what))
IsOwnDue shape commands own.Wholes before e called = called ≡ option_map due.Against (whole_objection before e.what)
IsOwnDue shape commands own.Ends before e called = called ≡ option_map due.Against (end_objection before e.what)
IsOwnDue shape commands own.Cancels before e called = called ≡ cancel_due commands before e.what
IsOwnDue shape commands own.Starts before e called = IsStartDue shape.eager commands before e.what called
IsOwnDue shape commands own.Claims before e called = called ≡ claim_due commands before e.what
