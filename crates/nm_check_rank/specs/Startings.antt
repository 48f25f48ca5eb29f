-- What is called for at the answer to a start, and at the receive of a claimed message.
use Rattle.std.specs.Prelude.{◌≡◌, ℕ, Bool, true, false, if◌then◌else◌, nat_lt, MatchBool, MatchOption}
use Rattle.std.specs.Prelude.{Option, Some, None, List, [], ◌∷◌, option_map}
use Rattle.std.specs.Option.{option_map_or}
use Rattle.nm_types.specs.declared.messages.How.{How}
use Rattle.nm_types.specs.declared.scripts.Command.{Command}
use Rattle.nm_types.specs.declared.scripts.Command.TheVariants as command
use Rattle.nm_types.specs.Bodies.{body_len}
use Rattle.nm_types.specs.Commands.{Numbered, command_at}
use Rattle.nm_history.specs.declared.events.Event.{Event}
use Rattle.nm_history.specs.declared.events.Happened.{Happened}
use Rattle.nm_history.specs.declared.events.Happened.TheVariants as what
use Rattle.nm_history.specs.Answers.{is_started}
use Rattle.nm_history.specs.RankRun.{lacks_message, start_of, starts_since}
use Rattle.nm_history.specs.Sends.{is_ask}
use Rattle.nm_check_rank.specs.Arguments.{IsFirstMismatch, arguments}
use Rattle.nm_check_rank.specs.Manies.{many_due, many_of}
use Rattle.nm_check_rank.specs.Objections.{match_objection}
use Rattle.nm_check_rank.specs.declared.paired.arguments.Mismatch.{Mismatch}
use Rattle.nm_check_rank.specs.declared.paired.dues.Due.{Due}
use Rattle.nm_check_rank.specs.declared.paired.dues.Due.TheVariants as due
use Rattle.nm_check_rank.specs.declared.paired.manies.Many.TheVariants as many
use Rattle.nm_check_rank.specs.declared.paired.objections.Objection.TheVariants as against

-- whether a send of so many bytes is to ask by the eager limit, and whether it asks
abbrev pub limit_due : ℕ → ℕ → Bool → Bool → Option Due
limit_due limit len true true = None
limit_due limit len false false = None
limit_due limit len called asks = Some (due.Eager limit len asks)

-- a synchronous send is to ask, and a standard one exactly where it is longer than the eager limit
abbrev pub sent_due : ℕ → How → Command → Option Due
sent_due limit how (command.Send to q tag ctx true body) =
    if is_ask how then None else Some (due.Against against.Asking)
sent_due limit how (command.Send to q tag ctx false body) =
    limit_due limit (body_len body) (nat_lt limit (body_len body)) (is_ask how)
sent_due limit how c = None

-- .. if what a command started is a send
abbrev pub one_due : ℕ → Command → Happened → Option Due
one_due limit c (what.Send to n tag ctx len how line) = sent_due limit how c
one_due limit c w = None

-- the first argument that is another one, or else what is called for by how it is sent
abbrev pub mismatch_due : Option Mismatch → Option Due → Option Due
mismatch_due first other = option_map_or (λ m. Some (due.Argument m)) first other

-- one start is called for, and one was found; or another number of them is called for than was found
abbrev pub IsStartsDue : ℕ → Command → List Happened → List Happened → Option Due → Type 0
IsStartsDue limit c (w ∷ []) (v ∷ []) told =
    (first : Option Mismatch) × IsFirstMismatch (arguments w) (arguments v) first
    × (told ≡ mismatch_due first (one_due limit c v))
IsStartsDue limit c called found told = told ≡ many_due (many_of called) (many_of found)

-- the start of a command that was taken: a matched receive has the live message of its handle
abbrev pub IsTakenDue : ℕ → List Numbered → List Event → ℕ → Command → List Happened → Option Due → Type 0
IsTakenDue limit commands before line c found told =
    MatchBool (lacks_message commands before c) (told ≡ Some (due.Against against.NoMessage))
    (IsStartsDue limit c (start_of limit commands before line c) found told)

-- what is called for at the answer to a command: its start, where it was taken, and else none
abbrev pub IsAnswerDue : ℕ → List Numbered → List Event → ℕ → Bool → Option Due → Type 0
IsAnswerDue limit commands before line started told =
    MatchOption (if started then command_at commands line else None)
    (told ≡ many_due many.Nothing (many_of (starts_since before)))
    (λ c. IsTakenDue limit commands before line c (starts_since before) told)

-- .. and at the receive of a claimed message what stands against it
abbrev pub IsStartDue : ℕ → List Numbered → List Event → Happened → Option Due → Type 0
IsStartDue limit commands before (what.Ran line answer) told =
    IsAnswerDue limit commands before line (is_started answer) told
IsStartDue limit commands before w told = told ≡ option_map due.Against (match_objection before w)
