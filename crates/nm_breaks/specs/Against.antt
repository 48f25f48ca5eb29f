-- What stands between an event and the one of the other rank that it is held against (MPI 3.1, 3.2.4, 3.5 and 3.8.4).
use Rattle.std.specs.Prelude.{◌≡◌, ℕ, ◌==◌, if◌then◌else◌, Bool, Option, Some, None, List, MatchOption, slice_get}
use Rattle.std.specs.Option.{option_map_or}
use Rattle.nm_types.specs.declared.answers.Answer.{Answer}
use Rattle.nm_types.specs.declared.answers.Answer.TheVariants.{Got}
use Rattle.nm_types.specs.declared.messages.Envelope.{Envelope}
use Rattle.nm_types.specs.declared.messages.How.{How}
use Rattle.nm_types.specs.declared.messages.How.TheVariants as how
use Rattle.nm_types.specs.declared.messages.TagPick.TheVariants as pick
use Rattle.nm_types.specs.declared.scripts.Line.{Line}
use Rattle.nm_types.specs.Commands.{command_at, commands_of}
use Rattle.nm_history.specs.declared.events.Event.{Event}
use Rattle.nm_history.specs.declared.events.Happened.{Happened}
use Rattle.nm_history.specs.declared.events.Happened.TheVariants.{Send, Arrive, Withdraw, Undone, Ran}
use Rattle.nm_history.specs.Quiescence.{Ended, history_of}
use Rattle.nm_history.specs.Sends.{sent_bytes}
use Rattle.nm_check_rank.specs.Objections.{word_after}
use Rattle.nm_check_rank.specs.declared.paired.arguments.Argument.{Argument}
use Rattle.nm_check_rank.specs.declared.paired.arguments.Argument.TheVariants as arg
use Rattle.nm_check_rank.specs.declared.paired.dues.Due.{Due}
use Rattle.nm_check_rank.specs.declared.paired.dues.Due.TheVariants as due
use Rattle.nm_check.specs.Bytes.{IsFirstOtherByte}
use Rattle.nm_check.specs.declared.firsts.Spot.{Spot}
use Rattle.nm_breaks.specs.declared.places.EventLine.{EventLine}

-- an argument that a message was sent with, and another one that it came with
abbrev pub other_argument : Argument → Argument → Option Due
other_argument sent came = Some (due.Argument (record { called = sent; found = came }))

-- a message came in another way than it was sent, or too soon
abbrev pub way_against : How → How → Option Due → Option Due
way_against how.Eager how.Eager soon = soon
way_against how.Ask how.Ask soon = soon
way_against came sent soon = other_argument (arg.Way sent) (arg.Way came)

-- with another tag, context or length
abbrev pub envelope_against : Envelope → ℕ → ℕ → ℕ → How → Option Due → Option Due
envelope_against env tag ctx len its_how soon =
    if env.tag == tag
    then (if env.ctx == ctx
    then (if env.len == len then way_against env.how its_how soon
    else other_argument (arg.Length len) (arg.Length env.len))
    else other_argument (arg.Context ctx) (arg.Context env.ctx))
    else other_argument (arg.Tag (pick.One tag)) (arg.Tag (pick.One env.tag))

-- a recall was answered with another word than its withdrawal had, or too soon
abbrev pub word_against : Bool → Bool → Option Due → Option Due
word_against done withdrawn soon = option_map_or (λ o. Some (due.Against o)) (word_after withdrawn done) soon

-- what stands between two events that are not an answer and a send
abbrev pub event_against : Happened → Happened → Option Due → Option Due
event_against (Arrive a) (Send to n tag ctx len its_how line) soon = envelope_against a.env tag ctx len its_how soon
event_against (Undone to n done) (Withdraw from m its_done) soon = word_against done its_done soon
event_against what other soon = soon

-- between an answer and the send of rank y whose message it shows: the first byte that is another one
abbrev pub IsBodyAgainst : List Line → ℕ → Answer → Happened → Option Due → Type 0
IsBodyAgainst lines y (Got from tag body) (Send to n its_tag ctx len its_how line) found =
    MatchOption (command_at (commands_of y lines) line) (found ≡ None)
    (λ c. IsFirstOtherByte (sent_bytes c) body found)
IsBodyAgainst lines y answer other found = found ≡ None

-- .. between any two, the second of rank y
abbrev pub IsBetween : List Line → ℕ → Happened → Happened → Option Due → Option Due → Type 0
IsBetween lines y (Ran line answer) other soon found = IsBodyAgainst lines y answer other found
IsBetween lines y what other soon found = found ≡ event_against what other soon

-- .. between an event and the one of a place
abbrev pub IsAgainstHeld : List Line → List Ended → Event → Spot → Option Due → Type 0
IsAgainstHeld lines ranks e held found =
    MatchOption (slice_get (history_of ranks held.rank) held.at) (found ≡ None)
    (λ f. IsBetween lines held.rank e.what f.what (Some (due.Stamp f.stamp e.stamp)) found)

-- .. between the events of two places
abbrev pub IsAgainstAt : List Line → List Ended → Spot → Spot → Option Due → Type 0
IsAgainstAt lines ranks spot held found =
    MatchOption (slice_get (history_of ranks spot.rank) spot.at) (found ≡ None)
    (λ e. IsAgainstHeld lines ranks e held found)

-- .. if there is one that it is held against
abbrev pub IsAgainst : List Line → List Ended → EventLine → Option EventLine → Option Due → Type 0
IsAgainst lines ranks event other found =
    MatchOption other (found ≡ None) (λ held. IsAgainstAt lines ranks event.spot held.spot found)
