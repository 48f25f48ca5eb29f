-- What the calls of a rank ensure, as far as its log is concerned.
use Rattle.std.specs.Prelude.{◌≡◌, ℕ, ◌<◌, IfSome, List, ◌∷◌, length, option_and_then}
use Rattle.nm_types.specs.declared.answers.Answer.{Answer}
use Rattle.nm_types.specs.declared.answers.Answer.TheVariants.{Got}
use Rattle.nm_types.specs.Commands.{Numbered, command_at}
use Rattle.nm_history.specs.declared.events.Event.{Event}
use Rattle.nm_history.specs.Delivery.{asked_pair, pair_of_request}
use Rattle.nm_history.specs.Sends.{receives}
use Rattle.nm_request.specs.declared.Kind.{Kind}
use Rattle.nm_request.specs.declared.Kind.TheVariants as kind
use Rattle.nm_channels.specs.Moments.{LogEntry}
use Rattle.nm_channels.specs.Sound.{bytes_of_message}
use Rattle.nm_rank.specs.Ranks.{request_of}

-- a started receive has the next number, and its start is in the longer history
abbrev pub IsNextReceive : List Event → List Event → Kind → Type 0
IsNextReceive old new (kind.Send to n) = Unit {0}
IsNextReceive old new (kind.Receive number) =
    (number ≡ length (receives old)) × (number < length (receives new))

-- the receives whose results were given, after one more result
abbrev pub given_after : Kind → List ℕ → List ℕ
given_after (kind.Send to n) given = given
given_after (kind.Receive number) given = number ∷ given

-- an answer that shows bytes shows those of the message that the receive took, by the log
abbrev pub ShowsLogged : List LogEntry → List Event → Kind → Answer → Type 0
ShowsLogged log h k (Got from tag body) =
    IfSome (pair_of_request h (request_of k))
    (λ pair. body ≡ bytes_of_message log pair.arrival.env.from pair.arrival.n)
ShowsLogged log h k _ = Unit {0}

-- the answer of a line that shows bytes shows those of the message that a wait or a test is of, by
-- the log
abbrev pub AnswersLogged : List Numbered → List LogEntry → List Event → ℕ → Answer → Type 0
AnswersLogged commands log h line (Got source tag body) =
    IfSome (option_and_then (asked_pair commands h) (command_at commands line))
    (λ pair. body ≡ bytes_of_message log pair.arrival.env.from pair.arrival.n)
AnswersLogged commands log h line _ = Unit {0}
