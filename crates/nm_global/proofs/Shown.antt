-- What a log of one moment more shows.
use Rattle.std.proofs.Common.{◌≡◌, ℕ, cond, Option, None, List, [], ◌∷◌, ◌++◌, sym, ◌∙◌, ap, append-nil}
use Rattle.std.specs.List.{cons_option}
use Rattle.std.proofs.lemmas.List.Elements.{filter_map-append}
use Rattle.nm_types.specs.declared.messages.Arrival.{Arrival}
use Rattle.nm_history.specs.declared.events.Event.{Event}
use Rattle.nm_history.specs.Sends.{is_ask}
use Rattle.nm_history.specs.Bytes.{eager_bytes, piece_bytes}
use Rattle.nm_history.specs.Known.{Taken, nothing_known}
use Rattle.nm_history.specs.Pieces.{Pulled}
use Rattle.nm_history.proofs.Growing.{fold-append}
use Rattle.nm_channels.specs.Moments.{LogEntry, clock_after, clock_of, history_of, pulled_from, pulled_of}
use Rattle.nm_channels.specs.Moments.{taken_from, taken_of}
use Rattle.nm_channels.proofs.Delivering.{history-push}
use Rattle.nm_global.specs.Logged.{came_by}
use Rattle.nm_channels.proofs.Pulling.{pulled-push}

pub taken-push : (i : ℕ) (log : List LogEntry) (m : LogEntry) →
    taken_from i (log ++ m ∷ []) ≡ taken_from i log ++ cons_option (taken_of i m.cause) []
taken-push i log m = filter_map-append (λ (m : LogEntry). taken_of i m.cause) log (m ∷ [])

-- a moment that takes no packet of a rank
pub taken_still : (i : ℕ) (log : List LogEntry) (m : LogEntry) → taken_of i m.cause ≡ None →
    taken_from i (log ++ m ∷ []) ≡ taken_from i log
taken_still i log m none =
    taken-push i log m
    ∙ ap (λ (o : Option Taken). taken_from i log ++ cons_option o []) none
    ∙ append-nil (taken_from i log)

-- a moment that takes no piece of a rank
pub pulled_still : (i : ℕ) (log : List LogEntry) (m : LogEntry) → pulled_of i m.cause ≡ None →
    pulled_from i (log ++ m ∷ []) ≡ pulled_from i log
pulled_still i log m none =
    pulled-push i log m
    ∙ ap (λ (o : Option Pulled). pulled_from i log ++ cons_option o []) none
    ∙ append-nil (pulled_from i log)

-- a moment that takes nothing of a rank brings its messages no bytes
pub came_still : (log : List LogEntry) (m : LogEntry) (a : Arrival) →
    taken_of a.env.from m.cause ≡ None → pulled_of a.env.from m.cause ≡ None →
    came_by (log ++ m ∷ []) a ≡ came_by log a
came_still log m a no_packet no_piece =
    ap (λ (ts : List Taken). cond (is_ask a.env.how)
    (piece_bytes a.n (pulled_from a.env.from (log ++ m ∷ []))) (eager_bytes a.n nothing_known ts))
    (taken_still a.env.from log m no_packet)
    ∙ ap (λ (ds : List Pulled). cond (is_ask a.env.how)
    (piece_bytes a.n ds) (eager_bytes a.n nothing_known (taken_from a.env.from log)))
    (pulled_still a.env.from log m no_piece)

pub history_next : (log : List LogEntry) (m : LogEntry) (h h' : List Event) → h ≡ history_of log →
    h' ≡ h ++ m.events → h' ≡ history_of (log ++ m ∷ [])
history_next log m h h' same grown =
    grown ∙ ap (λ (k : List Event). k ++ m.events) same ∙ sym (history-push log m)

pub clock_next : (log : List LogEntry) (m : LogEntry) (clock clock' : ℕ) → clock ≡ clock_of log →
    clock' ≡ clock_after clock m → clock' ≡ clock_of (log ++ m ∷ [])
clock_next log m clock clock' same grown =
    grown ∙ ap (λ (k : ℕ). clock_after k m) same ∙ sym (fold-append clock_after 0 log (m ∷ []))
