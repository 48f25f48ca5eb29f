-- Which messages a rank may push in pieces: those that their receiver cleared, in that order.
use Rattle.std.specs.Prelude.{ℕ, ◌==◌, ◌&&◌, not, if◌then◌else◌, Option, Some, None, List, filter}
use Rattle.std.specs.Prelude.{filter_map}
use Rattle.nm_history.specs.declared.events.Event.{Event}
use Rattle.nm_history.specs.declared.events.Happened.{Happened}
use Rattle.nm_history.specs.declared.events.Happened.TheVariants.{Out}
use Rattle.nm_history.specs.Sends.{sends}
use Rattle.nm_history.specs.Delivery.{is_asked}
use Rattle.nm_history.specs.Known.{Known}
use Rattle.nm_history.specs.Effects.{is_empty_send}

-- the messages to a rank that it cleared and that have a body, in the order of the clearances
abbrev pub to_push : List Event → Known → ℕ → List ℕ
to_push h known to = filter (λ n. not (is_empty_send h to n)) known.cleared

-- the message to a rank, sent by asking and with a body, that leaves at an event
abbrev pub left_of : List Event → ℕ → Happened → Option ℕ
left_of h to (Out to' n) =
    if to' == to && is_asked (sends h to) n && not (is_empty_send h to n) then Some n else None
left_of h to _ = None

-- the messages to a rank, sent by asking and with a body, that have left, in that order
abbrev pub pushed_out : List Event → ℕ → List ℕ
pushed_out h to = filter_map (λ e. left_of h to e.what) h
