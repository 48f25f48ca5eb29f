-- What a packet that continues its stream makes happen at the rank that takes it.
use Rattle.std.specs.Prelude.{ℕ, ◌==◌, Bool, ◌&&◌, if◌then◌else◌, is_some, List, [], ◌∷◌, ◌++◌}
use Rattle.std.specs.Prelude.{length, map}
use Rattle.std.specs.List.{list_any}
use Rattle.nm_types.specs.declared.messages.How.{How}
use Rattle.nm_types.specs.declared.messages.How.TheVariants as how
use Rattle.nm_types.specs.declared.messages.Arrival.{Arrival}
use Rattle.nm_types.specs.declared.packets.What.{What}
use Rattle.nm_types.specs.declared.packets.What.TheVariants as what
use Rattle.nm_history.specs.declared.events.Event.{Event}
use Rattle.nm_history.specs.declared.events.Happened.{Happened}
use Rattle.nm_history.specs.declared.events.Happened.TheVariants.{Arrive, Whole, Out, Withdraw}
use Rattle.nm_history.specs.declared.events.Happened.TheVariants.{Undone}
use Rattle.nm_history.specs.Sends.{sends}
use Rattle.nm_history.specs.Matching.{matched_pairs, first_receive, is_free_message}
use Rattle.nm_history.specs.Known.{Known, Taken}

-- what happened in these events
abbrev pub happenings : List Event → List Happened
happenings events = map (λ e. e.what) events

-- message n to a rank was sent with an empty body
abbrev pub is_empty_send : List Event → ℕ → ℕ → Bool
is_empty_send h to n = list_any (λ s. s.n == n && s.len == 0) (sends h to)

-- message n of a rank is here where a test says so
abbrev pub whole_if : Bool → ℕ → ℕ → List Happened
whole_if b from n = if b then Whole from n ∷ [] else []

-- the next message of this rank, as a packet announces it
abbrev pub next_arrival : Known → ℕ → ℕ → ℕ → ℕ → How → Arrival
next_arrival known from tag ctx len how =
    record {
      n = known.count;
      env = record { from = from; tag = tag; ctx = ctx; len = len; how = how };
    }

-- What a packet of this rank makes happen first: a message arrives, and one whose last byte came is
-- here; an empty message that was cleared leaves; a message is withdrawn if it is free, or it is
-- too late; a recall has its answer.
abbrev pub packet_makes : Known → List Event → ℕ → What → ℕ → List Happened
packet_makes known h from (what.Head tag ctx len) size =
    Arrive (next_arrival known from tag ctx len how.Eager) ∷ whole_if (len == size) from known.count
packet_makes known h from (what.More n) size = whole_if (known.missing == size) from n
packet_makes known h from (what.Ask tag ctx len) size =
    Arrive (next_arrival known from tag ctx len how.Ask) ∷ []
packet_makes known h from (what.Clear n) size =
    if is_empty_send h from n then Out from n ∷ [] else []
packet_makes known h from (what.Withdraw n) size =
    Withdraw from n (is_free_message h (matched_pairs h) from n) ∷ []
packet_makes known h from (what.Withdrawn n done) size = Undone from n done ∷ []

-- what follows at once: an empty message that was asked for and that a posted receive takes is here
abbrev pub ask_ends : Known → List Event → ℕ → What → List Happened
ask_ends known h from (what.Ask tag ctx len) =
    let a : Arrival = next_arrival known from tag ctx len how.Ask in
    whole_if (len == 0 && is_some (first_receive h (matched_pairs h) a.env)) from known.count
ask_ends known h from _ = []

-- all that a packet of this rank makes happen, where it continues its stream
abbrev pub packet_events : Known → List Event → ℕ → What → ℕ → List Happened
packet_events known h from what size =
    packet_makes known h from what size ++ ask_ends known h from what

-- what a packet that was taken makes happen: a stray makes nothing happen
abbrev pub taken_events : Known → List Event → Taken → List Happened
taken_events known h t =
    if t.continued
    then packet_events known h t.packet.from t.packet.what (length t.packet.payload)
    else []
