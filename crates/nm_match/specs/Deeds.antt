-- The deeds of a matcher, and the history that they stand for.
use Rattle.std.specs.Prelude.{◌≡◌, ℕ, Bool, true, false, not, ◌==◌, ◌&&◌, if◌then◌else◌}
use Rattle.std.specs.Prelude.{List, [], ◌∷◌, ◌++◌, map, fold}
use Rattle.std.specs.List.{list_any}
use Rattle.nm_types.specs.declared.messages.Arrival.{Arrival}
use Rattle.nm_history.specs.declared.events.Event.{Event}
use Rattle.nm_history.specs.declared.events.Happened.{Happened}
use Rattle.nm_history.specs.declared.events.Happened.TheVariants as event
use Rattle.nm_history.specs.Happens.{happened, is_cancel}
use Rattle.nm_history.specs.Sends.{messages, receives}
use Rattle.nm_match.specs.declared.deeds.Deed.{Deed}
use Rattle.nm_match.specs.declared.deeds.Deed.TheVariants.{Post, Arrive, Cancel, Withdraw, Claim}
use Rattle.nm_match.specs.declared.deeds.Deed.TheVariants.{Match}

-- A deed as it happens. The line of its command and the capacity of a matched receive play no part
-- in matching, and are 0.
abbrev pub happened_by : Deed → Happened
happened_by (Post p) = event.Post p 0
happened_by (Arrive a) = event.Arrive a
happened_by (Cancel number) = event.Cancel number true
happened_by (Withdraw from n) = event.Withdraw from n true
happened_by (Claim from n) = event.Claim from n 0
happened_by (Match number from n) = event.Match number from n 0 0

-- a deed as an event; its stamp plays no part either
abbrev pub event_of : Deed → Event
event_of d = record { stamp = 0; what = happened_by d }

-- the history that these deeds stand for
unfoldable pub history_of : List Deed → List Event
history_of deeds = map event_of deeds

-- a receive of this number is in a history, posted or of a claimed message
unfoldable pub is_known_receive : List Event → ℕ → Bool
is_known_receive h number = list_any (λ m. m == number) (receives h)

-- this is message n of this rank
abbrev pub is_message : ℕ → ℕ → Arrival → Bool
is_message from n a = a.env.from == from && a.n == n

-- message n of this rank is in a history
unfoldable pub is_known_message : List Event → ℕ → ℕ → Bool
is_known_message h from n = list_any (is_message from n) (messages h)

-- the deed is a receive of this number
abbrev pub is_deed_of_receive : ℕ → Deed → Bool
is_deed_of_receive number (Post p) = p.number == number
is_deed_of_receive number (Match m from n) = m == number
is_deed_of_receive number _ = false

-- the deed is the arrival of message n of this rank
abbrev pub is_deed_of_message : ℕ → ℕ → Deed → Bool
is_deed_of_message from n (Arrive a) = is_message from n a
is_deed_of_message from n _ = false

-- The deeds after an event more of a history. Events that take no part in matching, late cancels
-- and late withdrawals are no deeds, and of the cancels of one receive the first alone is.
abbrev pub deeds_after : List Deed → Happened → List Deed
deeds_after deeds (event.Post p line) = deeds ++ Post p ∷ []
deeds_after deeds (event.Arrive a) = deeds ++ Arrive a ∷ []
deeds_after deeds (event.Cancel number done) =
    if done && not (happened (is_cancel number) (history_of deeds))
    then deeds ++ Cancel number ∷ []
    else deeds
deeds_after deeds (event.Withdraw from n done) =
    if done then deeds ++ Withdraw from n ∷ [] else deeds
deeds_after deeds (event.Claim from n line) = deeds ++ Claim from n ∷ []
deeds_after deeds (event.Match number from n cap line) = deeds ++ Match number from n ∷ []
deeds_after deeds _ = deeds

-- the deeds of a history, whatever its stamps, its lines and its capacities of matched receives
unfoldable pub deeds_of : List Event → List Deed
deeds_of h = fold (λ deeds e. deeds_after deeds e.what) [] h

-- this history stands for these deeds
abbrev pub Represents : List Deed → List Event → Type 0
Represents deeds h = deeds ≡ deeds_of h
