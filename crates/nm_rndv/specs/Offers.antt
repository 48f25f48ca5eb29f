-- Messages that their sender has to ask for before it sends them, and recalls of messages.
-- MPI 3.1, 3.4 (standard and synchronous mode) and 3.8.4 (cancel of a send).
use Rattle.std.specs.Prelude.{◌≡◌, ℕ, Bool, true, false, nat_eq}
use Rattle.std.specs.Prelude.{if◌then◌else◌, List, [], ◌∷◌, ◌++◌, find, slice_index_or, slice_set}
use Rattle.std.specs.Prelude.{Option, Some, None, replicate}
use Rattle.std.specs.Bool.{then_some}
use Rattle.std.specs.Option.{option_map, option_map_or, option_and_then}
use Rattle.std.specs.Map.{lookup, set_value}
use Rattle.nm_types.specs.Bodies.{body_len}
use Rattle.nm_types.specs.declared.packets.Piece.{Piece}
use Rattle.nm_types.specs.declared.scripts.Body.{Body}
use Rattle.nm_rndv.specs.Cuts.{Cut, start_of, rest_of, offset_of, next_bytes}
use Rattle.nm_rndv.specs.declared.asked.State.{State}
use Rattle.nm_rndv.specs.declared.asked.State.TheVariants.{Asked, Cleared, Out, Withdrawn}

-- what was asked of one destination, and what was recalled from it, with the answer: each by its
-- message's number, in order
pub record Destined : Type 0 where
  pub asked : List (ℕ × State)
  pub recalls : List (ℕ × Option Bool)

-- all destinations; and destination and number of each message that was cleared, in the order of
-- clearance
pub record Offering : Type 0 where
  pub destinations : List Destined
  pub order : List (ℕ × ℕ)

-- nothing asked, and nothing recalled
abbrev pub untold : Destined
untold = record { asked = []; recalls = [] }

-- nothing asked of so many destinations
abbrev pub no_offers : ℕ → Offering
no_offers ranks = record { destinations = replicate ranks untold; order = [] }

-- waits for its clearance
abbrev pub is_waiting : State → Bool
is_waiting (Asked body) = true
is_waiting _ = false

-- was cleared, and pieces of it are still to be sent
abbrev pub is_leaving : State → Bool
is_leaving (Cleared cut) = true
is_leaving _ = false

-- has left whole
abbrev pub is_out : State → Bool
is_out Out = true
is_out _ = false

-- waits or leaves, so that its body is kept
abbrev pub has_body : State → Bool
has_body (Asked body) = true
has_body (Cleared cut) = true
has_body _ = false

-- was cleared, whether or not it is out
abbrev pub was_cleared : State → Bool
was_cleared (Cleared cut) = true
was_cleared Out = true
was_cleared _ = false

-- pieces that are left to send, or none
abbrev pub leaving_or_out : Option Cut → State
leaving_or_out None = Out
leaving_or_out (Some cut) = Cleared cut

-- an asked message after its clearance
abbrev pub after_clearance : State → State
after_clearance (Asked body) = leaving_or_out (start_of body)
after_clearance state = state

-- a message after one more of its pieces was sent
abbrev pub after_piece : State → State
after_piece (Cleared cut) = leaving_or_out (rest_of cut)
after_piece state = state

-- a message after its withdrawal was done
abbrev pub after_withdrawal : State → State
after_withdrawal (Asked body) = Withdrawn
after_withdrawal state = state

-- how many bytes an asked message has
abbrev pub len_of : State → ℕ
len_of (Asked body) = body_len body
len_of _ = 0

-- offset and bytes of the next piece of a message
abbrev pub next_in : State → Option (ℕ × List ℕ)
next_in (Cleared cut) = Some (offset_of cut, next_bytes cut)
next_in _ = None

-- the state of message n
abbrev pub state_in : Destined → ℕ → Option State
state_in d n = lookup (nat_eq n) d.asked

-- the message's state is changed by a step
abbrev pub with_step : Destined → ℕ → (State → State) → Destined
with_step d n step = record {
  asked = option_map_or (λ s. set_value (nat_eq n) d.asked (step s)) (state_in d n) d.asked;
  recalls = d.recalls;
}

-- the messages after the withdrawal of message n was done
abbrev pub withdrawn_in : List (ℕ × State) → ℕ → List (ℕ × State)
withdrawn_in asked n =
    option_map_or (λ s. set_value (nat_eq n) asked (after_withdrawal s)) (lookup (nat_eq n) asked) asked

-- one message more was asked
abbrev pub with_asked : Destined → ℕ → Body → Destined
with_asked d n body = record { asked = d.asked ++ (n, Asked body) ∷ []; recalls = d.recalls }

-- one message more was recalled
abbrev pub with_recall : Destined → ℕ → Destined
with_recall d n = record { asked = d.asked; recalls = d.recalls ++ (n, None) ∷ [] }

-- the recall of message n, with its answer if there is one
abbrev pub recall_in : Destined → ℕ → Option (Option Bool)
recall_in d n = lookup (nat_eq n) d.recalls

-- the recall was answered, and where it was done the message is withdrawn
abbrev pub with_answer : Destined → ℕ → Bool → Destined
with_answer d n done = record {
  asked = (if done then (with_step d n after_withdrawal).asked else d.asked);
  recalls = set_value (nat_eq n) d.recalls (Some done);
}

-- recalled and not answered
abbrev pub is_unanswered : Option Bool → Bool
is_unanswered None = true
is_unanswered (Some done) = false

-- one destination among all
abbrev pub destined : Offering → ℕ → Destined
destined v to = slice_index_or v.destinations to untold

-- one destination is replaced
abbrev pub with_destined : Offering → ℕ → Destined → Offering
with_destined v to d =
    record { destinations = slice_set v.destinations to d; order = v.order }

-- the state of message n to a destination
abbrev pub state_of : Offering → ℕ → ℕ → Option State
state_of v to n = state_in (destined v to) n

-- the same of a message that is named by destination and number
abbrev pub state_at : List Destined → ℕ × ℕ → Option State
state_at ds m = state_in (slice_index_or ds m.0 untold) m.1

-- the message was cleared and is not out
abbrev pub leaves : List Destined → ℕ × ℕ → Bool
leaves ds m = option_map_or is_leaving (state_at ds m) false

-- the message was cleared, whether or not it is out
abbrev pub cleared_at : List Destined → ℕ × ℕ → Bool
cleared_at ds m = option_map_or was_cleared (state_at ds m) false

-- message n was asked, was not cleared, and was not withdrawn
abbrev pub is_asked : Offering → ℕ → ℕ → Bool
is_asked v to n = option_map_or is_waiting (state_of v to n) false

-- how many bytes it has
abbrev pub asked_len : Offering → ℕ → ℕ → ℕ
asked_len v to n = option_map_or len_of (state_of v to n) 0

-- message n was recalled, and the recall was not answered
abbrev pub is_recalled : Offering → ℕ → ℕ → Bool
is_recalled v to n = option_map_or is_unanswered (recall_in (destined v to) n) false

-- every cleared message is out
abbrev pub AllOut : Offering → Type 0
AllOut v = (to n : ℕ) → leaves v.destinations (to, n) ≡ false

-- the first message in the order of clearance that is not out
abbrev pub first_leaving : Offering → Option (ℕ × ℕ)
first_leaving v = find (leaves v.destinations) v.order

-- a piece that is to be sent: its destination, its message, its offset and its bytes
pub record Offered : Type 0 where
  pub to : ℕ
  pub n : ℕ
  pub at : ℕ
  pub bytes : List ℕ

-- the next piece of a message
abbrev pub offered_of : List Destined → ℕ × ℕ → Option Offered
offered_of ds m =
    option_map (λ next. record { to = m.0; n = m.1; at = next.0; bytes = next.1 })
    (option_and_then next_in (state_at ds m))

-- the next piece in the order of clearance
abbrev pub next_offered : Offering → Option Offered
next_offered v = option_and_then (offered_of v.destinations) (first_leaving v)

-- what a piece for a destination is, but for its sender and its place in the ring
abbrev pub offered : ℕ × Piece → Offered
offered p = record { to = p.0; n = p.1.n; at = p.1.at; bytes = p.1.bytes }

-- the offers after message n to a destination was cleared
abbrev pub with_clearance : Offering → ℕ → ℕ → Offering
with_clearance v to n = record {
  destinations = slice_set v.destinations to (with_step (destined v to) n after_clearance);
  order = v.order ++ (to, n) ∷ [];
}

-- the offers after one piece more of a message was sent
abbrev pub with_popped : Offering → ℕ × ℕ → Offering
with_popped v m = with_destined v m.0 (with_step (destined v m.0) m.1 after_piece)

-- the message, where the piece that is sent is its last
abbrev pub out_by_piece : Offering → ℕ × ℕ → Option (ℕ × ℕ)
out_by_piece v m =
    then_some (option_map_or (λ s. is_out (after_piece s)) (state_of v m.0 m.1) false) m
