-- What the fields of a rank's sending side keep, which no contract of theirs shows.
use Rattle.std.specs.Prelude.{◌≡◌, ℕ, ◌+◌, ◌-◌, ◌*◌, ◌<◌, ◌≤◌, Bool, true, false, not, ◌&&◌, List, []}
use Rattle.std.specs.Prelude.{◌∷◌, Option, Some, None, if◌then◌else◌, length, sum_by, count_by}
use Rattle.std.specs.Prelude.{is_some, option_and_then}
use Rattle.std.specs.Map.{values_of}
use Rattle.nm_types.specs.Bodies.{body_len}
use Rattle.nm_types.specs.declared.limits.TheConstants.{MAX_BODY, MAX_PIECE}
use Rattle.nm_types.specs.declared.messages.How.{How}
use Rattle.nm_types.specs.declared.messages.How.TheVariants.{Eager, Ask}
use Rattle.nm_history.specs.Sends.{is_ask}
use Rattle.nm_history.specs.Continues.{AreApart, has}
use Rattle.nm_rndv.specs.declared.asked.State.{State}
use Rattle.nm_rndv.specs.declared.asked.State.TheVariants.{Asked, Cleared, Out, Withdrawn}
use Rattle.nm_rndv.specs.Offers.{Destined, destined, recall_in, state_of}
use Rattle.nm_sending.specs.declared.TheConstants.{MAX_MESSAGES}
use Rattle.nm_sending.specs.declared.departures.Departure.{Departure}
use Rattle.nm_sending.specs.Departures.{SendingView, departures_to, departure_of, passes}
use Rattle.nm_sending.specs.Departures.{was_undone, pushed_to, cleared_to, ends_to}

-- an eager message that has not left
abbrev pub waits : Departure → Bool
waits d = not (is_ask d.how) && not d.out

-- the numbers of the eager messages among these that have not left, where the first has this number
abbrev pub waiting_from : ℕ → List Departure → List ℕ
waiting_from n [] = []
waiting_from n (d ∷ ds) = if waits d then n ∷ waiting_from (n + 1) ds else waiting_from (n + 1) ds

-- A message that was sent by asking waits with its body until it is cleared or withdrawn, leaves in
-- pieces after it was cleared, and is out.
abbrev pub IsStateOf : Departure → Bool → Option State → Type 0
IsStateOf d cleared None = ⊥
IsStateOf d cleared (Some (Asked body)) =
    (body_len body ≡ d.len) × (d.len ≤ MAX_BODY) × (cleared ≡ false) × (d.out ≡ false)
    × (was_undone true d ≡ false)
IsStateOf d cleared (Some (Cleared cut)) =
    (body_len cut.body ≡ d.len) × (d.len ≤ MAX_BODY) × (cleared ≡ true) × (d.out ≡ false)
    × (MAX_PIECE * cut.popped < d.len) × (was_undone true d ≡ false)
IsStateOf d cleared (Some Out) = (cleared ≡ true) × (d.out ≡ true)
IsStateOf d cleared (Some Withdrawn) =
    (cleared ≡ false) × (d.out ≡ false) × (was_undone true d ≡ true)

-- a message that is sent this way has this state; an eager one has none, and was not cleared
abbrev pub IsOfferBy : How → Departure → Bool → Option State → Type 0
IsOfferBy Eager d cleared state = (cleared ≡ false) × (state ≡ None)
IsOfferBy Ask d cleared state = IsStateOf d cleared state

-- a message that was not sent has no state, and was not cleared
abbrev pub IsOffer : Option Departure → Bool → Option State → Type 0
IsOffer None cleared state = (cleared ≡ false) × (state ≡ None)
IsOffer (Some d) cleared state = IsOfferBy d.how d cleared state

-- the recall of a message, with its answer if there is one
abbrev pub recall_of : Departure → Option (Option Bool)
recall_of d = if d.recalled then Some d.undone else None

-- how many pieces a message may still push at most
abbrev pub allowance : State → ℕ
allowance (Asked body) = 1024
allowance (Cleared cut) = 1024 - cut.popped
allowance Out = 0
allowance Withdrawn = 0

-- how many pieces the messages that were asked of a rank may still push at most
abbrev pub allowed : Destined → ℕ
allowed d = sum_by allowance (values_of d.asked)

-- The tables of a rank, among so many, agree with each other.
pub record TablesAgree (me ranks : ℕ) (v : SendingView) : Type 0 where
  pub own : me ≡ v.outbox.me
  pub letters : length v.outbox.popped ≡ ranks
  pub rows : length v.departures ≡ ranks
  pub offers : length v.offers.destinations ≡ ranks
  pub counts : length v.pushed ≡ ranks
  pub eager : (to : ℕ) → ends_to to v.outbox.letters ≡ waiting_from 0 (departures_to v to)
  pub states :
      (to n : ℕ) → IsOffer (departure_of v to n) (has (cleared_to v to) n) (state_of v.offers to n)
  pub once : (to : ℕ) → AreApart (cleared_to v to)
  pub recalls :
      (to n : ℕ) →
      recall_in (destined v.offers to) n ≡ option_and_then recall_of (departure_of v to n)
  pub unanswered :
      (to n : ℕ) → passes (λ d. not d.recalled && is_some d.undone) (departure_of v to n) ≡ false
  pub staying : v.staying ≡ sum_by (λ ds. count_by (λ d. not d.out) ds) v.departures
  pub few : (to : ℕ) → length (departures_to v to) ≤ MAX_MESSAGES
  pub pieces :
      (to : ℕ) →
      pushed_to v to + allowed (destined v.offers to) ≤ 1024 * length (departures_to v to)
