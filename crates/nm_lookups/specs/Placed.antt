-- The first places of a history.
use Rattle.std.specs.Prelude.{◌≡◌, ℕ, Bool, true, false, List, nat_lt, position, take, nat_eq}
use Rattle.std.specs.Option.{option_map_or}
use Rattle.indexmap.specs.IndexMap.{IndexMap, get}
use Rattle.nm_history.specs.declared.events.Event.{Event}
use Rattle.nm_history.specs.declared.events.Happened.{Happened}
use Rattle.nm_history.specs.Happens.{is_send, is_arrival, is_whole, is_out, is_recall, is_withdraw, is_asked_send}
use Rattle.nm_history.specs.Happens.{is_undone, is_claim, is_cancel}
use Rattle.nm_history.specs.RankRun.{is_asking}
use Rattle.nm_history.specs.Completion.{is_taken}
use Rattle.nm_match.specs.Names.{same_message}
use Rattle.nm_lookups.specs.Firsts.{is_claim_at, is_start_at}
use Rattle.nm_match.specs.declared.names.Message.{Message}
use Rattle.nm_lookups.specs.declared.places.ByNumber.{ByNumber}
use Rattle.nm_lookups.specs.declared.places.Came.{Came}
use Rattle.nm_lookups.specs.declared.places.Gone.{Gone}
use Rattle.nm_lookups.specs.declared.places.Incoming.{Incoming}
use Rattle.nm_lookups.specs.declared.places.Outgoing.{Outgoing}
use Rattle.nm_lookups.specs.declared.places.Places.{Places}
use Rattle.nm_lookups.specs.declared.places.Recalled.{Recalled}
use Rattle.nm_lookups.specs.declared.places.Settled.{Settled}

-- these are the first places at which an event is of each message
abbrev pub AreFirsts : {S : Type 0} → (ℕ → ℕ → Happened → Bool) → List Event → IndexMap Message ℕ S → Type 0
AreFirsts is_of h places =
    (m : Message) → get same_message places m ≡ position (λ e. is_of m.rank m.n e.what) h

-- the places at which messages of other ranks came
pub record AreCame (h : List Event) (places : Came) : Type 0 where
  pub arrivals : AreFirsts is_arrival h places.arrivals
  pub askings : AreFirsts is_asking h places.askings
  pub wholes : AreFirsts is_whole h places.wholes

-- .. at which it was settled what becomes of them
pub record AreSettled (h : List Event) (places : Settled) : Type 0 where
  pub withdrawn : AreFirsts (λ from n what. is_withdraw from n true what) h places.withdrawn
  pub refused : AreFirsts (λ from n what. is_withdraw from n false what) h places.refused
  pub claims : AreFirsts is_claim h places.claims

-- the places of each kind of event of the messages of other ranks
pub record AreIncoming (h : List Event) (places : Incoming) : Type 0 where
  pub came : AreCame h places.came
  pub settled : AreSettled h places.settled

-- the places at which messages to other ranks were sent and left
pub record AreGone (h : List Event) (places : Gone) : Type 0 where
  pub sends : AreFirsts is_send h places.sends
  pub asked : AreFirsts is_asked_send h places.asked
  pub outs : AreFirsts is_out h places.outs

-- .. at which they were recalled, and the answers came
pub record AreRecalled (h : List Event) (places : Recalled) : Type 0 where
  pub recalls : AreFirsts is_recall h places.recalls
  pub undone : AreFirsts (λ to n what. is_undone to n true what) h places.undone
  pub late : AreFirsts (λ to n what. is_undone to n false what) h places.late

-- the places of each kind of event of the messages to other ranks
pub record AreOutgoing (h : List Event) (places : Outgoing) : Type 0 where
  pub gone : AreGone h places.gone
  pub recalled : AreRecalled h places.recalled

-- these are the first places at which an event is of each number
abbrev pub AreNumberedFirsts : {S : Type 0} → (ℕ → Happened → Bool) → List Event → IndexMap ℕ ℕ S → Type 0
AreNumberedFirsts is_at h places = (n : ℕ) → get nat_eq places n ≡ position (λ e. is_at n e.what) h

-- .. of the events of receives, by their numbers, and of those of commands, by their lines
pub record AreByNumber (h : List Event) (places : ByNumber) : Type 0 where
  pub cancels : AreNumberedFirsts is_cancel h places.cancels
  pub starts : AreNumberedFirsts is_start_at h places.starts
  pub claims : AreNumberedFirsts is_claim_at h places.claims

-- the places of all these events
pub record ArePlaces (h : List Event) (places : Places) : Type 0 where
  pub incoming : AreIncoming h places.incoming
  pub outgoing : AreOutgoing h places.outgoing
  pub by_number : AreByNumber h places.by_number

-- the places at which messages were paired: before a place those are that are paired by then
abbrev pub AreTaken : {S : Type 0} → List Event → IndexMap Message ℕ S → Type 0
AreTaken h taken =
    (m : Message) (k : ℕ) →
    option_map_or (λ t. nat_lt t k) (get same_message taken m) false
    ≡ is_taken (take k h) m.rank m.n
