-- How a rank's sending side stands to its history, and how the two go on. MPI 3.1, 3.4, 3.7.3, 3.8.4.
use Rattle.std.specs.Prelude.{◌≡◌, ℕ, ◌==◌, ◌&&◌, Bool, true, false, not, List, [], ◌∷◌, ◌++◌}
use Rattle.std.specs.Prelude.{length, filter, map, is_some, Option, Some, None, if◌then◌else◌}
use Rattle.std.specs.List.{AllByRecursion, range_with_len}
use Rattle.nm_types.specs.declared.packets.What.{What}
use Rattle.nm_history.specs.declared.events.Event.{Event}
use Rattle.nm_history.specs.declared.events.Happened.{Happened}
use Rattle.nm_history.specs.declared.events.Happened.TheVariants.{Send, Out, Recall, Undone}
use Rattle.nm_history.specs.Delivery.{is_asked}
use Rattle.nm_history.specs.Happens.{happened, is_send, is_out, is_recall, is_undone}
use Rattle.nm_history.specs.Outgoing.{Called, AreCalled, bare}
use Rattle.nm_history.specs.Sends.{sends, is_ask}
use Rattle.nm_history.specs.Clearance.{pushed_out}
use Rattle.nm_history.specs.Continues.{has}
use Rattle.nm_history.specs.Effects.{is_empty_send, happenings}
use Rattle.nm_history.specs.Rules.{AreRight}
use Rattle.nm_sending.specs.Letters.{Letter, last_ends, packets_for}
use Rattle.nm_sending.specs.Outboxes.{OutboxView, put_to}
use Rattle.nm_sending.specs.Departures.{SendingView, departures_to, departure_of, passes, was_undone}
use Rattle.nm_sending.specs.Departures.{cleared_to, leaving_to}

-- The messages of a history are these, each with what became of it; and of the messages to a rank that
-- it cleared and that have a body, in that order, those that have left come first, and then those of
-- which pieces are left to push.
pub record AreSent (v : SendingView) (h : List Event) : Type 0 where
  pub numbers :
      (to : ℕ) → map (λ s. s.n) (sends h to) ≡ range_with_len 0 (length (departures_to v to))
  pub sent : (to n : ℕ) → is_some (departure_of v to n) ≡ happened (is_send to n) h
  pub asked :
      (to n : ℕ) → passes (λ d. is_ask d.how) (departure_of v to n) ≡ is_asked (sends h to) n
  pub empty : (to n : ℕ) → passes (λ d. d.len == 0) (departure_of v to n) ≡ is_empty_send h to n
  pub out : (to n : ℕ) → passes (λ d. d.out) (departure_of v to n) ≡ happened (is_out to n) h
  pub recalled :
      (to n : ℕ) → passes (λ d. d.recalled) (departure_of v to n) ≡ happened (is_recall to n) h
  pub undone :
      (to n : ℕ) (done : Bool) →
      passes (was_undone done) (departure_of v to n) ≡ happened (is_undone to n done) h
  pub in_turn :
      (to : ℕ) →
      filter (λ n. not (is_empty_send h to n)) (cleared_to v to) ≡ pushed_out h to ++ leaving_to v to

-- After this happened the messages are those of the longer history, and it may come after the events
-- before it.
abbrev pub Preserves : SendingView → SendingView → List Happened → Type 0
Preserves old new ws =
    (h events : List Event) → happenings events ≡ ws → AreSent old h →
    AreSent new (h ++ events) × ((ranks : ℕ) → AreRight ranks h events)

-- The letters that were put carry to each rank the packets called for, with the next numbers and with
-- this stamp. With the last of them leaves this message, if there is one, and with the others none.
pub record Puts (called : ℕ → List Called) (ends : Option ℕ) (stamp : ℕ) (old new : OutboxView)
    : Type 0 where
  pub added : List Letter
  pub letters : new.letters ≡ old.letters ++ added
  pub carried : (to : ℕ) → AreCalled old.me (put_to old to) (called to) (packets_for to added)
  pub stamps : AllByRecursion (λ l. l.packet.stamp ≡ stamp) added
  pub left : map (λ l. l.ends) added ≡ last_ends (length added) ends
  pub popped : new.popped ≡ old.popped
  pub me : new.me ≡ old.me

-- the message that left, if one did
abbrev pub outs : Option (ℕ × ℕ) → List Happened
outs None = []
outs (Some m) = Out m.0 m.1 ∷ []

-- one packet without bytes is called for to this rank
abbrev pub only_to : ℕ → ℕ → What → ℕ → List Called
only_to to stamp what other = if to == other then bare stamp what ∷ [] else []

-- Message n to a rank may be cleared: by some history that these messages are those of, it was sent by
-- asking, was not cleared and was not withdrawn.
pub record MayBeCleared (v : SendingView) (to n : ℕ) : Type 0 where
  pub history : List Event
  pub messages : AreSent v history
  pub asked : is_asked (sends history to) n ≡ true
  pub uncleared : has (cleared_to v to) n ≡ false
  pub kept : happened (is_undone to n true) history ≡ false

-- Message n to a rank may be recalled: it was sent, and was not recalled.
pub record MayBeRecalled (v : SendingView) (to n : ℕ) : Type 0 where
  pub history : List Event
  pub messages : AreSent v history
  pub sent : happened (is_send to n) history ≡ true
  pub new : happened (is_recall to n) history ≡ false

-- The recall of message n to a rank may have this answer: it has none yet, and a cleared message is not
-- withdrawn.
pub record MayBeAnswered (v : SendingView) (to n : ℕ) (done : Bool) : Type 0 where
  pub history : List Event
  pub messages : AreSent v history
  pub recalled : happened (is_recall to n) history ≡ true
  pub no_answer : (other : Bool) → happened (is_undone to n other) history ≡ false
  pub uncleared : (done && has (cleared_to v to) n) ≡ false

-- the event is one of a rank's own messages
abbrev pub is_of_sending : Happened → Bool
is_of_sending (Send to n tag ctx len how line) = true
is_of_sending (Out to n) = true
is_of_sending (Recall to n) = true
is_of_sending (Undone to n done) = true
is_of_sending _ = false
