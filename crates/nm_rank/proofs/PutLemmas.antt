-- What is put, and which message leaves with it.
use Rattle.std.proofs.Common.{◌≡◌, ℕ, ◌==◌, Bool, true, false, List, [], ◌∷◌, ◌++◌, refl, sym, ap, subst, append-nil}
use Rattle.std.proofs.Common.{◌∙◌}
use Rattle.std.specs.Prelude.{if◌then◌else◌, Option, Some, None}
use Rattle.nm_types.specs.declared.messages.Arrival.{Arrival}
use Rattle.nm_types.specs.declared.messages.How.{How}
use Rattle.nm_types.specs.declared.messages.How.TheVariants.{Ask, Eager}
use Rattle.nm_types.specs.declared.packets.What.{What}
use Rattle.nm_types.specs.declared.packets.What.TheVariants as what
use Rattle.nm_history.specs.declared.events.Event.{Event}
use Rattle.nm_history.specs.declared.events.Happened.TheVariants as event
use Rattle.nm_history.specs.Happens.{happened, is_recall}
use Rattle.nm_history.specs.Outgoing.{Called}
use Rattle.nm_history.specs.Sends.{is_ask}
use Rattle.nm_history.specs.Effects.{is_empty_send, packet_events, whole_if}
use Rattle.nm_history.specs.Known.{Known}
use Rattle.nm_request.specs.declared.Kind.{Kind}
use Rattle.nm_request.specs.declared.Kind.TheVariants as kind
use Rattle.nm_sending.specs.Outboxes.{OutboxView}
use Rattle.nm_sending.specs.Sent.{Puts, only_to}
use Rattle.nm_receiving.specs.Receipts.{is_empty_ask, taken_events}
use Rattle.nm_rank.specs.Calls.{clearance_of, eager_sent}
use Rattle.nm_rank.specs.Requests.{cancel_events}

-- what is called for may be said in another way
pub puts-same : (f g : ℕ → List Called) (ends : Option ℕ) (stamp : ℕ) (o o' : OutboxView)
    → ((to : ℕ) → f to ≡ g to) → Puts f ends stamp o o' → Puts g ends stamp o o'
puts-same f g ends stamp o o' same p = record {
  added = p.added;
  letters = p.letters;
  carried = λ to. rw (← same to) (p.carried to);
  stamps = p.stamps;
  left = p.left;
  popped = p.popped;
  me = p.me;
}

-- nothing is put where nothing is called for
pub puts-none : (f : ℕ → List Called) (stamp : ℕ) (o : OutboxView) → ((to : ℕ) → f to ≡ [])
    → Puts f None stamp o o
puts-none f stamp o none = record {
  added = [];
  letters = sym (append-nil o.letters);
  carried = λ to. rw (none to) tt;
  stamps = tt;
  left = refl;
  popped = refl;
  me = refl;
}

ask-clears : (a : Arrival) (called : ℕ) → a.env.how ≡ Ask → (to : ℕ)
    → only_to a.env.from called (what.Clear a.n) to ≡ clearance_of called (Some a) to
ask-clears a called ask to = rw ask refl

pub puts-clearance : (t : Option Arrival) (a : Arrival) (called stamp : ℕ) (o o' : OutboxView)
    → t ≡ Some a → a.env.how ≡ Ask
    → Puts (only_to a.env.from called (what.Clear a.n)) None stamp o o'
    → Puts (clearance_of called t) None stamp o o'
puts-clearance t a called stamp o o' is ask p =
    subst (λ (u : Option Arrival). Puts (clearance_of called u) None stamp o o') (sym is)
    (puts-same _ _ None stamp o o' (ask-clears a called ask) p)

-- a send's message leaves with its last packet where it is eager
pub send-leaves : (to n tag ctx len line : ℕ) (how : How)
    → (if is_ask how then None else Some n)
    ≡ eager_sent (event.Send to n tag ctx len how line ∷ [])
send-leaves to n tag ctx len line Eager = refl
send-leaves to n tag ctx len line Ask = refl

whole-leaves : (b : Bool) (from n : ℕ) → eager_sent (whole_if b from n) ≡ None
whole-leaves true from n = refl
whole-leaves false from n = refl

whole-end : (b : Bool) (from n : ℕ) → eager_sent (whole_if b from n ++ []) ≡ None
whole-end b from n = ap eager_sent (append-nil (whole_if b from n)) ∙ whole-leaves b from n

-- no eager message is sent where a receive takes one
pub taken-leaves : (t : Option Arrival) → eager_sent (taken_events t) ≡ None
taken-leaves None = refl
taken-leaves (Some a) = whole-leaves (is_empty_ask a) a.env.from a.n

-- nor by a packet
pub packet-leaves : (known : Known) (h : List Event) (from size : ℕ) (w : What)
    → eager_sent (packet_events known h from w size) ≡ None
packet-leaves known h from size (what.Head tag ctx len) = whole-end (len == size) from known.count
packet-leaves known h from size (what.More n) = whole-end (known.missing == size) from n
packet-leaves known h from size (what.Ask tag ctx len) = whole-leaves _ from known.count
packet-leaves known h from size (what.Clear n) = by_answer (is_empty_send h from n) where
  by_answer : (b : Bool) → eager_sent ((if b then event.Out from n ∷ [] else []) ++ []) ≡ None
  by_answer true = refl
  by_answer false = refl
packet-leaves known h from size (what.Withdraw n) = refl
packet-leaves known h from size (what.Withdrawn n done) = refl

-- nor by a cancel
pub cancel-leaves : (h : List Event) (k : Kind) → eager_sent (cancel_events h k) ≡ None
cancel-leaves h (kind.Receive number) = refl
cancel-leaves h (kind.Send to n) = by_answer (happened (is_recall to n) h) where
  by_answer : (b : Bool) → eager_sent (if b then [] else event.Recall to n ∷ []) ≡ None
  by_answer true = refl
  by_answer false = refl
