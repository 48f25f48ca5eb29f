-- What a request ends with, and what a cancel of it does. MPI 3.1, 3.7.3 and 3.8.4.
use Rattle.std.specs.Prelude.{◌≡◌, ◌≢◌, ℕ, Bool, true, not, Option, None, if◌then◌else◌, Some, IfSome, IsSomeAnd}
use Rattle.std.specs.Prelude.{List, [], ◌∷◌, option_and_then}
use Rattle.std.specs.List.{list_any}
use Rattle.nm_types.specs.declared.answers.Answer.{Answer}
use Rattle.nm_types.specs.declared.packets.What.TheVariants as what
use Rattle.nm_types.specs.declared.answers.Answer.TheVariants.{Got}
use Rattle.nm_history.specs.declared.events.Event.{Event}
use Rattle.nm_history.specs.declared.events.Happened.{Happened}
use Rattle.nm_history.specs.declared.events.Happened.TheVariants.{Cancel, Recall}
use Rattle.nm_history.specs.declared.plain.Pair.{Pair}
use Rattle.nm_history.specs.Answers.{without_bytes}
use Rattle.nm_history.specs.Completion.{result_of}
use Rattle.nm_history.specs.Delivery.{pair_of_request}
use Rattle.nm_history.specs.Happens.{happened, is_recall, is_send}
use Rattle.nm_history.specs.Outgoing.{Called}
use Rattle.nm_history.specs.Matching.{matched_pairs, is_of_receive}
use Rattle.nm_request.specs.declared.Kind.{Kind}
use Rattle.nm_request.specs.declared.Kind.TheVariants as kind
use Rattle.nm_request.specs.declared.Req.{Req}
use Rattle.nm_request.specs.Requests.{Live, kind_of}
use Rattle.nm_rndv.specs.Offers.{Offering, destined, with_destined, with_recall}
use Rattle.nm_sending.specs.Departures.{SendingView}
use Rattle.nm_sending.specs.Sent.{AreSent, only_to}
use Rattle.nm_receiving.specs.Receipts.{SameOtherBytes, bytes_of}
use Rattle.nm_rank.specs.declared.answers.Cancelled.{Cancelled}
use Rattle.nm_rank.specs.declared.answers.Cancelled.TheVariants.{Done, Late, Asked}
use Rattle.nm_rank.specs.Ranks.{RankView, request_of}

-- a receive took a message
abbrev pub is_paired : List Event → ℕ → Bool
is_paired h number = list_any (is_of_receive number) (matched_pairs h)

-- what happens where a request is cancelled
abbrev pub cancel_events : List Event → Kind → List Happened
cancel_events h (kind.Receive number) = Cancel number (not (is_paired h number)) ∷ []
cancel_events h (kind.Send to n) = if happened (is_recall to n) h then [] else Recall to n ∷ []

-- the messages that were sent by asking, after a cancel of a request: a message is recalled the
-- first time
abbrev pub offers_cancelled : List Event → Kind → Offering → Offering
offers_cancelled h (kind.Receive number) v = v
offers_cancelled h (kind.Send to n) v =
    if happened (is_recall to n) h then v else with_destined v to (with_recall (destined v to) n)

-- the pair of the receive that a request is of, if it took a message
abbrev pub pair_with : RankView → Req → Option Pair
pair_with v r =
    option_and_then (λ k. pair_of_request v.events (request_of k)) (kind_of v.requests r)

-- what a cancel of a request comes to
abbrev pub cancel_answer : List Event → Kind → Cancelled
cancel_answer h (kind.Receive number) = if is_paired h number then Late else Done
cancel_answer h (kind.Send to n) = Asked

-- an answer that shows bytes shows those that came of the message that the receive took
abbrev pub ShowsBytes : RankView → Kind → Answer → Type 0
ShowsBytes v k (Got from tag body) =
    IfSome (pair_of_request v.events (request_of k))
    (λ pair. bytes_of v.receiving pair.arrival ≡ Some body)
ShowsBytes v k _ = Unit {0}

-- the answer is the result of a request of this kind
pub record IsResult (v : RankView) (answer : Answer) (k : Kind) : Type 0 where
  pub result : Some (without_bytes answer) ≡ result_of v.events (request_of k)
  pub bytes : ShowsBytes v k answer

-- the answer is the result of a live request
abbrev pub Gives : RankView → Req → Answer → Type 0
Gives v r answer = IsSomeAnd (kind_of v.requests r) (IsResult v answer)

-- message n to a rank was sent: it is one of some history that these messages are those of
pub record WasSent (v : SendingView) (to n : ℕ) : Type 0 where
  pub history : List Event
  pub messages : AreSent v history
  pub sent : happened (is_send to n) history ≡ true

-- the packets to a rank by which message n to one is recalled, the first time
abbrev pub withdrawal_of : List Event → ℕ → ℕ → ℕ → ℕ → List Called
withdrawal_of h stamp to n other =
    if happened (is_recall to n) h then [] else only_to to stamp (what.Withdraw n) other

-- this request is no longer live, and the others are as they were
pub record IsFreed (old new : Live) (r : Req) : Type 0 where
  pub counted : new.added ≡ old.added
  pub gone : kind_of new r ≡ None
  pub others : (q : Req) → q ≢ r → kind_of new q ≡ kind_of old q

-- A request gave its result (MPI 3.1, 3.7.3), and is live no more. The bytes of no other message changed,
-- and nothing else did.
pub record Finishes (r : Req) (answer : Answer) (old new : RankView) : Type 0 where
  pub gives : Gives old r answer
  pub freed : IsFreed old.requests new.requests r
  pub bytes : SameOtherBytes (pair_with old r) old.receiving new.receiving
  pub drawn : new.receiving.drawn ≡ old.receiving.drawn
  pub same : new ≡ record old { receiving = new.receiving; requests = new.requests }
