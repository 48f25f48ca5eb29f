-- What a call does to the one rank, and which logs are legal.
use Rattle.std.specs.Prelude.{◌≡◌, ℕ, ◌<◌, ◌≤◌, ◌⊎◌, Bool, true, false, if◌then◌else◌}
use Rattle.std.specs.Prelude.{Option, None, Some, filter_map, slice_get}
use Rattle.std.specs.Prelude.{IsSomeAnd, List, [], ◌∷◌, ◌++◌, length}
use Rattle.nm_types.specs.declared.answers.Answer.TheVariants.{Got}
use Rattle.nm_types.specs.declared.messages.Peer.TheVariants as peer
use Rattle.nm_types.specs.declared.messages.TagPick.TheVariants as pick
use Rattle.nm_types.specs.declared.scripts.Body.{Body}
use Rattle.nm_types.specs.Bodies.{bytes_of}
use Rattle.nm_types.specs.Sizes.{Sizes}
use Rattle.nm_history.specs.Completion.{is_complete}
use Rattle.nm_history.specs.Sends.{Sent}
use Rattle.nm_request.specs.declared.Kind.{Kind}
use Rattle.nm_request.specs.Requests.{kind_of}
use Rattle.nm_rank.specs.declared.answers.State.{State}
use Rattle.nm_rank.specs.declared.answers.State.TheVariants as state
use Rattle.nm_rank.specs.New.{IsNew}
use Rattle.nm_rank.specs.Ranks.{IsFresh, RankView, request_of}
use Rattle.nm_rank.specs.Requests.{Finishes, pair_with}
use Rattle.nm_rank.specs.Sends.{next_send}
use Rattle.nm_rank.specs.Steps.{Cancels, StartsReceive, StartsSend}
use Rattle.nm_multi.specs.declared.calls.Call.{Call}
use Rattle.nm_multi.specs.declared.calls.Call.TheVariants as call
use Rattle.nm_multi.specs.declared.calls.Entry.{Entry}
use Rattle.nm_multi.specs.declared.calls.Reply.{Reply}
use Rattle.nm_multi.specs.declared.calls.Reply.TheVariants as reply
use Rattle.nm_multi.specs.Moves.{IsAlone, MovesMany}
use Rattle.nm_multi.specs.Standing.{DeskInvariant}

-- the send to itself that a rank starts with this tag and this body
abbrev pub sent_by : RankView → ℕ → Body → Sent
sent_by v tag body = next_send v 0 tag 0 body false 0

-- so many packets were moved: all that there were, or those until the rank could go on no more
abbrev pub MovesAll : ℕ → RankView → RankView → Type 0
MovesAll k old new =
    MovesMany k old new × (k ≤ length old.sending.outbox.letters)
    × ((k ≡ length old.sending.outbox.letters) ⊎ ¬ (IsFresh new))

-- some packets were moved, and not all
abbrev pub MovesSome : ℕ → RankView → RankView → Type 0
MovesSome k old new = MovesMany k old new × (0 < k) × (k < length old.sending.outbox.letters)

-- whether a request is complete
abbrev pub state_of : RankView → Kind → State
state_of v k =
    if is_complete v.events (request_of k) then state.Ready else state.Pending

-- a call of a rank that can go on has this reply, and makes the rank so
abbrev pub GoesOn : Call → Reply → RankView → RankView → Type 0
GoesOn (call.Isend tag body) (reply.Started r) old new = StartsSend (sent_by old tag body) body r old new
GoesOn (call.Irecv tag cap) (reply.Started r) old new =
    StartsReceive (peer.One 0) (pick.One tag) 0 cap 0 r old new
GoesOn call.Pump (reply.Moved k) old new = MovesAll k old new
GoesOn call.Pump (reply.Short k) old new = MovesSome k old new
GoesOn (call.Test r) (reply.Is s) old new =
    IsSomeAnd (kind_of old.requests r) (λ k. s ≡ state_of old k) × (new ≡ old)
GoesOn (call.Test r) reply.NoSuch old new = (kind_of old.requests r ≡ None) × (new ≡ old)
GoesOn (call.Finish r) (reply.Ended answer) old new = Finishes r answer old new
GoesOn (call.Finish r) reply.NotComplete old new =
    IsSomeAnd (kind_of old.requests r) (λ k. is_complete old.events (request_of k) ≡ false)
    × (new ≡ old)
GoesOn (call.Finish r) reply.NoSuch old new = (kind_of old.requests r ≡ None) × (new ≡ old)
GoesOn (call.Cancel r) (reply.Undone answer) old new = Cancels r answer old new
GoesOn (call.Cancel r) reply.NoSuch old new = (kind_of old.requests r ≡ None) × (new ≡ old)
GoesOn _ _ old new = ⊥

-- a call has this reply, and makes the rank so: a rank that can go on no more does nothing
abbrev pub Acts : Call → Reply → RankView → RankView → Type 0
Acts c reply.Worn old new = ¬ (IsFresh old) × (new ≡ old)
Acts c r old new = IsFresh old × GoesOn c r old new

-- the body that a call sent, if it started a send
abbrev pub body_sent : Call → Reply → Option Body
body_sent (call.Isend tag body) (reply.Started r) = Some body
body_sent _ _ = None

-- the bodies of the sends that were started, oldest first
abbrev pub bodies_of : List Entry → List Body
bodies_of log = filter_map (λ e. body_sent e.call e.reply) log

-- A result that shows a message shows the body of the send that the receive is paired with: the one
-- of the message's number among the sends.
abbrev pub ShowsBody : List Body → RankView → Call → Reply → Type 0
ShowsBody sent v (call.Finish r) (reply.Ended (Got from tag body)) =
    IsSomeAnd (pair_with v r)
    (λ pair. IsSomeAnd (slice_get sent pair.arrival.n) (λ b. body ≡ bytes_of b))
ShowsBody sent v _ _ = Unit {0}

-- whether a call was cut short
abbrev pub is_short : Reply → Bool
is_short (reply.Short k) = true
is_short _ = false

-- the one rank, and the calls that were made on it
pub record DeskView : Type 0 where
  pub rank : RankView
  pub log : List Entry

-- One call was made: the log grew by its entry alone, whose reply is the one that the call has.
pub record Makes (short : Bool) (who : ℕ) (c : Call) (old new : DeskView) : Type 0 where
  pub reply : Reply
  pub logged : new.log ≡ old.log ++ record { who = who; call = c; reply = reply } ∷ []
  pub acts : Acts c reply old.rank new.rank
  pub shows : ShowsBody (bodies_of old.log) old.rank c reply
  pub is : is_short reply ≡ short

-- after the calls before them, these calls, with these replies, lead from one rank to another
abbrev pub Leads : List Entry → RankView → List Entry → RankView → Type 0
Leads before old [] new = new ≡ old
Leads before old (e ∷ es) new =
    (next : RankView) × Acts e.call e.reply old next
    × ShowsBody (bodies_of before) old e.call e.reply × Leads (before ++ e ∷ []) next es new

-- The log is legal for this shape, and leads to this rank: each reply is the one that the call has,
-- from a rank on at which nothing happened.
pub record IsReplay (shape : Sizes) (log : List Entry) (v : RankView) : Type 0 where
  pub start : RankView
  pub new : IsNew shape 0 start
  pub leads : Leads [] start log v

-- the rank is the only one, and the one to which the log leads, with the sends of the log
pub record AreReplayed (v : RankView) (log : List Entry) : Type 0 where
  pub alone : IsAlone v
  pub stands : DeskInvariant (bodies_of log) v
  pub replay : IsReplay v.sizes log v
