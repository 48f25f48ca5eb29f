-- What each command does to a process, before the process counts it as run.
use Rattle.std.specs.Prelude.{◌≡◌, ◌≢◌, ◌⊎◌, ℕ, Bool, true, false, Option, Some, None, IsSome}
use Rattle.std.specs.Prelude.{length}
use Rattle.std.specs.Option.{option_map_or}
use Rattle.nm_types.specs.declared.answers.Answer.{Answer}
use Rattle.nm_types.specs.declared.answers.Answer.TheVariants as answer
use Rattle.nm_types.specs.declared.messages.Arrival.{Arrival}
use Rattle.nm_types.specs.declared.messages.Peer.{Peer}
use Rattle.nm_types.specs.declared.messages.TagPick.{TagPick}
use Rattle.nm_types.specs.declared.scripts.Body.{Body}
use Rattle.nm_types.specs.declared.scripts.Command.{Command}
use Rattle.nm_types.specs.declared.scripts.Command.TheVariants as command
use Rattle.nm_history.specs.Answers.{Message, seen}
use Rattle.nm_history.specs.Completion.{Request, is_complete}
use Rattle.nm_history.specs.Matching.{first_message, is_claimed, matched_pairs}
use Rattle.nm_history.specs.Sends.{receives}
use Rattle.nm_request.specs.declared.Kind.{Kind}
use Rattle.nm_request.specs.declared.Kind.TheVariants as kind
use Rattle.nm_request.specs.declared.Req.{Req}
use Rattle.nm_request.specs.Requests.{kind_of}
use Rattle.nm_rank.specs.declared.answers.Cancelled.{Cancelled}
use Rattle.nm_rank.specs.declared.answers.Cancelled.TheVariants as cancelled
use Rattle.nm_rank.specs.Ranks.{RankView, request_of}
use Rattle.nm_rank.specs.Requests.{Finishes}
use Rattle.nm_rank.specs.Sends.{next_send}
use Rattle.nm_rank.specs.Steps.{Cancels, Claims, Records, StartsMatched, StartsReceive, StartsSend}
use Rattle.nm_process.specs.declared.steps.Step.{Step}
use Rattle.nm_process.specs.declared.steps.Step.TheVariants.{Waits, Ran as Took}
use Rattle.nm_process.specs.Names.{handled, named}
use Rattle.nm_process.specs.Processes.{ProcessView}

-- nothing changed but the rank
abbrev pub KeepsAllBut : ProcessView → ProcessView → Type 0
KeepsAllBut a b = b ≡ record a { rank = b.rank }

-- the process counts as many commands
abbrev pub StandsStill : ProcessView → ProcessView → Type 0
StandsStill a b = b.at ≡ a.at

-- the rank recorded the answer of a line's command, and did nothing else
pub record HasAnswered (a b : ProcessView) (line : ℕ) (x : Answer) : Type 0 where
  pub records : Records line x a.rank b.rank
  pub others : KeepsAllBut a b

-- this name stands for this request, or for none, and every other for what it stood for
pub record SetsName (a b : ProcessView) (q : ℕ) (r : Option Request) : Type 0 where
  pub own : named b q ≡ r
  pub others : (k : ℕ) → k ≢ q → named b k ≡ named a k

-- this handle stands for this message, or for none, and every other for what it stood for
pub record SetsHandle (a b : ProcessView) (m : ℕ) (message : Option Message) : Type 0 where
  pub own : handled b m ≡ message
  pub others : (k : ℕ) → k ≢ m → handled b k ≡ handled a k

-- the process counts as many commands, and the handles stand for what they stood for
pub record KeepsHandles (a b : ProcessView) : Type 0 where
  pub at : b.at ≡ a.at
  pub handles : b.handles ≡ a.handles

-- the rank made this call, which started a request of this kind, and the name stands for it
pub record HasBegun (Call : Req → RankView → RankView → Type 0) (kind : Kind) (a b : ProcessView)
    (q : ℕ) : Type 0 where
  pub request : Req
  pub starts : Call request a.rank b.rank
  pub names : SetsName a b q (Some (request_of kind))
  pub at : b.at ≡ a.at

-- a start of a free name, and its answer
pub record HasStarted (Call : Req → RankView → RankView → Type 0) (kind : Kind)
    (a b : ProcessView) (q line : ℕ) : Type 0 where
  pub free : named a q ≡ None
  pub mid : ProcessView
  pub begun : HasBegun Call kind a mid q
  pub answered : HasAnswered mid b line answer.Started

-- a start of a name that stands for a request was answered busy
pub record IsBusy (a b : ProcessView) (q line : ℕ) : Type 0 where
  pub taken : IsSome (named a q)
  pub answered : HasAnswered a b line answer.Busy

-- the name stands for no request
pub record IsNull (a b : ProcessView) (q line : ℕ) : Type 0 where
  pub free : named a q ≡ None
  pub answered : HasAnswered a b line answer.Null

-- what a send comes to
abbrev pub HasTriedSend :
    ProcessView → ProcessView → (q to tag ctx : ℕ) → Body → Bool → ℕ → Type 0
HasTriedSend a b q to tag ctx body sync line =
    let s = next_send a.rank to tag ctx body sync line in
    IsBusy a b q line
    ⊎ HasStarted (StartsSend s body) (kind.Send to s.n) a b q line × KeepsHandles a b

-- what a receive comes to
abbrev pub HasTriedReceive :
    ProcessView → ProcessView → ℕ → Peer → TagPick → (ctx cap line : ℕ) → Type 0
HasTriedReceive a b q from tag ctx cap line =
    let number = length (receives a.rank.events) in
    IsBusy a b q line
    ⊎ HasStarted (StartsReceive from tag ctx cap line) (kind.Receive number) a b q line
    × KeepsHandles a b

-- the request of a name gave its result, and is no longer live
pub record Ends (a b : ProcessView) (q : ℕ) (x : Answer) : Type 0 where
  pub request : Req
  pub kind : Kind
  pub is : kind_of a.rank.requests request ≡ Some kind
  pub live : named a q ≡ Some (request_of kind)
  pub finished : Finishes request x a.rank b.rank
  pub names : SetsName a b q None
  pub handles : KeepsHandles a b

-- a wait or a test of a request that is complete
pub record HasEnded (a b : ProcessView) (q line : ℕ) : Type 0 where
  pub mid : ProcessView
  pub answer : Answer
  pub ends : Ends a mid q answer
  pub answered : HasAnswered mid b line answer

-- the request of a name is not complete
pub record IsPending (a : ProcessView) (q : ℕ) : Type 0 where
  pub request : Request
  pub live : named a q ≡ Some request
  pub pending : is_complete a.rank.events request ≡ false

-- what a wait comes to
abbrev pub HasTriedWait : ProcessView → ProcessView → (q line : ℕ) → Step → Type 0
HasTriedWait a b q line Waits = IsPending a q × (b ≡ a)
HasTriedWait a b q line Took = IsNull a b q line ⊎ HasEnded a b q line

-- a test of a request that is not complete
pub record HasNoResult (a b : ProcessView) (q line : ℕ) : Type 0 where
  pub pending : IsPending a q
  pub answered : HasAnswered a b line answer.No

-- what a test comes to
abbrev pub HasTriedTest : ProcessView → ProcessView → (q line : ℕ) → Type 0
HasTriedTest a b q line = IsNull a b q line ⊎ HasEnded a b q line ⊎ HasNoResult a b q line

-- the message that a probe shows
abbrev pub message_probed : ProcessView → Peer → TagPick → ℕ → Option Arrival
message_probed a from tag ctx =
    first_message a.rank.events (matched_pairs a.rank.events) from tag ctx

-- what a probe comes to
abbrev pub HasProbed : ProcessView → ProcessView → Peer → TagPick → (ctx line : ℕ) → Type 0
HasProbed a b from tag ctx line =
    HasAnswered a b line (option_map_or seen (message_probed a from tag ctx) answer.Nothing)

-- a probe that goes on until there is a message found one
pub record HasAwaited (a b : ProcessView) (from : Peer) (tag : TagPick) (ctx line : ℕ)
    : Type 0 where
  pub message : Arrival
  pub first : message_probed a from tag ctx ≡ Some message
  pub answered : HasAnswered a b line (seen message)

-- what it comes to
abbrev pub HasTriedAwait :
    ProcessView → ProcessView → Peer → TagPick → (ctx line : ℕ) → Step → Type 0
HasTriedAwait a b from tag ctx line Waits = (message_probed a from tag ctx ≡ None) × (b ≡ a)
HasTriedAwait a b from tag ctx line Took = HasAwaited a b from tag ctx line

-- how a cancel is answered
abbrev pub answer_for : Cancelled → Answer
answer_for cancelled.Done = answer.Done
answer_for cancelled.Late = answer.Late
answer_for cancelled.Asked = answer.Asked

-- a cancel of the request of a name
pub record HasCancelled (a b : ProcessView) (q line : ℕ) : Type 0 where
  pub mid : ProcessView
  pub request : Req
  pub answer : Cancelled
  pub cancels : Cancels request answer a.rank mid.rank
  pub live : named a q ≡ Some (request_of cancels.kind)
  pub others : KeepsAllBut a mid
  pub answered : HasAnswered mid b line (answer_for answer)

-- a matched probe of a handle that stands for a message was answered busy
pub record IsHandleBusy (a b : ProcessView) (m line : ℕ) : Type 0 where
  pub taken : IsSome (handled a m)
  pub answered : HasAnswered a b line answer.Busy

-- a matched probe found no message
pub record HasFoundNone (a b : ProcessView) (m : ℕ) (from : Peer) (tag : TagPick) (ctx line : ℕ)
    : Type 0 where
  pub free : handled a m ≡ None
  pub none : message_probed a from tag ctx ≡ None
  pub answered : HasAnswered a b line answer.Nothing

-- a matched probe claimed a message, for which the handle stands
pub record HasClaimed (a b : ProcessView) (m : ℕ) (from : Peer) (tag : TagPick) (ctx line : ℕ)
    : Type 0 where
  pub free : handled a m ≡ None
  pub mid : ProcessView
  pub message : Arrival
  pub first : message_probed a from tag ctx ≡ Some message
  pub claims : Claims message line a.rank mid.rank
  pub names : mid.names ≡ a.names
  pub at : mid.at ≡ a.at
  pub handles : SetsHandle a mid m (Some (record { from = message.env.from; n = message.n }))
  pub answered : HasAnswered mid b line (seen message)

-- what a matched probe comes to
abbrev pub HasTriedMprobe :
    ProcessView → ProcessView → ℕ → Peer → TagPick → (ctx line : ℕ) → Type 0
HasTriedMprobe a b m from tag ctx line =
    IsHandleBusy a b m line ⊎ HasFoundNone a b m from tag ctx line
    ⊎ HasClaimed a b m from tag ctx line

-- a receive of a handle that stands for no message
pub record IsHandleNull (a b : ProcessView) (q m line : ℕ) : Type 0 where
  pub name : named a q ≡ None
  pub free : handled a m ≡ None
  pub answered : HasAnswered a b line answer.Null

-- a receive of the message of a handle, which then stands for none
pub record HasMatched (a b : ProcessView) (q m cap line : ℕ) : Type 0 where
  pub message : Message
  pub held : handled a m ≡ Some message
  pub claimed :
      is_claimed a.rank.events (matched_pairs a.rank.events) message.from message.n ≡ true
  pub started :
      HasStarted (StartsMatched message.from message.n cap line)
      (kind.Receive (length (receives a.rank.events))) a b q line
  pub handles : SetsHandle a b m None

-- what a matched receive comes to
abbrev pub HasTriedMrecv : ProcessView → ProcessView → (q m cap line : ℕ) → Type 0
HasTriedMrecv a b q m cap line =
    IsBusy a b q line ⊎ IsHandleNull a b q m line ⊎ HasMatched a b q m cap line

-- what a command comes to
abbrev pub HasTried : ProcessView → ProcessView → Command → ℕ → Step → Type 0
HasTried a b (command.Send to q tag ctx sync body) line step =
    (step ≡ Took) × HasTriedSend a b q to tag ctx body sync line
HasTried a b (command.Recv q from tag ctx cap) line step =
    (step ≡ Took) × HasTriedReceive a b q from tag ctx cap line
HasTried a b (command.Wait q) line step = HasTriedWait a b q line step
HasTried a b (command.Test q) line step = (step ≡ Took) × HasTriedTest a b q line
HasTried a b (command.Probe from tag ctx) line step =
    (step ≡ Took) × HasProbed a b from tag ctx line
HasTried a b (command.Await from tag ctx) line step = HasTriedAwait a b from tag ctx line step
HasTried a b (command.Cancel q) line step =
    (step ≡ Took) × (IsNull a b q line ⊎ HasCancelled a b q line)
HasTried a b (command.Mprobe m from tag ctx) line step =
    (step ≡ Took) × HasTriedMprobe a b m from tag ctx line
HasTried a b (command.Mrecv q m cap) line step = (step ≡ Took) × HasTriedMrecv a b q m cap line
