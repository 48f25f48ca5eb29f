-- The packets that a receive calls for.
use Rattle.std.proofs.Common.{◌≡◌, ℕ, ◌+◌, ◌≤◌, Bool, true, false, List, [], ◌∷◌, ◌++◌, length, refl, sym, ◌∙◌, subst}
use Rattle.std.proofs.Common.{append-nil, arith}
use Rattle.std.specs.Prelude.{if◌then◌else◌, ◌==◌, ◌&&◌, Option, Some, None, option_map}
use Rattle.std.specs.Option.{option_map_or}
use Rattle.nm_types.specs.Sizes.{Sizes}
use Rattle.nm_types.specs.declared.messages.Arrival.{Arrival}
use Rattle.nm_types.specs.declared.messages.Post as post
use Rattle.nm_types.specs.declared.packets.What.TheVariants as what
use Rattle.nm_history.specs.declared.events.Event.{Event}
use Rattle.nm_history.specs.declared.events.Happened.{Happened}
use Rattle.nm_history.specs.declared.events.Happened.TheVariants as event
use Rattle.nm_history.specs.declared.plain.Pair.{Pair}
use Rattle.nm_history.specs.Matching.{first_message, matched_pairs, pair_of, pair_of_claimed}
use Rattle.nm_history.specs.Outgoing.{Called, clear_packets, bare}
use Rattle.nm_history.specs.Sends.{Sent, is_ask, message_of}
use Rattle.nm_history.specs.Clock.{stamped}
use Rattle.nm_history.specs.Effects.{whole_if}
use Rattle.nm_history.specs.Known.{Known}
use Rattle.nm_rank.specs.Journals.{JournalView}
use Rattle.nm_request.specs.declared.Req.{Req}
use Rattle.nm_request.specs.declared.Kind.TheVariants as kind
use Rattle.nm_request.specs.Requests.{Live, AddsRequest, SameRequests}
use Rattle.nm_sending.specs.Departures.{SendingView}
use Rattle.nm_sending.specs.Sent.{Puts}
use Rattle.nm_receiving.specs.Receipts.{ReceivingView, SameBytes, is_empty_ask, taken_events}
use Rattle.nm_rank.specs.Calls.{Starts, called_by, clearance_of, eager_sent}
use Rattle.nm_rank.specs.Ranks.{RankView, seen}
use Rattle.nm_rank.proofs.PutLemmas.{puts-same, taken-leaves}
use Rattle.nm_rank.proofs.ReceiveLemmas.{then-events}
use Rattle.nm_rank.proofs.ViewLemmas.{adds-roomless, puts-roomless, same-events, same-clock, same-pushed, starts}

-- a message that is here whole calls for nothing
pub whole-calls : (bodies : Sent → List ℕ) (to : ℕ) (h : List Event) (b : Bool) (from n c : ℕ)
    → called_by bodies to h (stamped c (whole_if b from n)) ≡ []
whole-calls bodies to h true from n c = refl
whole-calls bodies to h false from n c = refl

pub swapped : (x y : Bool) (l : List Called)
    → (if x && y then l else []) ≡ (if y then (if x then l else []) else [])
swapped true true l = refl
swapped true false l = refl
swapped false true l = refl
swapped false false l = refl

-- the clearance of the message that a receive took, and nothing after it
clears : (bodies : Sent → List ℕ) (h : List Event) (c stamp to : ℕ) (make : Arrival → Pair)
    → ((a : Arrival) → (make a).arrival ≡ a) → (t : Option Arrival)
    → option_map_or (clear_packets to stamp) (option_map make t) []
    ++ called_by bodies to h (stamped c (taken_events t))
    ≡ clearance_of stamp t to
clears bodies h c stamp to make same None = refl
clears bodies h c stamp to make same (Some a) =
    rw (whole-calls bodies to h (is_empty_ask a) a.env.from a.n c, same a)
    (append-nil (if a.env.from == to && is_ask a.env.how then bare stamp (what.Clear a.n) ∷ [] else [])
    ∙ swapped (a.env.from == to) (is_ask a.env.how) (bare stamp (what.Clear a.n) ∷ []))

pub post-calls : (bodies : Sent → List ℕ) (h : List Event) (c line to : ℕ) (p : post.Post)
    → let t = first_message h (matched_pairs h) p.from p.tag p.ctx in
    called_by bodies to h (stamped c (event.Post p line ∷ taken_events t)) ≡ clearance_of (c + 1) t to
post-calls bodies h c line to p =
    clears bodies (h ++ stamped c (event.Post p line ∷ [])) (c + 1) (c + 1) to (λ a. pair_of p a)
    (λ a. refl) (first_message h (matched_pairs h) p.from p.tag p.ctx)

pub match-calls : (bodies : Sent → List ℕ) (h : List Event) (c number from n cap line to : ℕ)
    → called_by bodies to h
    (stamped c (event.Match number from n cap line ∷ taken_events (message_of h from n)))
    ≡ clearance_of (c + 1) (message_of h from n) to
match-calls bodies h c number from n cap line to =
    clears bodies (h ++ stamped c (event.Match number from n cap line ∷ [])) (c + 1) (c + 1) to
    (λ a. pair_of_claimed number cap a) (λ a. refl) (message_of h from n)

-- what a receive that was started is
pub starts-receive : (bodies : Sent → List ℕ) (me : ℕ) (sizes : Sizes) (j j' j'' j''' : JournalView)
    (s s' s'' : SendingView) (r r' : ReceivingView) (known : List Known) (q q' q'' : Live)
    (took pulled : List ℕ) (strays number : ℕ) (w : Happened) (t : Option Arrival) (x : Req)
    → j' ≡ record j { spare = j'.spare }
    → s' ≡ record s { outbox = record s.outbox { spare = s'.outbox.spare } }
    → SameRequests q q'
    → j''.events ≡ j'.events ++ stamped j'.clock (w ∷ []) → j''.clock ≡ j'.clock + 1
    → j'''.events ≡ j''.events ++ stamped j''.clock (taken_events t)
    → j'''.clock ≡ j''.clock + length (taken_events t)
    → ((called : ℕ) → called ≤ j'''.clock →
    Puts (clearance_of called t) None j'''.clock s'.outbox s''.outbox)
    → s''.pushed ≡ s'.pushed
    → ((ws : List Happened) → eager_sent (w ∷ ws) ≡ eager_sent ws)
    → ((to : ℕ) → called_by bodies to j.events (stamped j.clock (w ∷ taken_events t))
    ≡ clearance_of (j.clock + 1) t to)
    → r'.streams ≡ r.streams → SameBytes r r' → r'.drawn ≡ r.drawn
    → AddsRequest q' q'' x (kind.Receive number)
    → Starts bodies (w ∷ taken_events t) (kind.Receive number)
    (seen me sizes j s r known q took pulled strays)
    (seen me sizes j''' s'' r' known q'' took pulled strays) x
starts-receive bodies me sizes j j' j'' j''' s s' s'' r r' known q q' q'' took pulled strays number w t x
    ej es eq e c e' c' puts pushed none calls streams bytes drawn adds =
    let h : j'.events ≡ j.events = same-events j j' ej in
    let k : j'.clock ≡ j.clock = same-clock j j' ej in
    let events : j'''.events ≡ j'.events ++ stamped j'.clock (w ∷ taken_events t) =
    then-events j' j'' j''' w (taken_events t) e c e' in
    starts bodies (seen me sizes j s r known q took pulled strays)
    (seen me sizes j''' s'' r' known q'' took pulled strays) (w ∷ taken_events t) (kind.Receive number) x
    (record {
      events = rw (← h, ← k) events;
      clock = omega arith;
      packets = rw (none (taken_events t), taken-leaves t)
          (puts-roomless _ None j'''.clock s s' s'' es
          (puts-same _ _ None j'''.clock s'.outbox s''.outbox (λ to. sym (calls to))
          (puts (j.clock + 1) (omega arith))));
      pushed = pushed ∙ same-pushed s s' es;
    })
    (adds-roomless q q' q'' x (kind.Receive number) eq adds)
    (record {
      me = refl;
      sizes = refl;
      known = refl;
      took = refl;
      pulled = refl;
      drawn = drawn;
      streams = streams;
      bytes = bytes;
      strays = refl;
    })

-- the same of a receive whose number and message are said in another way
pub starts-as : (bodies : Sent → List ℕ) (v v' : RankView) (x : Req) (make : ℕ → Happened)
    (number number' : ℕ) (t t' : Option Arrival) → number ≡ number' → t ≡ t'
    → Starts bodies (make number ∷ taken_events t) (kind.Receive number) v v' x
    → Starts bodies (make number' ∷ taken_events t') (kind.Receive number') v v' x
starts-as bodies v v' x make number number' t t' en et s =
    subst (λ (n : ℕ). Starts bodies (make n ∷ taken_events t') (kind.Receive n) v v' x) en
    (subst (λ (u : Option Arrival). Starts bodies (make number ∷ taken_events u) (kind.Receive number) v v' x)
    et s)
