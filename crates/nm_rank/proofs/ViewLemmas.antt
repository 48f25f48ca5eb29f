-- What contracts see of a rank, which has no room in it.
use Rattle.std.proofs.Common.{◌≡◌, ℕ, ◌+◌, List, [], ◌∷◌, ◌++◌, length, refl, sym, ◌∙◌, ap, subst, append-nil, arith}
use Rattle.std.specs.Prelude.{if◌then◌else◌, ◌==◌, Option, Some, None}
use Rattle.nm_types.specs.declared.messages.How.{How}
use Rattle.nm_types.specs.declared.scripts.Body.{Body}
use Rattle.nm_types.specs.Bodies.{bytes_of}
use Rattle.nm_history.specs.declared.events.Event.{Event}
use Rattle.nm_history.specs.declared.events.Happened.{Happened}
use Rattle.nm_history.specs.declared.events.Happened.TheVariants as event
use Rattle.nm_history.specs.Outgoing.{Called, packets_by, send_packets}
use Rattle.nm_history.specs.Sends.{Sent, is_ask}
use Rattle.nm_history.specs.Clock.{stamped}
use Rattle.nm_request.specs.declared.Req.{Req}
use Rattle.nm_request.specs.declared.Kind.{Kind}
use Rattle.nm_request.specs.declared.Kind.TheVariants as kind
use Rattle.nm_request.specs.Requests.{Live, AddsRequest, SameRequests}
use Rattle.nm_sending.specs.Departures.{SendingView}
use Rattle.nm_sending.specs.Sent.{Puts}
use Rattle.nm_rank.specs.Calls.{Happens, Starts, TakesNone, called_by, eager_sent}
use Rattle.nm_rank.specs.Journals.{JournalView}
use Rattle.nm_types.specs.Sizes.{Sizes}
use Rattle.nm_history.specs.Known.{Known}
use Rattle.nm_receiving.specs.Receipts.{ReceivingView}
use Rattle.nm_rank.specs.Ranks.{RankView, roomless, seen}
use Rattle.nm_rank.proofs.PutLemmas.{puts-same, send-leaves}

pub adds-roomless : (q q' q'' : Live) (x : Req) (k : Kind) → SameRequests q q'
    → AddsRequest q' q'' x k
    → AddsRequest (record q { spare = 0 }) (record q'' { spare = 0 }) x k
adds-roomless q q' q'' x k same a =
    let b = subst (λ (p : Live). AddsRequest p q'' x k) same.requests a in
    record {
      turn = b.turn;
      counted = b.counted;
      live = b.live;
      others = b.others;
      room = omega arith;
    }

pub puts-roomless : (f : ℕ → List Called) (ends : Option ℕ) (stamp : ℕ) (s s' s'' : SendingView)
    → s' ≡ record s { outbox = record s.outbox { spare = s'.outbox.spare } }
    → Puts f ends stamp s'.outbox s''.outbox
    → Puts f ends stamp (roomless s).outbox (roomless s'').outbox
puts-roomless f ends stamp s s' s'' e p =
    let b = subst (λ (u : SendingView). Puts f ends stamp u.outbox s''.outbox) e p in
    record {
      added = b.added;
      letters = b.letters;
      carried = b.carried;
      stamps = b.stamps;
      left = b.left;
      popped = b.popped;
      me = b.me;
    }

-- one event alone calls for its packets
pub puts-one : (bodies : Sent → List ℕ) (h : List Event) (c stamp : ℕ) (w : Happened) (ends : Option ℕ)
    (s s' : SendingView)
    → Puts (λ to. packets_by bodies to h (c + 1) w) ends stamp s.outbox s'.outbox
    → Puts (λ to. called_by bodies to h (stamped c (w ∷ []))) ends stamp s.outbox s'.outbox
puts-one bodies h c stamp w ends s s' p = puts-same _ _ ends stamp s.outbox s'.outbox
    (λ to. sym (append-nil (packets_by bodies to h (c + 1) w))) p

-- what was made room for is the same but for its room
pub same-events : (j j' : JournalView) → j' ≡ record j { spare = j'.spare } → j'.events ≡ j.events
same-events j j' e = ap (λ (x : JournalView). x.events) e

pub same-clock : (j j' : JournalView) → j' ≡ record j { spare = j'.spare } → j'.clock ≡ j.clock
same-clock j j' e = ap (λ (x : JournalView). x.clock) e

-- what was pushed plays no part in making room
pub same-pushed : (s s' : SendingView)
    → s' ≡ record s { outbox = record s.outbox { spare = s'.outbox.spare } } → s'.pushed ≡ s.pushed
same-pushed s s' e = ap (λ (x : SendingView). x.pushed) e

pub same-offers : (s s' : SendingView)
    → s' ≡ record s { outbox = record s.outbox { spare = s'.outbox.spare } } → s'.offers ≡ s.offers
same-offers s s' e = ap (λ (x : SendingView). x.offers) e

pub starts : (bodies : Sent → List ℕ) (v v' : RankView) (ws : List Happened) (k : Kind) (x : Req)
    → Happens bodies v.clock ws v v' → AddsRequest v.requests v'.requests x k → TakesNone v v'
    → Starts bodies ws k v v' x
starts bodies v v' ws k x h a t = record { happened = h; request = a; takes = t }

-- a send calls for the same packets where its body is the same
body-same : (bodies : Sent → List ℕ) (body : Body) (s : Sent) (h : List Event)
    → bodies s ≡ bytes_of body → (other : ℕ)
    → packets_by (λ s. bytes_of body) other h s.stamp
    (event.Send s.to s.n s.tag s.ctx s.len s.how s.line)
    ≡ packets_by bodies other h s.stamp (event.Send s.to s.n s.tag s.ctx s.len s.how s.line)
body-same bodies body s h same other =
    ap (λ (bytes : List ℕ). if s.to == other then send_packets s bytes else []) (sym same)

-- what a send that was started is
pub starts-send : (bodies : Sent → List ℕ) (body : Body) (me : ℕ) (sizes : Sizes) (j j' j'' : JournalView)
    (s s' s'' : SendingView) (r : ReceivingView) (known : List Known) (q q' q'' : Live)
    (took pulled : List ℕ) (strays : ℕ)
    (to n tag ctx len line stamp : ℕ) (how how' : How) (x : Req) (n' len' : ℕ)
    → bodies (record {
      stamp = j.clock + 1;
      to = to;
      n = n';
      tag = tag;
      ctx = ctx;
      len = len';
      how = how';
      line = line;
    }) ≡ bytes_of body
    → j' ≡ record j { spare = j'.spare }
    → s' ≡ record s { outbox = record s.outbox { spare = s'.outbox.spare } }
    → SameRequests q q'
    → j''.events ≡ j'.events ++ stamped j'.clock (event.Send to n tag ctx len how line ∷ [])
    → j''.clock ≡ j'.clock + 1 → stamp ≡ j'.clock + 1
    → Puts (λ other. packets_by (λ s. bytes_of body) other j.events stamp
    (event.Send to n tag ctx len' how line))
    (if is_ask how then None else Some n) stamp s'.outbox s''.outbox
    → s''.pushed ≡ s'.pushed
    → AddsRequest q' q'' x (kind.Send to n)
    → n ≡ n' → len ≡ len' → how ≡ how'
    → Starts bodies (event.Send to n' tag ctx len' how' line ∷ []) (kind.Send to n')
    (seen me sizes j s r known q took pulled strays)
    (seen me sizes j'' s'' r known q'' took pulled strays) x
starts-send bodies body me sizes j j' j'' s s' s'' r known q q' q'' took pulled strays to n tag ctx len line stamp
    how how' x n' len' same ej es eq e c st p pushed adds en el eh =
    let h : j'.events ≡ j.events = same-events j j' ej in
    let t : j'.clock ≡ j.clock = same-clock j j' ej in
    let events : j''.events ≡ j.events ++ stamped j.clock (event.Send to n' tag ctx len' how' line ∷ []) =
    rw (← h, ← t, ← en, ← el, ← eh) e in
    let clock : j''.clock ≡ j.clock + 1 = rw (← t) c in
    let at : stamp ≡ j.clock + 1 = rw (← t) st in
    starts bodies (seen me sizes j s r known q took pulled strays)
    (seen me sizes j'' s'' r known q'' took pulled strays)
    (event.Send to n' tag ctx len' how' line ∷ []) (kind.Send to n') x
    (record {
      events = events;
      clock = clock;
      packets = subst
          (λ (ends : Option ℕ). Puts (λ other. called_by bodies other j.events
          (stamped j.clock (event.Send to n' tag ctx len' how' line ∷ []))) ends j''.clock
          (roomless s).outbox (roomless s'').outbox)
          (send-leaves to n' tag ctx len' line how')
          (puts-roomless _ _ j''.clock s s' s'' es
          (puts-one bodies j.events j.clock j''.clock (event.Send to n' tag ctx len' how' line) _ s' s''
          (puts-same _ _ _ j''.clock s'.outbox s''.outbox
          (body-same bodies body (record {
            stamp = j.clock + 1;
            to = to;
            n = n';
            tag = tag;
            ctx = ctx;
            len = len';
            how = how';
            line = line;
          }) j.events same)
          (rw (clock, ← at, ← en, ← eh) p))));
      pushed = pushed ∙ same-pushed s s' es;
    })
    (subst (λ (k : ℕ). AddsRequest (record q { spare = 0 }) (record q'' { spare = 0 }) x (kind.Send to k)) en
    (adds-roomless q q' q'' x (kind.Send to n) eq adds))
    (record {
      me = refl;
      sizes = refl;
      known = refl;
      took = refl;
      pulled = refl;
      drawn = refl;
      streams = refl;
      bytes = λ a. refl;
      strays = refl;
    })

-- what happened where room was made before
pub happens-room : (bodies : Sent → List ℕ) (me : ℕ) (sizes : Sizes) (j j' j'' : JournalView)
    (s s' s'' : SendingView) (r r' : ReceivingView) (known : List Known) (q q' : Live)
    (took pulled : List ℕ) (strays : ℕ) (ws : List Happened)
    → j' ≡ record j { spare = j'.spare }
    → s' ≡ record s { outbox = record s.outbox { spare = s'.outbox.spare } }
    → j''.events ≡ j'.events ++ stamped j'.clock ws
    → j''.clock ≡ j'.clock + length ws
    → eager_sent ws ≡ None
    → Puts (λ to. called_by bodies to j'.events (stamped j'.clock ws)) None j''.clock s'.outbox s''.outbox
    → s''.pushed ≡ s'.pushed
    → Happens bodies j.clock ws (seen me sizes j s r known q took pulled strays)
    (seen me sizes j'' s'' r' known q' took pulled strays)
happens-room bodies me sizes j j' j'' s s' s'' r r' known q q' took pulled strays ws ej es e c none p pushed =
    let h : j'.events ≡ j.events = same-events j j' ej in
    let t : j'.clock ≡ j.clock = same-clock j j' ej in
    record {
      events = rw (← h, ← t) e;
      clock = rw (← t) c;
      packets = rw none (puts-roomless _ None j''.clock s s' s'' es (rw (← h, ← t) p));
      pushed = pushed ∙ same-pushed s s' es;
    }
