-- A result that shows a message shows the body of its send.
use Rattle.std.proofs.Common.{◌≡◌, ℕ, zero, suc, ◌<◌, ◌≤◌, Bool, true, false, cond, Option, None, Some, List, []}
use Rattle.std.proofs.Common.{◌∷◌, ◌++◌, length, refl, sym, ◌∙◌, ap, subst, append-nil, length-append, arith}
use Rattle.std.specs.Prelude.{IfSome, IsSomeAnd, nat_lt, option_and_then, replicate, slice_get}
use Rattle.std.specs.List.{AllByRecursion}
use Rattle.std.specs.Option.{option_map_or}
use Rattle.std.proofs.lemmas.List.{length-replicate}
use Rattle.std.proofs.lemmas.List.Elements.{All-from_recursion, recursion_from_All}
use Rattle.std.proofs.lemmas.Option.{slice_get_within}
use Rattle.nm_types.specs.declared.answers.Answer.{Answer}
use Rattle.nm_types.specs.declared.answers.Answer.TheVariants as answer
use Rattle.nm_types.specs.declared.messages.Arrival.{Arrival}
use Rattle.nm_types.specs.declared.messages.Envelope.{Envelope}
use Rattle.nm_types.specs.declared.packets.Packet.{Packet}
use Rattle.nm_types.specs.declared.scripts.Body.{Body}
use Rattle.nm_types.specs.Bodies.{bytes_of}
use Rattle.nm_history.specs.declared.events.Event.{Event}
use Rattle.nm_history.specs.declared.plain.Pair.{Pair}
use Rattle.nm_history.specs.Answers.{without_bytes}
use Rattle.nm_history.specs.AtEach.{AtEach}
use Rattle.nm_history.specs.Completion.{Request, is_complete, is_here, pair_of_receive, result_of, shown as shown_of}
use Rattle.nm_history.specs.Completion.Request.{Receiving, Sending}
use Rattle.nm_history.specs.Delivery.{ArriveInOrder, pair_of_request}
use Rattle.nm_history.specs.Happens.{happened, is_cancel, is_undone}
use Rattle.nm_history.specs.Matching.{is_of_receive, matched_pairs}
use Rattle.nm_history.specs.Outgoing.{AreCalled, outgoing}
use Rattle.nm_history.specs.Sends.{Sent, arrivals, envelope, is_ask, message_of, messages, sends}
use Rattle.nm_history.proofs.OnceLemmas.{find_among}
use Rattle.nm_history.specs.Bytes.{eager_bytes, piece_bytes}
use Rattle.nm_history.specs.Continues.{WORN_STAMP}
use Rattle.nm_history.specs.Known.{nothing_known}
use Rattle.nm_history.specs.Pieces.{Pulled}
use Rattle.nm_history.specs.Rules.{AreRight, IsRightAt}
use Rattle.nm_history.proofs.Right.{right-numbers}
use Rattle.nm_request.specs.declared.Kind.{Kind}
use Rattle.nm_request.specs.declared.Req.{Req}
use Rattle.nm_request.specs.Requests.{kind_of}
use Rattle.nm_sending.specs.Letters.{packets_for}
use Rattle.nm_receiving.proofs.Facts.{Is_named, right_named}
use Rattle.nm_receiving.proofs.Lists.{some_from}
use Rattle.nm_rank.specs.Ranks.{IsFresh, RankView, request_of}
use Rattle.nm_rank.specs.Requests.{Finishes, IsResult, pair_with}
use Rattle.nm_channels.specs.Moments.{LogEntry, history_of, pulled_from, taken_from}
use Rattle.nm_channels.specs.Sound.{bytes_of_message}
use Rattle.nm_channels.proofs.Cutting.{sends_sized, sized_at}
use Rattle.nm_channels.proofs.Delivering.{sender_right}
use Rattle.nm_channels.proofs.Granting.{last_of}
use Rattle.nm_channels.proofs.Numbers.{SentBefore, arrivals_sent, messages_sent, pairs_came}
use Rattle.nm_global.specs.Calls.{ShowsLogged}
use Rattle.nm_multi.specs.declared.calls.Call.TheVariants.{Finish}
use Rattle.nm_multi.specs.declared.calls.Reply.TheVariants.{Ended}
use Rattle.nm_multi.specs.Acts.{ShowsBody}
use Rattle.nm_multi.specs.Moves.{IsAlone}
use Rattle.nm_multi.specs.Standing.{AreBodies, DeskInvariant}
use Rattle.nm_multi.proofs.SoFar.{CameSoFar, came_so_far}
use Rattle.nm_types.proofs.ListLemmas.{all_along}
use Rattle.nm_types.proofs.OptionLemmas.{some_and}

-- the body of each send, by its number
abbrev pub bodies_by : List Body → Sent → List ℕ
bodies_by sent s = option_map_or bytes_of (slice_get sent s.n) []

pub are_by : (sent : List Body) → AreBodies (bodies_by sent) sent
are_by sent s body at = ap (λ (o : Option Body). option_map_or bytes_of o []) at

-- a result that shows a message is that of a receive that has one, of this length
record IsPaired (h : List Event) (q : Request) (size : ℕ) : Type 0 where
  pair : Pair
  found : pair_of_request h q ≡ Some pair
  long : size ≡ pair.arrival.env.len

same_long : (m n : ℕ) → replicate {A = ℕ} m 0 ≡ replicate {A = ℕ} n 0 → m ≡ n
same_long m n same =
    sym (length-replicate {A = ℕ} m 0) ∙ ap (λ (xs : List ℕ). length xs) same ∙ length-replicate {A = ℕ} n 0

got_pair : (h : List Event) (q : Request) (from tag : ℕ) (body : List ℕ) →
    Some (without_bytes (answer.Got from tag body)) ≡ result_of h q → IsPaired h q (length body)
got_pair h (Sending to n) from tag body is =
    absurd (by (is_complete h (Sending to n)) (happened (is_undone to n true) h) is)
  where
    by : (b done : Bool) → Some (without_bytes (answer.Got from tag body))
        ≡ cond b (Some (cond done answer.Cancelled answer.Sent)) None → ⊥
    by true true e = cc
    by true false e = cc
    by false done e = cc
got_pair h (Receiving number) from tag body is =
    by (happened (is_cancel number) h) (pair_of_receive h number) refl is
  where
    by_here : (pair : Pair) → pair_of_receive h number ≡ Some pair → (here cut : Bool) →
        Some (without_bytes (answer.Got from tag body))
        ≡ cond here (Some (cond cut (answer.Cut pair.arrival.env.from pair.arrival.env.tag pair.arrival.env.len)
        (answer.Got pair.arrival.env.from pair.arrival.env.tag (replicate pair.arrival.env.len 0)))) None →
        IsPaired h (Receiving number) (length body)
    by_here pair at true true e = absurd (clash e) where
      clash : ◌≡◌ {A = Option Answer} (Some (without_bytes (answer.Got from tag body)))
          (Some (answer.Cut pair.arrival.env.from pair.arrival.env.tag pair.arrival.env.len)) → ⊥
      clash e = cc
    by_here pair at true false e =
        let zeros : replicate {A = ℕ} (length body) 0 ≡ replicate {A = ℕ} pair.arrival.env.len 0 = cc in
        record { pair = pair; found = at; long = same_long (length body) pair.arrival.env.len zeros }
    by_here pair at false cut e = absurd (clash e) where
      clash : ◌≡◌ {A = Option Answer} (Some (without_bytes (answer.Got from tag body))) None → ⊥
      clash e = cc

    by : (cancelled : Bool) (o : Option Pair) → pair_of_receive h number ≡ o →
        Some (without_bytes (answer.Got from tag body))
        ≡ cond cancelled (Some answer.Cancelled)
        (option_and_then (λ pair. cond (is_here h pair) (Some (shown_of pair)) None) o) →
        IsPaired h (Receiving number) (length body)
    by true o at e = absurd (clash e) where
      clash : ◌≡◌ {A = Option Answer} (Some (without_bytes (answer.Got from tag body))) (Some answer.Cancelled) → ⊥
      clash e = cc
    by false None at e = absurd (clash e) where
      clash : ◌≡◌ {A = Option Answer} (Some (without_bytes (answer.Got from tag body))) None → ⊥
      clash e = cc
    by false (Some pair) at e =
        by_here pair at (is_here h pair) (nat_lt pair.cap pair.arrival.env.len) e

-- the message of a pair is that of the send of its number
record IsSent (h : List Event) (pair : Pair) : Type 0 where
  own : pair.arrival.env.from ≡ 0
  named : message_of h 0 pair.arrival.n ≡ Some pair.arrival
  send : Sent
  at : slice_get (sends h 0) pair.arrival.n ≡ Some send
  number : send.n ≡ pair.arrival.n
  same : pair.arrival.env ≡ envelope 0 send

among : (P : Arrival → Type 0) (h : List Event) (number : ℕ) (pair : Pair) → AllByRecursion P (messages h) →
    pair_of_receive h number ≡ Some pair → P pair.arrival
among P h number pair each found =
    find_among (λ (pair : Pair). P pair.arrival) (is_of_receive number) (matched_pairs h) pair
    (All-from_recursion (λ (pair : Pair). P pair.arrival) (matched_pairs h) (pairs_came P h each)) found

pair_sent : (ranks : ℕ) (h : List Event) (q : Request) (pair : Pair) → ranks ≡ 1 → AreRight ranks [] h →
    ArriveInOrder 0 (sends h 0) (arrivals h 0) → pair_of_request h q ≡ Some pair → IsSent h pair
pair_sent ranks h (Sending to n) pair one right in_order found = absurd (clash found) where
  clash : ◌≡◌ {A = Option Pair} None (Some pair) → ⊥
  clash e = cc
pair_sent ranks h (Receiving number) pair one right in_order found =
    let last = last_of h in
    let numbers = right-numbers ranks h right in
    let named = among (Is_named ranks h) h number pair
    (recursion_from_All (Is_named ranks h) (messages h) (right_named ranks h right)) found in
    let sent = among (SentBefore 0 (sends h 0) last.0) h number pair
    (messages_sent 0 last.0 (sends h 0) h last.1 (arrivals_sent ranks 0 0 h h numbers numbers in_order)) found in
    let below = named.1 in
    let own : pair.arrival.env.from ≡ 0 = omega (arith, below, one) in
    let is = sent own in
    record {
      own = own;
      named = ap (λ (k : ℕ). message_of h k pair.arrival.n) (sym own) ∙ named.0;
      send = is.sent;
      at = is.at;
      number = is.number;
      same = is.same;
    }

no_length : (xs : List ℕ) → length xs ≡ 0 → xs ≡ []
no_length [] none = refl
no_length (x ∷ xs) none = absurd (omega (arith, none))

whole_front : (xs ys zs : List ℕ) → xs ++ ys ≡ zs → length xs ≡ length zs → xs ≡ zs
whole_front xs ys zs same long =
    let both = sym (length-append xs ys) ∙ ap (λ (l : List ℕ). length l) same in
    sym (append-nil xs)
    ∙ ap (λ (l : List ℕ). xs ++ l) (sym (no_length ys (omega (arith, both, long)))) ∙ same

-- what a message shows is its body, where it has the length of that
body_is : (bodies : Sent → List ℕ) (log : List LogEntry) (pair : Pair) (body : List ℕ) →
    CameSoFar bodies log → (is : IsSent (history_of log) pair) →
    length (bodies is.send) ≡ is.send.len → pulled_from 0 log ≡ [] →
    body ≡ bytes_of_message log pair.arrival.env.from pair.arrival.n →
    length body ≡ pair.arrival.env.len → body ≡ bodies is.send
body_is bodies log pair body came is sized none shows long = by (is_ask is.send.how) refl here where
  n : ℕ
  n = pair.arrival.n

  pieces : List ℕ
  pieces = piece_bytes n (pulled_from 0 log)

  eager : List ℕ
  eager = eager_bytes n nothing_known (taken_from 0 log)

  here : body ≡ cond (is_ask is.send.how) pieces eager
  here =
      shows ∙ ap (λ (from : ℕ). bytes_of_message log from n) is.own
      ∙ ap (λ (o : Option Arrival). cond (option_map_or (λ a. is_ask a.env.how) o false) pieces eager) is.named
      ∙ ap (λ (env : Envelope). cond (is_ask env.how) pieces eager) is.same

  same_length : length body ≡ length (bodies is.send)
  same_length = long ∙ ap (λ (env : Envelope). env.len) is.same ∙ sym sized

  by : (asked : Bool) → is_ask is.send.how ≡ asked → body ≡ cond asked pieces eager → body ≡ bodies is.send
  by true how shown =
      let nothing : body ≡ [] = shown ∙ ap (λ (ds : List Pulled). piece_bytes n ds) none in
      let short = ap (λ (l : List ℕ). length l) nothing in
      nothing ∙ sym (no_length (bodies is.send) (omega (arith, short, same_length)))
  by false how shown =
      let rest = came.bytes n is.send is.at how in
      shown
      ∙ whole_front eager rest.0 (bodies is.send) rest.1 (ap (λ (l : List ℕ). length l) (sym shown) ∙ same_length)

some_at : (sent : List Body) (k : ℕ) → k < length sent → (b : Body) × (slice_get sent k ≡ Some b)
some_at [] k below = absurd (omega (arith, below))
some_at (b ∷ sent) zero below = (b, refl)
some_at (b ∷ sent) (suc k) below = some_at sent k (omega (arith, below))

-- what came so far of what was sent at a desk
stands_so_far : (sent : List Body) (v : RankView) (st : DeskInvariant sent v) → IsFresh v → IsAlone v →
    AreRight v.sizes.ranks [] (history_of st.past.log) → CameSoFar (bodies_by sent) st.past.log
stands_so_far sent v st fresh alone right =
    let bodies = bodies_by sent in
    let logged = (st.placed bodies (are_by sent)).logged in
    let packets = ((st.placed bodies (are_by sent)).left 0 (omega arith)).packets in
    let more : List Packet = packets_for 0 v.sending.outbox.letters in
    let clock = fresh.clock in
    came_so_far st.eager v.sizes.ranks bodies st.past.log more logged.sound right
    (subst (λ (ps : List Packet). AreCalled 0 0 (outgoing bodies (history_of st.past.log) 0) (ps ++ more))
    (sym (st.even fresh))
    (subst (λ (h : List Event). AreCalled 0 0 (outgoing bodies h 0) ((st.past.left 0).packets ++ more)) logged.events
    (subst (λ (me : ℕ). AreCalled me 0 (outgoing bodies v.events 0) ((st.past.left 0).packets ++ more)) alone.me
    packets.called)))
    (subst (λ (ps : List Packet). AllByRecursion (λ p. p.stamp < WORN_STAMP) (ps ++ more)) (sym (st.even fresh))
    (all_along (λ p. p.stamp ≤ v.clock) (λ p. p.stamp < WORN_STAMP) ((st.past.left 0).packets ++ more)
    (λ p early. omega (arith, early, clock)) packets.early))

right_each : (ranks : ℕ) (h : List Event) → AreRight ranks [] h →
    AtEach (λ before e. IsRightAt ranks before e.what) h
unfolding AtEach
right_each ranks h right = right

got_shown : (sent : List Body) (v : RankView) (r : Req) (k : Kind) (from tag : ℕ) (body : List ℕ)
    (st : DeskInvariant sent v) → IsFresh v → IsAlone v → AreRight v.sizes.ranks [] v.events →
    kind_of v.requests r ≡ Some k → IsResult v (answer.Got from tag body) k →
    ShowsLogged st.past.log v.events k (answer.Got from tag body) →
    IsSomeAnd (pair_with v r)
    (λ pair. IsSomeAnd (slice_get sent pair.arrival.n) (λ b. body ≡ bytes_of b))
got_shown sent v r k from tag body st fresh alone right at is shows =
    let bodies = bodies_by sent in
    let logged = (st.placed bodies (are_by sent)).logged in
    let log = st.past.log in
    let right' : AreRight v.sizes.ranks [] (history_of log) =
    subst (λ (h : List Event). AreRight v.sizes.ranks [] h) logged.events right in
    let came = stands_so_far sent v st fresh alone right' in
    let got = got_pair v.events (request_of k) from tag body is.result in
    let shown : body ≡ bytes_of_message log got.pair.arrival.env.from got.pair.arrival.n =
    subst (λ (o : Option Pair). IfSome o (λ pair. body ≡ bytes_of_message log pair.arrival.env.from pair.arrival.n))
    got.found shows in
    let was = pair_sent v.sizes.ranks (history_of log) (request_of k) got.pair alone.one right' came.in_order
    (ap (λ (h : List Event). pair_of_request h (request_of k)) (sym logged.events) ∙ got.found) in
    let each = sender_right st.eager v.sizes.ranks bodies [] log logged.sound
    (right_each v.sizes.ranks (history_of log) right') in
    let sized = sized_at bodies (sends (history_of log) 0) got.pair.arrival.n was.send
    (sends_sized st.eager bodies 0 (history_of log) each) was.at in
    let whole = body_is bodies log got.pair body came was sized st.pieces shown got.long in
    let place = slice_get_within (sends (history_of log) 0) got.pair.arrival.n was.send was.at in
    let many = ap (λ (h : List Event). length (sends h 0)) (sym logged.events) ∙ st.many in
    let b = some_at sent got.pair.arrival.n (omega (arith, place, many)) in
    some_from (λ pair. IsSomeAnd (slice_get sent pair.arrival.n) (λ b. body ≡ bytes_of b)) (pair_with v r) got.pair
    (ap (λ (o : Option Kind). option_and_then (λ k. pair_of_request v.events (request_of k)) o) at ∙ got.found)
    (some_from (λ b. body ≡ bytes_of b) (slice_get sent got.pair.arrival.n) b.0 b.1
    (whole ∙ ap (λ (k : ℕ). option_map_or bytes_of (slice_get sent k) []) was.number
    ∙ ap (λ (o : Option Body). option_map_or bytes_of o []) b.1))

pub shows_body : (sent : List Body) (v v' : RankView) (r : Req) (a : Answer) (st : DeskInvariant sent v) → IsFresh v →
    IsAlone v → AreRight v.sizes.ranks [] v.events → Finishes r a v v' →
    ((k : Kind) → kind_of v.requests r ≡ Some k → ShowsLogged st.past.log v.events k a) →
    ShowsBody sent v (Finish r) (Ended a)
shows_body sent v v' r (answer.Got from tag body) st fresh alone right ends shows =
    let k = some_and (IsResult v (answer.Got from tag body)) (kind_of v.requests r) ends.gives in
    got_shown sent v r k.0 from tag body st fresh alone right k.1 k.2 (shows k.0 k.1)
shows_body sent v v' r a st fresh alone right ends shows = tt
