-- So it is with what left the rank, and what it took.
use Rattle.std.proofs.Common.{◌≡◌, ℕ, ◌==◌, Bool, true, false, cond, Option, Some, None, List, [], ◌∷◌, ◌++◌, length, take, refl}
use Rattle.std.proofs.Common.{sym, ap, subst, ◌∙◌, append-nil}
use Rattle.std.specs.Prelude.{IfSome, nat_lt, option_and_then}
use Rattle.std.specs.List.{AllByRecursion, cons_option, filter, filter_map, find}
use Rattle.std.specs.Option.{option_map_or}
use Rattle.nm_types.specs.declared.answers.Answer.{Answer}
use Rattle.nm_types.specs.declared.answers.Answer.TheVariants as answer
use Rattle.nm_types.specs.declared.scripts.Body.{Body}
use Rattle.nm_types.specs.declared.scripts.Command.{Command}
use Rattle.nm_types.specs.declared.scripts.Command.TheVariants as command
use Rattle.nm_types.specs.Commands.{Numbered, command_at}
use Rattle.nm_types.specs.Sizes.{Sizes}
use Rattle.nm_types.proofs.OptionLemmas.{if_some}
use Rattle.nm_history.specs.declared.events.Event.{Event}
use Rattle.nm_history.specs.declared.events.Happened.{Happened}
use Rattle.nm_history.specs.declared.events.Happened.TheVariants.{Out, Ran, Send}
use Rattle.nm_history.specs.declared.plain.Pair.{Pair}
use Rattle.nm_history.specs.Completion.{Request}
use Rattle.nm_history.specs.Delivery.{asked_pair, pair_of_request}
use Rattle.nm_history.specs.Outgoing.{AreCalled, AreCalledPieces, Called, CalledPiece, message_pieces, outgoing, packets_by}
use Rattle.nm_history.specs.Outgoing.{pieces_by, ring, send_packets, send_pieces}
use Rattle.nm_history.specs.Sends.{Sent, is_ask, sends, sent_body, sent_bytes, sent_of}
use Rattle.nm_channels.specs.Moments.{EachMoment, EachMomentAfter, LogEntry, history_of}
use Rattle.nm_channels.specs.Moments.Cause.{Acted, Drew, Took}
use Rattle.nm_channels.specs.Moments.{Cause}
use Rattle.nm_channels.specs.Sound.{IsSendable, MadeBy, MayHappen, OwnEvent, bytes_of_message}
use Rattle.nm_rndv.specs.Offers.{state_of}
use Rattle.nm_sending.specs.Departures.{cleared_to}
use Rattle.nm_sending.specs.Letters.{packets_for}
use Rattle.nm_rndv.specs.declared.asked.State.{State}
use Rattle.nm_rndv.specs.declared.asked.State.TheVariants.{Asked, Cleared}
use Rattle.nm_rank.specs.Ranks.{RankView}
use Rattle.nm_global.specs.Emitted.{ArePacketsLeft, ArePiecesLeft, AreOffered, Emitted, IsBody, IsEmitted, IsOffered, begun}
use Rattle.nm_global.specs.Emitted.{begun_of, first_of, popped_in, sent_in}
use Rattle.nm_global.specs.ProcessInvariant.{GhostHistory, IsOf}
use Rattle.nm_process.specs.Work.{are_below, line_of}
use Rattle.nm_calls.proofs.Below.{after_low, low_back, low_both, low_first, low_front, low_rest, turn_low}
use Rattle.nm_calls.proofs.Later.{SameBelow, found, lives}

module _ (b : ℕ) (xs ys : List Numbered) (same : SameBelow b xs ys) where
  abbrev IsLowSend : Sent → Type 0
  IsLowSend s = nat_lt s.line b ≡ true

  -- the sends of such a history
  lows : (h : List Event) → are_below b h ≡ true →
      AllByRecursion IsLowSend (filter_map (λ e. sent_of e.stamp e.what) h)
  lows [] low = tt
  lows (e ∷ h) low = by e.what (low_first b e h low) (lows h (low_rest b e h low)) where
    by : (w : Happened) → nat_lt (line_of w) b ≡ true →
        AllByRecursion IsLowSend (filter_map (λ (e : Event). sent_of e.stamp e.what) h) →
        AllByRecursion IsLowSend
        (cons_option (sent_of e.stamp w) (filter_map (λ (e : Event). sent_of e.stamp e.what) h))
    by (Send to n tag ctx len how line) here rest = (here, rest)
    by w here rest = rest

  filtered : (p : Sent → Bool) (ss : List Sent) → AllByRecursion IsLowSend ss → AllByRecursion IsLowSend (filter p ss)
  filtered p [] all = tt
  filtered p (s ∷ ss) all = by (p s) (filtered p ss all.1) where
    by : (t : Bool) → AllByRecursion IsLowSend (filter p ss) →
        AllByRecursion IsLowSend (cond t (s ∷ filter p ss) (filter p ss))
    by true rest = (all.0, rest)
    by false rest = rest

  one_found : (p : Sent → Bool) (ss : List Sent) → AllByRecursion IsLowSend ss → IfSome (find p ss) IsLowSend
  one_found p [] all = tt
  one_found p (s ∷ ss) all = by (p s) (one_found p ss all.1) where
    by : (t : Bool) → IfSome (find p ss) IsLowSend → IfSome (cond t (Some s) (find p ss)) IsLowSend
    by true rest = all.0
    by false rest = rest

  sends_low : (h : List Event) (to : ℕ) → are_below b h ≡ true → AllByRecursion IsLowSend (sends h to)
  sends_low h to low = filtered (λ s. s.to == to) (filter_map (λ e. sent_of e.stamp e.what) h) (lows h low)

  body_same : (s : Sent) → IsLowSend s → sent_body xs s ≡ sent_body ys s
  body_same s low = ap (λ (o : Option Command). option_map_or sent_bytes o []) (found b xs ys same s.line low)

  pieces_same : (o : Option Sent) → IfSome o IsLowSend →
      option_map_or (send_pieces (sent_body xs)) o [] ≡ option_map_or (send_pieces (sent_body ys)) o []
  pieces_same None low = refl
  pieces_same (Some s) low =
      ap (λ (body : List ℕ). cond (is_ask s.how) (message_pieces s body) []) (body_same s low)

  -- what is called for
  packets_at : (to : ℕ) (before : List Event) (e : Event) → are_below b before ≡ true →
      nat_lt (line_of e.what) b ≡ true →
      packets_by (sent_body xs) to before e.stamp e.what ≡ packets_by (sent_body ys) to before e.stamp e.what
  packets_at to before e past here = by e.what here where
    by : (w : Happened) → nat_lt (line_of w) b ≡ true →
        packets_by (sent_body xs) to before e.stamp w ≡ packets_by (sent_body ys) to before e.stamp w
    by (Send to' n tag ctx len how line) here =
        let s : Sent = record {
          stamp = e.stamp;
          to = to';
          n = n;
          tag = tag;
          ctx = ctx;
          len = len;
          how = how;
          line = line;
        } in
        ap (λ (body : List ℕ). cond (to' == to) (send_packets s body) []) (body_same s here)
    by w here = refl

  pieces_at : (to : ℕ) (before : List Event) (e : Event) → are_below b before ≡ true →
      nat_lt (line_of e.what) b ≡ true →
      pieces_by (sent_body xs) to before e.what ≡ pieces_by (sent_body ys) to before e.what
  pieces_at to before e past here = by e.what where
    by : (w : Happened) → pieces_by (sent_body xs) to before w ≡ pieces_by (sent_body ys) to before w
    by (Out to' n) =
        ap (λ (ps : List CalledPiece). cond (to' == to) ps [])
        (pieces_same (find (λ s. s.n == n) (sends before to))
        (one_found (λ s. s.n == n) (sends before to) (sends_low before to past)))
    by w = refl

  outgoing_same : (h : List Event) (to : ℕ) → are_below b h ≡ true →
      outgoing (sent_body xs) h to ≡ outgoing (sent_body ys) h to
  outgoing_same h to low =
      turn_low b (λ before e. packets_by (sent_body xs) to before e.stamp e.what)
      (λ before e. packets_by (sent_body ys) to before e.stamp e.what) (packets_at to) h low

  ring_same : (h : List Event) (to : ℕ) → are_below b h ≡ true → ring (sent_body xs) h to ≡ ring (sent_body ys) h to
  ring_same h to low =
      turn_low b (λ before e. pieces_by (sent_body xs) to before e.what)
      (λ before e. pieces_by (sent_body ys) to before e.what) (pieces_at to) h low

  begun_same : (ss : List Sent) → AllByRecursion IsLowSend ss → (state : ℕ → Option State) (o : Option ℕ) →
      begun_of (sent_body xs) ss state o ≡ begun_of (sent_body ys) ss state o
  begun_same ss low state None = refl
  begun_same ss low state (Some n) =
      ap (λ (ps : List CalledPiece). take (popped_in (state n)) ps)
      (pieces_same (sent_in ss n) (one_found (λ s. s.n == n) ss low))

  -- what is offered
  bodied : (ss : List Sent) → AllByRecursion IsLowSend ss → (n : ℕ) (body : Body) → IsBody (sent_body xs) ss n body →
      IsBody (sent_body ys) ss n body
  bodied ss low n body is = record {
    s = is.s;
    sent = is.sent;
    asked = is.asked;
    bytes = is.bytes
        ∙ body_same is.s (if_some IsLowSend (sent_in ss n) is.s is.sent (one_found (λ s. s.n == n) ss low));
    len = is.len;
  }

  offered_so : (ss : List Sent) → AllByRecursion IsLowSend ss → (cleared : List ℕ) (first : Option ℕ) (n : ℕ)
      (o : Option State) → IsOffered (sent_body xs) ss cleared first n o → IsOffered (sent_body ys) ss cleared first n o
  offered_so ss low cleared first n (Some (Asked body)) is = (bodied ss low n body is.0, is.1)
  offered_so ss low cleared first n (Some (Cleared cut)) is = (bodied ss low n cut.body is.0, is.1, is.2)
  offered_so ss low cleared first n o is = tt

  -- what left the rank
  emitted : (v : RankView) (to : ℕ) (left : Emitted) → are_below b v.events ≡ true →
      IsEmitted (sent_body xs) v to left → IsEmitted (sent_body ys) v to left
  emitted v to left low is =
      let ss = sends_low v.events to low in
      let one = is.packets in
      let two = is.pieces in
      let state = state_of v.sending.offers to in
      let cleared = cleared_to v.sending to in
      record {
        packets = record {
          called = subst (λ (cs : List Called). AreCalled v.me 0 cs
              (left.packets ++ packets_for to v.sending.outbox.letters)) (outgoing_same v.events to low) one.called;
          early = one.early;
          popped = one.popped;
          place = one.place;
          own = one.own;
        };
        pieces = record {
          called = subst (λ (cs : List CalledPiece). AreCalledPieces v.me 0 cs left.pieces)
              (ap (λ (cs : List CalledPiece). cs ++ begun (sent_body xs) v to) (ring_same v.events to low)
              ∙ ap (λ (cs : List CalledPiece). ring (sent_body ys) v.events to ++ cs)
              (begun_same (sends v.events to) ss state (first_of state cleared))) two.called;
          pushed = two.pushed;
          place = two.place;
          known = two.known;
          offered = record {
            states = λ n. offered_so (sends v.events to) ss cleared (first_of state cleared) n (state n)
                (two.offered.states n);
            sent = two.offered.sent;
          };
          eager = two.eager;
        };
      }

  -- what happened at each moment
  pair_same : (h : List Event) → are_below b h ≡ true → (c : Command) → asked_pair xs h c ≡ asked_pair ys h c
  pair_same h low (command.Wait q) = ap (λ (o : Option Request). option_and_then (pair_of_request h) o) (lives b xs ys same h low q)
  pair_same h low (command.Test q) = ap (λ (o : Option Request). option_and_then (pair_of_request h) o) (lives b xs ys same h low q)
  pair_same h low c = refl

  shown_same : (h : List Event) (line : ℕ) → are_below b h ≡ true → nat_lt line b ≡ true →
      option_and_then (asked_pair xs h) (command_at xs line) ≡ option_and_then (asked_pair ys h) (command_at ys line)
  shown_same h line past here =
      ap (λ (o : Option Command). option_and_then (asked_pair xs h) o) (found b xs ys same line here)
      ∙ by (command_at ys line) where
        by : (o : Option Command) → option_and_then (asked_pair xs h) o ≡ option_and_then (asked_pair ys h) o
        by None = refl
        by (Some c) = pair_same h past c

  own_event : (eager : ℕ) (log : List LogEntry) (h : List Event) (stamp : ℕ) (w : Happened) → are_below b h ≡ true →
      nat_lt (line_of w) b ≡ true → OwnEvent eager (sent_body xs) xs log h stamp w →
      OwnEvent eager (sent_body ys) ys log h stamp w
  own_event eager log h stamp (Send to n tag ctx len how line) past here is =
      let s : Sent = record {
        stamp = stamp;
        to = to;
        n = n;
        tag = tag;
        ctx = ctx;
        len = len;
        how = how;
        line = line;
      } in
      record {
        short = is.short;
        tagged = is.tagged;
        sized = subst (λ (body : List ℕ). length body ≡ len) (body_same s here) is.sized;
      }
  own_event eager log h stamp (Ran line (answer.Got source tag body)) past here is =
      subst (λ (o : Option Pair). IfSome o (λ pair. body ≡ bytes_of_message log pair.arrival.env.from pair.arrival.n))
      (shown_same h line past here) is
  own_event eager log h stamp w past here is = is

  made_by : (eager : ℕ) (before : List LogEntry) (cause : Cause) (events : List Event) →
      are_below b (history_of before) ≡ true → are_below b events ≡ true →
      MadeBy eager (sent_body xs) xs before cause events → MadeBy eager (sent_body ys) ys before cause events
  made_by eager before Acted events past low is =
      after_low b (λ h e. OwnEvent eager (sent_body xs) xs before h e.stamp e.what)
      (λ h e. OwnEvent eager (sent_body ys) ys before h e.stamp e.what)
      (λ h e early here. own_event eager before h e.stamp e.what early here) (history_of before) events past low is
  made_by eager before (Took t) events past low is = is
  made_by eager before (Drew d) events past low is = is

  history_low : (before : List LogEntry) (m : LogEntry) → are_below b (history_of before) ≡ true →
      are_below b m.events ≡ true → are_below b (history_of (before ++ m ∷ [])) ≡ true
  history_low [] m past low = low_both b m.events [] low refl
  history_low (k ∷ before) m past low =
      low_both b k.events (history_of (before ++ m ∷ [])) (low_front b k.events (history_of before) past)
      (history_low before m (low_back b k.events (history_of before) past) low)

  moments : (eager : ℕ) (before log : List LogEntry) → are_below b (history_of before) ≡ true →
      are_below b (history_of log) ≡ true → EachMomentAfter (MayHappen eager (sent_body xs) xs) before log →
      EachMomentAfter (MayHappen eager (sent_body ys) ys) before log
  moments eager before [] past low each = tt
  moments eager before (m ∷ log) past low each =
      let here = low_front b m.events (history_of log) low in (
        record {
          made = made_by eager before m.cause m.events past here each.0.made;
          stamped = each.0.stamped;
        },
        moments eager (before ++ m ∷ []) log (history_low before m past here)
            (low_back b m.events (history_of log) low) each.1,
      )

  -- and so with its place in the run
  pub of_later : (shape : Sizes) (i : ℕ) (v : RankView) (past : GhostHistory) → are_below b v.events ≡ true →
      IsOf shape xs i v past → IsOf shape ys i v past
  of_later shape i v past low is =
      let l = is.logged in
      record {
        me = is.me;
        logged = record {
          sound = moments shape.eager [] past.log refl
              (subst (λ (h : List Event). are_below b h ≡ true) l.events low) l.sound;
          limit = l.limit;
          events = l.events;
          clock = l.clock;
          counts = l.counts;
          taken = l.taken;
          bytes = l.bytes;
          requests = l.requests;
        };
        left = λ to within. emitted v to (past.left to) low (is.left to within);
      }
