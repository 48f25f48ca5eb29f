-- What each call makes happen is what a rank may do by itself.
use Rattle.std.proofs.Common.{◌≡◌, ℕ, ◌+◌, ◌≤◌, Bool, true, false, cond, Option, Some, None, List, []}
use Rattle.std.proofs.Common.{◌∷◌, ◌++◌, length, refl, sym, ◌∙◌, ap, subst, arith}
use Rattle.std.specs.Prelude.{IfSome, nat_lt}
use Rattle.std.specs.List.{slice_get}
use Rattle.std.proofs.lemmas.Bool.{true≢false}
use Rattle.std.proofs.lemmas.Bool.Decides.{nat_tests}
use Rattle.nm_types.specs.declared.answers.Answer.{Answer}
use Rattle.nm_types.specs.declared.answers.Answer.TheVariants.{Got}
use Rattle.nm_types.specs.declared.limits.TheConstants.{MAX_BODY, MAX_TAG}
use Rattle.nm_types.specs.declared.messages.Arrival.{Arrival}
use Rattle.nm_types.specs.declared.messages.How.TheVariants.{Ask, Eager}
use Rattle.nm_types.specs.declared.scripts.Body.{Body}
use Rattle.nm_types.specs.Bodies.{body_len, bytes_of}
use Rattle.nm_types.specs.Commands.{Numbered}
use Rattle.nm_history.specs.declared.events.Event.{Event}
use Rattle.nm_history.specs.declared.events.Happened.{Happened}
use Rattle.nm_history.specs.declared.events.Happened.TheVariants.{Ran, Recall}
use Rattle.nm_history.specs.AtEach.{AtEachAfter}
use Rattle.nm_history.specs.Delivery.{is_asked}
use Rattle.nm_history.specs.Happens.{happened, is_recall}
use Rattle.nm_history.specs.RankRun.{how_of}
use Rattle.nm_history.specs.Sends.{Sent, is_ask, sends}
use Rattle.nm_history.specs.Clearance.{pushed_out, to_push}
use Rattle.nm_history.specs.Clock.{stamped}
use Rattle.nm_history.specs.Effects.{whole_if}
use Rattle.nm_history.specs.Known.{Known, known_by}
use Rattle.nm_history.proofs.Basic.{on_test}
use Rattle.nm_receiving.specs.Receipts.{is_empty_ask, taken_events}
use Rattle.nm_request.specs.declared.Kind.{Kind}
use Rattle.nm_request.specs.declared.Kind.TheVariants as kind
use Rattle.nm_sending.specs.Sent.{outs}
use Rattle.nm_channels.specs.Moments.{LogEntry, history_of, taken_from}
use Rattle.nm_channels.specs.Moments.Cause.{Acted}
use Rattle.nm_channels.specs.Sound.{IsSendable, MadeBy, OwnEvent}
use Rattle.nm_rank.specs.Ranks.{RankView, known_from}
use Rattle.nm_rank.specs.Requests.{cancel_events}
use Rattle.nm_global.specs.Calls.{AnswersLogged}
use Rattle.nm_global.specs.Logged.{HasTaken}

-- an eager message is not longer than the limit, and none is longer than a body may be
how_short : (limit eager len : ℕ) (sync : Bool) → limit ≡ eager → len ≤ MAX_BODY →
    len ≤ cond (is_ask (how_of limit sync len)) MAX_BODY eager
how_short limit eager len true same short = short
how_short limit eager len false same short = by_length (nat_lt limit len) refl where
  by_length : (b : Bool) → nat_lt limit len ≡ b → len ≤ cond (is_ask (cond b Ask Eager)) MAX_BODY eager
  by_length true is = short
  by_length false is = let small : len ≤ limit = grind (arith, nat_tests) in omega (arith, same)

pub send_made : (eager : ℕ) (bodies : Sent → List ℕ) (v : RankView) (s : Sent) (body : Body) (sync : Bool) →
    v.sizes.eager ≡ eager → s.tag ≤ MAX_TAG → body_len body ≤ MAX_BODY → s.len ≡ body_len body →
    s.how ≡ how_of v.sizes.eager sync (body_len body) → bodies s ≡ bytes_of body →
    length (bytes_of body) ≡ body_len body → IsSendable eager bodies s
send_made eager bodies v s body sync limit tagged short len_is how_is same sized =
    record {
      short = rw how_is (rw len_is (how_short v.sizes.eager eager (body_len body) sync limit short));
      tagged = tagged;
      sized = ap (λ (bytes : List ℕ). length bytes) same ∙ sized ∙ sym len_is;
    }

-- each of these happenings is what a rank may do by itself
abbrev AreOwn : ℕ → (Sent → List ℕ) → List Numbered → List LogEntry → List Event → ℕ → List Happened → Type 0
AreOwn eager bodies commands log h clock ws =
    AtEachAfter (λ h e. OwnEvent eager bodies commands log h e.stamp e.what) h (stamped clock ws)

-- what follows where a receive takes a message
follows_made : (eager : ℕ) (bodies : Sent → List ℕ) (commands : List Numbered) (log : List LogEntry)
    (h : List Event) (clock : ℕ) (o : Option Arrival) →
    AreOwn eager bodies commands log h clock (taken_events o)
follows_made eager bodies commands log h clock None = tt
follows_made eager bodies commands log h clock (Some a) = by_whole (is_empty_ask a) where
  by_whole : (b : Bool) → AreOwn eager bodies commands log h clock (whole_if b a.env.from a.n)
  by_whole true = (tt, tt)
  by_whole false = tt

pub receive_made : (eager : ℕ) (bodies : Sent → List ℕ) (commands : List Numbered) (log : List LogEntry)
    (clock : ℕ) (w : Happened) (o : Option Arrival) →
    OwnEvent eager bodies commands log (history_of log) (clock + 1) w →
    MadeBy eager bodies commands log Acted (stamped clock (w ∷ taken_events o))
receive_made eager bodies commands log clock w o own = (
  own,
  follows_made eager bodies commands log
      (history_of log ++ record { stamp = clock + 1; what = w } ∷ []) (clock + 1) o,
)

pub cancel_made : (eager : ℕ) (bodies : Sent → List ℕ) (commands : List Numbered) (log : List LogEntry)
    (h : List Event) (clock : ℕ) (k : Kind) →
    MadeBy eager bodies commands log Acted (stamped clock (cancel_events h k))
cancel_made eager bodies commands log h clock (kind.Receive number) = (tt, tt)
cancel_made eager bodies commands log h clock (kind.Send to n) = by_recall (happened (is_recall to n) h) where
  by_recall : (b : Bool) →
      MadeBy eager bodies commands log Acted (stamped clock (cond b [] (Recall to n ∷ [])))
  by_recall true = tt
  by_recall false = (tt, tt)

pub answer_made : (eager : ℕ) (bodies : Sent → List ℕ) (commands : List Numbered) (log : List LogEntry)
    (h : List Event) (clock line : ℕ) (answer : Answer) → h ≡ history_of log →
    AnswersLogged commands log h line answer →
    MadeBy eager bodies commands log Acted (stamped clock (Ran line answer ∷ []))
answer_made eager bodies commands log h clock line answer same shows =
    (by_answer answer (subst (λ (k : List Event). AnswersLogged commands log k line answer) same shows), tt)
  where
    by_answer : (answer : Answer) → AnswersLogged commands log (history_of log) line answer →
        OwnEvent eager bodies commands log (history_of log) (clock + 1) (Ran line answer)
    by_answer (Got from tag body) shows = shows
    by_answer answer shows = tt

pub packet_leaves_made : (eager : ℕ) (bodies : Sent → List ℕ) (commands : List Numbered)
    (log : List LogEntry) (h : List Event) (clock : ℕ) (left : Option (ℕ × ℕ)) → h ≡ history_of log →
    IfSome left (λ m. is_asked (sends h m.0) m.1 ≡ false) →
    MadeBy eager bodies commands log Acted (stamped clock (outs left))
packet_leaves_made eager bodies commands log h clock None same eager_one = tt
packet_leaves_made eager bodies commands log h clock (Some m) same eager_one = (
  on_test (is_asked (sends (history_of log) m.0) m.1) (λ asked.
      absurd (true≢false (sym asked
      ∙ ap (λ (k : List Event). is_asked (sends k m.0) m.1) (sym same)
      ∙ eager_one))),
  tt,
)

-- this message is the next one to a rank in the order of the clearances
abbrev IsInTurn : List Event → Known → ℕ × ℕ → Type 0
IsInTurn h known m = slice_get (to_push h known m.0) (length (pushed_out h m.0)) ≡ Some m.1

pub piece_leaves_made : (eager : ℕ) (bodies : Sent → List ℕ) (commands : List Numbered)
    (log : List LogEntry) (v : RankView) (left : Option (ℕ × ℕ)) → v.events ≡ history_of log →
    HasTaken v log →
    IfSome left (λ m. IsInTurn v.events (known_from v.known m.0) m) →
    MadeBy eager bodies commands log Acted (stamped v.clock (outs left))
piece_leaves_made eager bodies commands log v None same taken next = tt
piece_leaves_made eager bodies commands log v (Some m) same taken next = (
  on_test (is_asked (sends (history_of log) m.0) m.1) (λ asked.
      subst (λ (h : List Event). IsInTurn h (known_by (taken_from m.0 log)) m) same
      (subst (λ (known : Known). IsInTurn v.events known m) (taken.known m.0) next)),
  tt,
)
