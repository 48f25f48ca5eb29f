-- A result that shows a message shows the body of its send.
use Rattle.std.proofs.Common.{◌≡◌, ℕ, suc, ◌+◌, ◌==◌, true, false, ◌&&◌, ◌||◌, Option, Some, None, List, [], ◌∷◌}
use Rattle.std.proofs.Common.{◌++◌, length, map, refl, sym, ◌∙◌, ap, subst, append-nil, append_assoc}
use Rattle.std.specs.Prelude.{IfSome, IsSomeAnd, option_and_then}
use Rattle.std.specs.Option.{option_map_or}
use Rattle.std.specs.List.{AllByRecursion, AllZip, cons_option, list_any, slice_get}
use Rattle.std.proofs.lemmas.List.Elements.{All-from_recursion}
use Rattle.nm_types.specs.declared.answers.Answer.{Answer}
use Rattle.nm_types.specs.declared.answers.Answer.TheVariants as answer
use Rattle.nm_types.specs.declared.messages.Arrival.{Arrival}
use Rattle.nm_types.specs.declared.messages.Envelope.{Envelope}
use Rattle.nm_types.specs.declared.packets.Piece.{Piece}
use Rattle.nm_types.specs.declared.scripts.Command.{Command}
use Rattle.nm_types.specs.declared.scripts.Command.TheVariants as command
use Rattle.nm_types.specs.Commands.{Numbered, command_at}
use Rattle.nm_history.specs.declared.events.Event.{Event}
use Rattle.nm_history.specs.declared.events.Happened.{Happened}
use Rattle.nm_history.specs.declared.events.Happened.TheVariants.{Ran, Whole}
use Rattle.nm_history.specs.declared.plain.Pair.{Pair}
use Rattle.nm_history.specs.Sends.{Sent, sends, is_ask, messages, message_of, arrival_of, sent_body, sent_bytes}
use Rattle.nm_history.specs.Happens.{happened, is_whole}
use Rattle.nm_history.specs.Matching.{matched_pairs, is_of_receive}
use Rattle.nm_history.specs.Completion.{Request, is_here}
use Rattle.nm_history.specs.Completion.Request.{Sending, Receiving}
use Rattle.nm_history.specs.Answers.{live, answer_of, without_bytes}
use Rattle.nm_history.specs.Delivery.{BodyAt, ShowsBytes, asked_pair, pair_of_request}
use Rattle.nm_history.specs.Outgoing.{CalledPiece, AreCalledPieces}
use Rattle.nm_history.specs.RankRun.{Always, AnswerAt, WholeAt}
use Rattle.nm_history.proofs.AtEachLemmas.{AtEach-split, AtEach-from_splits}
use Rattle.nm_history.proofs.OnceLemmas.{find_among}
use Rattle.nm_history.specs.Effects.{happenings}
use Rattle.nm_history.specs.Pieces.{Pulled, Due, count_continued}
use Rattle.nm_channels.specs.Moments.{LogEntry, history_of, EachMomentAfter}
use Rattle.nm_history.proofs.Basic.{self_true, on_test}
use Rattle.nm_channels.proofs.Numbers.{SentBefore, pairs_came, send_at}
use Rattle.nm_channels.proofs.Granting.{same_sent}
use Rattle.nm_channels.proofs.Cutting.{Matches}
use Rattle.nm_channels.proofs.Arriving.{own_none, arrivals_in}
use Rattle.nm_channels.proofs.Over.{messages-append, Found, found_at}
use Rattle.nm_channels.proofs.Shown.{answer_here, IsCommanded, SendsTo}
use Rattle.nm_channels.proofs.AnswerMoments.{OwnMoment}
use Rattle.nm_channels.proofs.Recalls.{all_at}
use Rattle.nm_history.specs.Underway.{is_answer}
use Rattle.std.proofs.lemmas.List.Folds.{list_any-append}
use Rattle.nm_history.proofs.Sent.{happened-append}
use Rattle.nm_types.proofs.TruthLemmas.{or_left, both, or_right, and_left, and_right}
use Rattle.nm_types.proofs.NumberLemmas.{same_number}
use Rattle.nm_types.proofs.ListLemmas.{find_passes, find_some, front_empty}
use Rattle.nm_history.proofs.EachLemmas.{pieces_count as called_count}

-- the rest of a sound log
pub sound_rest : (R : List LogEntry → LogEntry → Type 0) (before xs ys : List LogEntry) → EachMomentAfter R before
    (xs ++ ys) → EachMomentAfter R (before ++ xs) ys
sound_rest R before [] ys sound = subst (λ (l : List LogEntry). EachMomentAfter R l ys) (sym (append-nil before)) sound
sound_rest R before (x ∷ xs) ys sound = subst (λ (l : List LogEntry). EachMomentAfter R l ys)
    (append_assoc before (x ∷ []) xs) (sound_rest R (before ++ x ∷ []) xs ys sound.1)

-- a message is whole once
pub whole_once : (i n : ℕ) (h early late : List Event) → Always WholeAt h → h ≡ early ++ late →
    happened (is_whole i n) early ≡ true → happened (is_whole i n) late ≡ true → true ≡ false
whole_once i n h early late wholes split first second = by_found (found_at (is_whole i n) late second) where
  by_what : (b : List Event) (w : Happened) → WholeAt b w → is_whole i n w ≡ true → happened (is_whole i n) b ≡ true →
      true ≡ false
  by_what b (Whole from m) right is was =
      let from_i : from ≡ i = same_number from i (and_left (from == i) (m == n) is) in
      let m_n : m ≡ n = same_number m n (and_right (from == i) (m == n) is) in
      sym was ∙ ap (λ (k : ℕ). happened (is_whole k n) b) (sym from_i) ∙ ap (λ (k : ℕ). happened (is_whole from k) b)
      (sym m_n) ∙ right.0
  by_what b w right is was = cc

  by_found : Found (is_whole i n) late → true ≡ false
  by_found found =
      let at : h ≡ (early ++ found.before) ++ found.event ∷ found.after = split
      ∙ ap (λ (k : List Event). early ++ k) found.split
      ∙ sym (append_assoc early found.before (found.event ∷ found.after)) in
      by_what (early ++ found.before) found.event.what
      (AtEach-split (λ before e. WholeAt before e.what) (early ++ found.before) found.event found.after
      (subst (λ (k : List Event). Always WholeAt k) at wholes)) found.passes
      (happened-append (is_whole i n) early found.before ∙ or_left _ _ first)

-- pieces that are called for, in two parts
pub record CalledParts (i num : ℕ) (cs : List CalledPiece) (xs ys : List Piece) : Type 0 where
  pub first : List CalledPiece
  pub second : List CalledPiece
  pub split : cs ≡ first ++ second
  pub before : AreCalledPieces i num first xs
  pub after : (k : ℕ) × AreCalledPieces i k second ys

pub called_parts : (i num : ℕ) (cs : List CalledPiece) (xs ys : List Piece) → AreCalledPieces i num cs (xs ++ ys) →
    CalledParts i num cs xs ys
called_parts i num cs [] ys called = record {
  first = [];
  second = cs;
  split = refl;
  before = tt;
  after =
      (num, called);
}
called_parts i num [] (x ∷ xs) ys called = absurd called
called_parts i num (c ∷ cs) (x ∷ xs) ys called =
    let rest = called_parts i (num + 1) cs xs ys called.1 in
    record {
      first = c ∷ rest.first;
      second = rest.second;
      split = ap (λ (k : List CalledPiece). c ∷ k) rest.split;
      before = (called.0, rest.before);
      after = rest.after;
    }

-- and the dues that they match
pub record ZipParts (first second : List CalledPiece) (dues : List Due) : Type 0 where
  pub past : List Due
  pub rest : List Due
  pub split : dues ≡ past ++ rest
  pub count : length past ≡ length first
  pub later : AllZip Matches second rest

pub zip_parts : (first second : List CalledPiece) (dues : List Due) → AllZip Matches (first ++ second) dues →
    ZipParts first second dues
zip_parts [] second dues zip = record { past = []; rest = dues; split = refl; count = refl; later = zip }
zip_parts (c ∷ first) second [] zip = absurd zip
zip_parts (c ∷ first) second (d ∷ dues) zip =
    let rest = zip_parts first second dues zip.1 in
    record {
      past = d ∷ rest.past;
      rest = rest.rest;
      split = ap (λ (ds : List Due). d ∷ ds) rest.split;
      count =
          ap (λ (k : ℕ). suc k) rest.count;
      later = rest.later;
    }

map_count : (ds : List Pulled) → length (map (λ d. d.piece) ds) ≡ length ds
map_count [] = refl
map_count (d ∷ ds) = ap (λ (k : ℕ). suc k) (map_count ds)

all_count : (ds : List Pulled) → AllByRecursion (λ d. d.continued ≡ true) ds → count_continued ds ≡ length ds
all_count [] goes = refl
all_count (d ∷ ds) goes = rw goes.0 (ap (λ (k : ℕ). suc k) (all_count ds goes.1))

-- as many pieces came as were called for
pub pieces_count : (i num : ℕ) (cs : List CalledPiece) (ds : List Pulled) → AreCalledPieces i num cs
    (map (λ d. d.piece) ds) → AllByRecursion (λ d. d.continued ≡ true) ds → length cs ≡ count_continued ds
pieces_count i num cs ds called goes = called_count i num cs (map (λ d. d.piece) ds) called ∙ map_count ds
    ∙ sym (all_count ds goes)

-- how a message was sent that came
pub message_how : (i n stamp : ℕ) (ss : List Sent) (s : Sent) (h : List Event) →
    AllByRecursion (SentBefore i ss stamp) (messages h) → slice_get ss n ≡ Some s →
    list_any (λ a. a.env.from == i && a.n == n) (messages h) ≡ true →
    option_map_or (λ a. is_ask a.env.how) (message_of h i n) false ≡ is_ask s.how
message_how i n stamp ss s h sent at came =
    let found = find_some (λ (a : Arrival). a.env.from == i && a.n == n) (messages h) came in
    let a : Arrival = found.0 in
    let passes = find_passes (λ (a : Arrival). a.env.from == i && a.n == n) (messages h) a found.1 in
    let number : a.n ≡ n = same_number a.n n (and_right (a.env.from == i) (a.n == n) passes) in
    let is = find_among (SentBefore i ss stamp) (λ (a : Arrival). a.env.from == i && a.n == n) (messages h) a
    (All-from_recursion (SentBefore i ss stamp) (messages h) sent) found.1
    (same_number a.env.from i (and_left (a.env.from == i) (a.n == n) passes)) in
    ap (λ (o : Option Arrival). option_map_or (λ a. is_ask a.env.how) o false) found.1
    ∙ ap (λ (env : Envelope). is_ask env.how) is.same ∙ ap (λ (s : Sent). is_ask s.how)
    (same_sent ss n a.n s is.sent number at is.at)

-- the pair that a wait or a test shows is one of the pairs
pub asked_among : (P : Pair → Type 0) (commands : List Numbered) (h : List Event) (c : Command) (pair : Pair) →
    AllByRecursion P (matched_pairs h) → asked_pair commands h c ≡ Some pair → P pair
asked_among P commands h c pair each asked = by_kind c asked where
  by_live : (o : Option Request) → option_and_then (pair_of_request h) o ≡ Some pair → P pair
  by_live None asked = cc
  by_live (Some (Sending to n)) asked = cc
  by_live (Some (Receiving number)) asked = find_among P (is_of_receive number) (matched_pairs h) pair
      (All-from_recursion P (matched_pairs h) each) asked

  by_kind : (c : Command) → asked_pair commands h c ≡ Some pair → P pair
  by_kind (command.Wait q) asked = by_live (live commands h q) asked
  by_kind (command.Test q) asked = by_live (live commands h q) asked
  by_kind c asked = cc

-- the messages of pairs came
came_each : (before as' : List Arrival) →
    AllByRecursion (λ (a : Arrival). list_any (λ b. b.env.from == a.env.from && b.n == a.n) (before ++ as') ≡ true) as'
came_each before [] = tt
came_each before (a ∷ as') = (
  list_any-append (λ (b : Arrival). b.env.from == a.env.from && b.n == a.n) before (a ∷ as')
      ∙ or_right (list_any (λ b. b.env.from == a.env.from && b.n == a.n) before) _
      (or_left (a.env.from == a.env.from && a.n == a.n) _
      (both (a.env.from == a.env.from) (a.n == a.n) (self_true a.env.from) (self_true a.n))),
  subst (λ (all : List Arrival). AllByRecursion
      (λ (a : Arrival). list_any (λ b. b.env.from == a.env.from && b.n == a.n) all ≡ true) as')
      (append_assoc before (a ∷ []) as') (came_each (before ++ a ∷ []) as'),
)

pub pair_came : (h : List Event) →
    AllByRecursion (λ (pair : Pair). list_any (λ b. b.env.from == pair.arrival.env.from && b.n == pair.arrival.n)
    (messages h) ≡ true) (matched_pairs h)
pair_came h = pairs_came (λ (a : Arrival). list_any (λ b. b.env.from == a.env.from && b.n == a.n) (messages h) ≡ true)
    h (came_each [] (messages h))

pub messages_in : (events : List Event) → messages events ≡ arrivals_in (happenings events)
messages_in [] = refl
messages_in (e ∷ events) = ap (λ (as' : List Arrival). cons_option (arrival_of e.what) as') (messages_in events)

-- within a moment of its own a rank takes no message in
pub own_messages : (eager : ℕ) (bodies : Sent → List ℕ) (commands : List Numbered) (log : List LogEntry)
    (h : List Event) (e : Event) (own : OwnMoment eager bodies commands log h e) →
    messages h ≡ messages (history_of own.before)
own_messages eager bodies commands log h e own =
    let none : messages own.moment.events ≡ [] = messages_in own.moment.events
    ∙ own_none eager bodies commands own.before (history_of own.before) own.moment.events own.made in
    let early : messages own.early ≡ [] = front_empty (messages own.early) (messages (e ∷ own.late))
    (sym (messages-append own.early (e ∷ own.late)) ∙ ap messages (sym own.events) ∙ none) in
    ap messages own.first ∙ messages-append (history_of own.before) own.early
    ∙ ap (λ (as' : List Arrival). messages (history_of own.before) ++ as') early
    ∙ append-nil (messages (history_of own.before))

-- a send's line is that of its command
pub command_of_send : (commands : List Numbered) (h : List Event) (j n : ℕ) (s : Sent) →
    AllByRecursion (λ e. IsCommanded commands e.what) h → slice_get (sends h j) n ≡ Some s →
    IsSomeAnd (command_at commands s.line) (SendsTo s.to)
command_of_send commands h j n s each at =
    let found = send_at h j n s at in
    subst (λ (w : Happened). IsCommanded commands w) found.0.what
    (all_at (λ e. IsCommanded commands e.what) found.0.before found.0.event found.0.after
    (subst (λ (k : List Event). AllByRecursion (λ e. IsCommanded commands e.what) k) found.0.split each))

-- the bytes that came are shown
pub shows : (i j : ℕ) (ci cj : List Numbered) (hi hj : List Event) → AllByRecursion (λ e. IsCommanded ci e.what) hi →
    Always (AnswerAt cj) hj →
    ((h : List Event) (e : Event) (after : List Event) → hj ≡ h ++ e ∷ after → is_answer e.what ≡ true →
    (pair : Pair) (c : Command) → asked_pair cj h c ≡ Some pair → pair.arrival.env.from ≡ i → is_here h pair ≡ true →
    (line source tag : ℕ) (body : List ℕ) → e.what ≡ Ran line (answer.Got source tag body) →
    command_at cj line ≡ Some c → (s : Sent) × (slice_get (sends hi j) pair.arrival.n ≡ Some s)
    × (body ≡ sent_body ci s)) →
    Always (BodyAt i ci (sends hi j) cj) hj
shows i j ci cj hi hj commanded answers given = AtEach-from_splits
    (λ before e. BodyAt i ci (sends hi j) cj before e.what) hj (λ h e after split.
    by_what h e after split e.what refl (AtEach-split (λ before e. AnswerAt cj before e.what) h e after
    (subst (λ (k : List Event). Always (AnswerAt cj) k) split answers)))
  where
    by_bytes : (body : List ℕ) (s : Sent) (o : Option Command) → IsSomeAnd o (SendsTo s.to) →
        body ≡ option_map_or sent_bytes o [] → IsSomeAnd o (λ c. body ≡ sent_bytes c)
    by_bytes body s None is same = absurd is
    by_bytes body s (Some c) is same = same

    by_pair : (h : List Event) (e : Event) (after : List Event) → hj ≡ h ++ e ∷ after →
        (line source tag : ℕ) (body : List ℕ) → e.what ≡ Ran line (answer.Got source tag body) →
        (c : Command) → command_at cj line ≡ Some c →
        answer_of cj h line c ≡ Some (without_bytes (answer.Got source tag body)) →
        (o : Option Pair) → asked_pair cj h c ≡ o → IfSome o (ShowsBytes i ci (sends hi j) body)
    by_pair h e after split line source tag body is c at answered None asked = tt
    by_pair h e after split line source tag body is c at answered (Some pair) asked =
        on_test (pair.arrival.env.from == i) (λ test.
        let here : is_here h pair ≡ true = answer_here cj h line c source tag _ pair answered asked in
        let shown = given h e after split (ap is_answer is) pair c asked (same_number pair.arrival.env.from i test)
        here line source tag body is at in
        subst (λ (o : Option Sent). IsSomeAnd o (λ s. IsSomeAnd (command_at ci s.line) (λ c. body ≡ sent_bytes c)))
        (sym shown.1)
        (by_bytes body shown.0 (command_at ci shown.0.line)
        (command_of_send ci hi j pair.arrival.n shown.0 commanded shown.1) shown.2))

    by_command : (h : List Event) (e : Event) (after : List Event) → hj ≡ h ++ e ∷ after →
        (line source tag : ℕ) (body : List ℕ) → e.what ≡ Ran line (answer.Got source tag body) →
        (o : Option Command) → command_at cj line ≡ o →
        IsSomeAnd o (λ c. answer_of cj h line c ≡ Some (without_bytes (answer.Got source tag body))) →
        IfSome (option_and_then (asked_pair cj h) o) (ShowsBytes i ci (sends hi j) body)
    by_command h e after split line source tag body is None at answered = tt
    by_command h e after split line source tag body is (Some c) at answered = by_pair h e after split line source tag
        body is c at answered (asked_pair cj h c) refl

    by_answer : (h : List Event) (e : Event) (after : List Event) → hj ≡ h ++ e ∷ after → (line : ℕ) (a : Answer) →
        e.what ≡ Ran line a → AnswerAt cj h (Ran line a) → BodyAt i ci (sends hi j) cj h (Ran line a)
    by_answer h e after split line (answer.Got source tag body) is answered = by_command h e after split line source
        tag body is (command_at cj line) refl answered
    by_answer h e after split line a is answered = tt

    by_what : (h : List Event) (e : Event) (after : List Event) → hj ≡ h ++ e ∷ after → (w : Happened) → e.what ≡ w →
        AnswerAt cj h w → BodyAt i ci (sends hi j) cj h w
    by_what h e after split (Ran line a) is answered = by_answer h e after split line a is answered
    by_what h e after split w is answered = tt
