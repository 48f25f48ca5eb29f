-- What two ends owe one another.
use Rattle.std.proofs.Common.{◌≡◌, ℕ, List, length, ◌∙◌, ap, not, subst, sym, ◌==◌, ◌&&◌, ◌∷◌, ◌++◌, [], Bool, Option}
use Rattle.std.proofs.Common.{Some, append_assoc, arith, cond, false, refl}
use Rattle.std.specs.List.{AllByRecursion, AllZip, filter, list_any, slice_get}
use Rattle.nm_types.specs.Sizes.{Sizes}
use Rattle.nm_types.specs.declared.answers.Answer.TheVariants as answer
use Rattle.nm_types.specs.Commands.{Numbered, command_at}
use Rattle.nm_history.specs.Sends.{sends, arrivals, sent_body, Arrived, Sent, messages, is_ask}
use Rattle.nm_history.specs.Delivery.{ArriveInOrder, OutAfterPair, Withdrawals, BodyAt, asked_pair}
use Rattle.nm_history.specs.AtEach.{AtEach}
use Rattle.nm_channels.proofs.Streams.{eager_numbers, completed, StreamContinued, UndoneContinued}
use Rattle.nm_channels.specs.Ends.{AreEnds}
use Rattle.nm_channels.specs.Moments.{LogEntry, history_of, taken_from, pulled_from}
use Rattle.nm_channels.specs.Settled.{AreSettled, RecallAnswered}
use Rattle.nm_history.specs.Known.{nothing_known, known_by}
use Rattle.nm_channels.proofs.Causes.{HasSource, taken_sources}
use Rattle.nm_channels.proofs.Ordered.{withdrawals_in_order, outs_in_order}
use Rattle.nm_history.specs.Quiescence.{EagerOver, AskedOver}
use Rattle.nm_channels.proofs.Wholes.{eager_here, eager_over}
use Rattle.std.proofs.Common.{true}
use Rattle.nm_channels.proofs.Recalls.{carried_go, undone_go, recall_answered, recalls_all, withdrawal_goes}
use Rattle.nm_channels.proofs.Recalls.{answer_goes}
use Rattle.nm_channels.proofs.Recalls.{is_withdrawal, is_answer_to}
use Rattle.nm_channels.proofs.Delivering.{stream_arrives, sender_at, history-append}
use Rattle.nm_channels.proofs.Fresh.{fresh_at}
use Rattle.nm_channels.proofs.Cleared.{ClearContinued, all_continued, clears_go}
use Rattle.nm_channels.proofs.Numbers.{SentAs, arrivals_sent, SentBefore, pairs_came}
use Rattle.nm_channels.proofs.Clearing.{asked_numbers, cleared_are_paired}
use Rattle.nm_channels.proofs.Cutting.{Matches, Sized, pairs_match, pieces_of_all, ring_is, sends_sized, sized_at}
use Rattle.nm_channels.proofs.Granting.{PairsSent, all_sent, granted_numbers}
use Rattle.nm_channels.proofs.Made.{packets_made}
use Rattle.nm_channels.proofs.Over.{asked_out, asked_over, asked_whole, out_taken, pieces_whole, whole_taken}
use Rattle.nm_channels.proofs.Over.{messages-append}
use Rattle.nm_channels.proofs.Pulling.{LastIsWhole, pieces_go}
use Rattle.nm_channels.proofs.Pushing.{all_pushed}
use Rattle.nm_history.specs.Happens.{happened, is_out, is_whole}
use Rattle.nm_history.specs.Matching.{matched_pairs}
use Rattle.nm_history.specs.Outgoing.{CalledPiece, ring}
use Rattle.nm_history.specs.declared.events.Event.{Event}
use Rattle.nm_history.specs.declared.plain.Pair.{Pair}
use Rattle.nm_history.specs.Clearance.{pushed_out, to_push}
use Rattle.nm_history.specs.Effects.{is_empty_send}
use Rattle.nm_history.specs.Pieces.{due_pieces, granted, Pulled, is_granted}
use Rattle.nm_channels.proofs.Bodies.{asked_among, message_how, own_messages, pair_came, shows, whole_once}
use Rattle.nm_channels.proofs.EagerBytes.{eager_all, eager_body_at}
use Rattle.nm_channels.proofs.AnswerMoments.{AnswerIn, OwnMoment, answers_have_moments}
use Rattle.nm_channels.proofs.BytesCame.{eager_came, pieces_came, pulled_around}
use Rattle.nm_channels.proofs.PieceBytes.{all_bytes, granted_distinct, granted_has, numbers_in, piece_bytes-append}
use Rattle.nm_channels.proofs.PieceBytes.{pulled_is_called, ring_bytes}
use Rattle.nm_channels.proofs.Shown.{sends_commanded}
use Rattle.nm_channels.specs.Sound.{OwnEvent, bytes_of_message}
use Rattle.nm_history.proofs.AtEachLemmas.{AtEach-split}
use Rattle.nm_history.proofs.MatchingLemmas.{matched_pairs-append}
use Rattle.nm_history.proofs.OnceLemmas.{one_to_one}
use Rattle.nm_history.specs.Completion.{is_here}
use Rattle.nm_history.specs.RankRun.{Always, WholeAt}
use Rattle.nm_history.specs.declared.events.Happened.{Happened}
use Rattle.nm_history.specs.declared.events.Happened.TheVariants.{Ran}
use Rattle.nm_history.specs.Bytes.{eager_bytes, piece_bytes}
use Rattle.nm_history.specs.Continues.{has}
use Rattle.nm_types.specs.declared.messages.Arrival.{Arrival}
use Rattle.nm_types.specs.declared.messages.Envelope.{Envelope}
use Rattle.nm_types.specs.declared.scripts.Command.{Command}
use Rattle.std.specs.Prelude.{IfSome, option_and_then}
use Rattle.nm_history.proofs.Sent.{happened-append, NumberedFrom, sends_numbered}
use Rattle.nm_types.proofs.NumberLemmas.{eq_true, same_number}
use Rattle.nm_types.proofs.ListLemmas.{all_split, all_along, front_empty}
use Rattle.nm_types.proofs.TruthLemmas.{or_right}

pub messages_settled : (shape : Sizes) (i j : ℕ) (ci cj : List Numbered) (ati atj : ℕ) (li lj : List LogEntry) →
    AreEnds shape i j ci cj ati atj li lj →
    AllByRecursion StreamContinued (taken_from i lj) × ArriveInOrder i (sends (history_of li) j)
    (arrivals (history_of lj) i) × (length (arrivals (history_of lj) i) ≡ length (sends (history_of li) j))
    × (completed nothing_known (taken_from i lj) ≡ eager_numbers (sends (history_of li) j))
messages_settled shape i j ci cj ati atj li lj ends =
    stream_arrives shape.eager i j (sent_body ci) (sent_body cj) cj (history_of li) lj
    (sender_at shape.eager shape.ranks (sent_body ci) ci li ends.sender.sound ends.sender.run.numbers
    ends.sender.run.cancels.made)
    ends.receiver.sound ends.there.packets ends.there.in_time

-- the packets that were taken have their sources
sources_settled : (shape : Sizes) (i j : ℕ) (ci cj : List Numbered) (ati atj : ℕ) (li lj : List LogEntry) →
    AreEnds shape i j ci cj ati atj li lj →
    AllByRecursion (HasSource j (history_of li)) (taken_from i lj) × AllByRecursion (HasSource i (history_of lj))
    (taken_from j li)
sources_settled shape i j ci cj ati atj li lj ends = (
  taken_sources (sent_body ci) i j (history_of li) (taken_from i lj) ends.there.packets,
  taken_sources
      (sent_body cj) j i (history_of lj) (taken_from j li) ends.back.packets,
)

pub withdrawals_settled : (shape : Sizes) (i j : ℕ) (ci cj : List Numbered) (ati atj : ℕ) (li lj : List LogEntry) →
    AreEnds shape i j ci cj ati atj li lj → Withdrawals i j (history_of li) (history_of lj)
withdrawals_settled shape i j ci cj ati atj li lj ends =
    let sources = sources_settled shape i j ci cj ati atj li lj ends in
    withdrawals_in_order shape.eager i j (sent_body ci) (sent_body cj) ci cj li lj ends.sender.sound
    ends.receiver.sound sources.0 sources.1

pub outs_settled : (shape : Sizes) (i j : ℕ) (ci cj : List Numbered) (ati atj : ℕ) (li lj : List LogEntry) →
    AreEnds shape i j ci cj ati atj li lj →
    AtEach (λ before e. OutAfterPair i j (history_of lj) before e.stamp e.what) (history_of li)
outs_settled shape i j ci cj ati atj li lj ends =
    outs_in_order shape.eager i j (sent_body ci) ci li (history_of lj) ends.sender.sound ends.receiver.run.stamps
    (sources_settled shape i j ci cj ati atj li lj ends).1

pub eager_settled : (shape : Sizes) (i j : ℕ) (ci cj : List Numbered) (ati atj : ℕ) (li lj : List LogEntry) →
    AreEnds shape i j ci cj ati atj li lj → EagerOver i j (history_of li) (history_of lj)
eager_settled shape i j ci cj ati atj li lj ends =
    eager_over i j (history_of li) (history_of lj) ends.sender.eager
    (eager_here shape.eager (sent_body cj) cj i lj (sends (history_of li) j) ends.receiver.sound
    (messages_settled shape i j ci cj ati atj li lj ends).3)

undone_settled : (shape : Sizes) (i j : ℕ) (ci cj : List Numbered) (ati atj : ℕ) (li lj : List LogEntry) →
    AreEnds shape i j ci cj ati atj li lj → AllByRecursion UndoneContinued (taken_from j li)
undone_settled shape i j ci cj ati atj li lj ends =
    undone_go i j (history_of li) (history_of lj) (taken_from j li)
    (withdrawals_settled shape i j ci cj ati atj li lj ends).asked
    (sources_settled shape i j ci cj ati atj li lj ends).1
    (carried_go shape.eager i j (sent_body cj) (sent_body ci) ci (history_of lj) li ends.sender.sound
    ends.back.packets ends.back.in_time (fresh_at shape cj atj (history_of lj) ends.receiver.run)
    ends.receiver.run.ends)

pub recalls_settled : (shape : Sizes) (i j : ℕ) (ci cj : List Numbered) (ati atj : ℕ) (li lj : List LogEntry) →
    AreEnds shape i j ci cj ati atj li lj → AllByRecursion (λ e. RecallAnswered j (history_of li) e.what)
    (history_of li)
recalls_settled shape i j ci cj ati atj li lj ends =
    recalls_all j (history_of li) (λ n. recall_answered shape.eager i j n (sent_body ci) (sent_body cj) ci cj li lj
    ends.sender.sound ends.receiver.sound ends.there.packets ends.back.packets
    (all_along StreamContinued (λ t. is_withdrawal n t.packet.what ≡ true → t.continued ≡ true) (taken_from i lj)
    (withdrawal_goes n) (messages_settled shape i j ci cj ati atj li lj ends).0)
    (all_along UndoneContinued (λ t. is_answer_to n t.packet.what ≡ true → t.continued ≡ true) (taken_from j li)
    (answer_goes n) (undone_settled shape i j ci cj ati atj li lj ends)))

-- the two ends, the other way
pub swapped : (shape : Sizes) (i j : ℕ) (ci cj : List Numbered) (ati atj : ℕ) (li lj : List LogEntry) →
    AreEnds shape i j ci cj ati atj li lj → AreEnds shape j i cj ci atj ati lj li
swapped shape i j ci cj ati atj li lj ends = record {
  sender = ends.receiver;
  receiver = ends.sender;
  there =
      ends.back;
  back = ends.there;
}

-- each message of i that arrived at j was sent
pub sent_settled : (shape : Sizes) (i j : ℕ) (ci cj : List Numbered) (ati atj : ℕ) (li lj : List LogEntry) →
    AreEnds shape i j ci cj ati atj li lj →
    AllByRecursion (λ (x : Arrived). SentAs i (sends (history_of li) j) x.stamp x.arrival) (arrivals (history_of lj) i)
sent_settled shape i j ci cj ati atj li lj ends =
    arrivals_sent shape.ranks i j (history_of li) (history_of lj) ends.sender.run.numbers ends.receiver.run.numbers
    (messages_settled shape i j ci cj ati atj li lj ends).1

clears_settled : (shape : Sizes) (i j : ℕ) (ci cj : List Numbered) (ati atj : ℕ) (li lj : List LogEntry) →
    AreEnds shape i j ci cj ati atj li lj → AllByRecursion ClearContinued (taken_from j li)
clears_settled shape i j ci cj ati atj li lj ends =
    clears_go i j (history_of li) (history_of lj) (taken_from j li) ends.receiver.run.stamps
    (sent_settled shape i j ci cj ati atj li lj ends) (sources_settled shape i j ci cj ati atj li lj ends).1
    (carried_go shape.eager i j (sent_body cj) (sent_body ci) ci (history_of lj) li ends.sender.sound
    ends.back.packets ends.back.in_time (fresh_at shape cj atj (history_of lj) ends.receiver.run)
    ends.receiver.run.ends)

-- no packet was a stray
pub packets_settled : (shape : Sizes) (i j : ℕ) (ci cj : List Numbered) (ati atj : ℕ) (li lj : List LogEntry) →
    AreEnds shape i j ci cj ati atj li lj → AllByRecursion (λ t. t.continued ≡ true) (taken_from i lj)
packets_settled shape i j ci cj ati atj li lj ends =
    let other = swapped shape i j ci cj ati atj li lj ends in
    all_continued (taken_from i lj) (messages_settled shape i j ci cj ati atj li lj ends).0
    (undone_settled shape j i cj ci atj ati lj li other) (clears_settled shape j i cj ci atj ati lj li other)

-- what the two ends know of the messages from i to j
record Knows (i j : ℕ) (ci : List Numbered) (li lj : List LogEntry) : Type 0 where
  stamp : ℕ
  sent : AllByRecursion (SentBefore i (sends (history_of li) j) stamp) (messages (history_of lj))
  pairs : PairsSent i (sends (history_of li) j) stamp (matched_pairs (history_of lj))
  numbered : NumberedFrom (λ (s : Sent). s.n) 0 (sends (history_of li) j)
  sized : Sized (sent_body ci) (sends (history_of li) j)
  cleared : (known_by (taken_from j li)).cleared ≡ asked_numbers i (matched_pairs (history_of lj))
  pushed : to_push (history_of li) (known_by (taken_from j li)) j ≡ pushed_out (history_of li) j
  empty : AllByRecursion (λ n. is_empty_send (history_of li) j n ≡ true → happened (is_out j n) (history_of li)
      ≡ true) (known_by (taken_from j li)).cleared

known_settled : (shape : Sizes) (i j : ℕ) (ci cj : List Numbered) (ati atj : ℕ) (li lj : List LogEntry) →
    AreEnds shape i j ci cj ati atj li lj → Knows i j ci li lj
known_settled shape i j ci cj ati atj li lj ends =
    let hi : List Event = history_of li in
    let sent = all_sent i (sends hi j) (history_of lj) (sent_settled shape i j ci cj ati atj li lj ends) in
    let pushed = all_pushed shape.ranks shape.eager (sent_body ci) ci j li ends.sender.sound ends.sender.run.numbers
    ends.sender.run.ends ends.there.cleared in
    let other = swapped shape i j ci cj ati atj li lj ends in
    record {
      stamp = sent.0;
      sent = sent.1;
      pairs = pairs_came (SentBefore i (sends hi j) sent.0) (history_of lj) sent.1;
      numbered = sends_numbered shape.ranks j hi ends.sender.run.numbers;
      sized = sends_sized shape.eager (sent_body ci) j hi
          (sender_at shape.eager shape.ranks (sent_body ci) ci li ends.sender.sound ends.sender.run.numbers
          ends.sender.run.cancels.made);
      cleared = cleared_are_paired (sent_body cj) i j (history_of lj) (taken_from j li) ends.back.packets
          (packets_settled shape j i cj ci atj ati lj li other);
      pushed = pushed.0;
      empty = pushed.1;
    }

-- the pieces that the sender pushes are those of the messages that the receiver paired
ring_numbers : (shape : Sizes) (i j : ℕ) (ci cj : List Numbered) (ati atj : ℕ) (li lj : List LogEntry) →
    AreEnds shape i j ci cj ati atj li lj →
    ring (sent_body ci) (history_of li) j ≡ pieces_of_all (sent_body ci) (sends (history_of li) j)
    (numbers_in (granted (history_of lj) i))
ring_numbers shape i j ci cj ati atj li lj ends =
    let hi : List Event = history_of li in
    let knows = known_settled shape i j ci cj ati atj li lj ends in
    let numbers : pushed_out hi j ≡ numbers_in (granted (history_of lj) i) =
    sym knows.pushed ∙ ap (λ (ns : List ℕ). filter (λ n. not (is_empty_send hi j n)) ns) knows.cleared
    ∙ sym (granted_numbers i j knows.stamp hi (matched_pairs (history_of lj)) knows.numbered knows.pairs) in
    ring_is shape.ranks (sent_body ci) j hi ends.sender.run.numbers ends.sender.run.ends
    ∙ ap (λ (ns : List ℕ). pieces_of_all (sent_body ci) (sends hi j) ns) numbers

-- and those that are due
ring_settled : (shape : Sizes) (i j : ℕ) (ci cj : List Numbered) (ati atj : ℕ) (li lj : List LogEntry) →
    AreEnds shape i j ci cj ati atj li lj → AllZip Matches (ring (sent_body ci) (history_of li) j)
    (due_pieces (history_of lj) i)
ring_settled shape i j ci cj ati atj li lj ends =
    let knows = known_settled shape i j ci cj ati atj li lj ends in
    subst (λ (cs : List CalledPiece). AllZip Matches cs (due_pieces (history_of lj) i))
    (sym (ring_numbers shape i j ci cj ati atj li lj ends))
    (pairs_match i j knows.stamp (sent_body ci) (sends (history_of li) j) (matched_pairs (history_of lj)) knows.sized
    knows.pairs)

pieces_done : (shape : Sizes) (i j : ℕ) (ci cj : List Numbered) (ati atj : ℕ) (li lj : List LogEntry) →
    AreEnds shape i j ci cj ati atj li lj →
    AllByRecursion (λ d. d.continued ≡ true) (pulled_from i lj) × AllByRecursion (LastIsWhole i (history_of lj))
    (due_pieces (history_of lj) i)
pieces_done shape i j ci cj ati atj li lj ends =
    pieces_go shape.eager (sent_body cj) cj i lj (ring (sent_body ci) (history_of li) j) ends.receiver.sound
    (ring_settled shape i j ci cj ati atj li lj ends) ends.there.pieces

-- no piece was a stray
pub pieces_settled : (shape : Sizes) (i j : ℕ) (ci cj : List Numbered) (ati atj : ℕ) (li lj : List LogEntry) →
    AreEnds shape i j ci cj ati atj li lj → AllByRecursion (λ d. d.continued ≡ true) (pulled_from i lj)
pieces_settled shape i j ci cj ati atj li lj ends = (pieces_done shape i j ci cj ati atj li lj ends).0

-- messages that were sent by asking are over where they are paired, and kept back where they are
-- claimed alone
pub asked_settled : (shape : Sizes) (i j : ℕ) (ci cj : List Numbered) (ati atj : ℕ) (li lj : List LogEntry) →
    AreEnds shape i j ci cj ati atj li lj → AskedOver i j (history_of li) (history_of lj)
asked_settled shape i j ci cj ati atj li lj ends =
    let hi : List Event = history_of li in
    let hj : List Event = history_of lj in
    let knows = known_settled shape i j ci cj ati atj li lj ends in
    let made = packets_made shape.eager (sent_body ci) ci (HasSource i hj) j li ends.sender.sound
    (sources_settled shape i j ci cj ati atj li lj ends).1 in
    asked_over i j hi hj knows.numbered
    (λ s at asked taken. (
      asked_out i s.n knows.stamp j hi (known_by (taken_from j li)) (matched_pairs hj) s knows.pairs knows.cleared
          knows.pushed knows.empty at asked taken,
      asked_whole i s.n knows.stamp (sends hi j) s hj (matched_pairs hj) knows.pairs ends.receiver.empty
          (pieces_whole i hj (granted hj i) (pieces_done shape i j ci cj ati atj li lj ends).1) at asked taken,
    ))
    (λ s at asked out. out_taken shape.ranks i j s.n hi hj s ends.sender.run.numbers ends.sender.run.ends made at
    asked out)
    (λ s at asked whole. whole_taken i s.n knows.stamp (sends hi j) s hj ends.receiver.run.wholes knows.sent at asked
    whole)

-- what is whole before a moment of the rank's own is not made whole after it
never_later : (eager i n : ℕ) (bodies : Sent → List ℕ) (commands : List Numbered) (log : List LogEntry) (h : List Event)
    (e : Event) → Always WholeAt (history_of log) → (own : OwnMoment eager bodies commands log h e) →
    happened (is_whole i n) h ≡ true →
    happened (is_whole i n) (history_of own.after) ≡ true → true ≡ false
never_later eager i n bodies commands log h e wholes own first later =
    let rest : List Event = e ∷ own.late ++ history_of own.after in
    let whole : history_of log ≡ h ++ rest =
    ap history_of own.split ∙ history-append own.before (own.moment ∷ own.after)
    ∙ ap (λ (k : List Event). history_of own.before ++ (k ++ history_of own.after)) own.events
    ∙ ap (λ (k : List Event). history_of own.before ++ k) (append_assoc own.early (e ∷ own.late) (history_of own.after))
    ∙ sym (append_assoc (history_of own.before) own.early rest) ∙ ap (λ (k : List Event). k ++ rest) (sym own.first) in
    whole_once i n (history_of log) h rest wholes whole first
    (happened-append (is_whole i n) (e ∷ own.late) (history_of own.after) ∙ or_right _ _ later)

-- the bytes of a message that is whole are those of its send
whole_bytes : (shape : Sizes) (i j : ℕ) (ci cj : List Numbered) (ati atj : ℕ) (li lj : List LogEntry) →
    AreEnds shape i j ci cj ati atj li lj → (h : List Event) (e : Event) →
    (own : OwnMoment shape.eager (sent_body cj) cj lj h e) →
    (n : ℕ) (s : Sent) → slice_get (sends (history_of li) j) n ≡ Some s → happened (is_whole i n) h ≡ true →
    (is_ask s.how ≡ true → (s.len == 0) ≡ false → has (numbers_in (granted (history_of lj) i)) n ≡ true) →
    cond (is_ask s.how) (piece_bytes n (pulled_from i own.before))
    (eager_bytes n nothing_known (taken_from i own.before)) ≡ sent_body ci s
whole_bytes shape i j ci cj ati atj li lj ends h e own n s at whole grants = by_how (is_ask s.how) refl where
  ss : List Sent
  ss = sends (history_of li) j

  never : happened (is_whole i n) (history_of own.after) ≡ true → true ≡ false
  never = never_later shape.eager i n (sent_body cj) cj lj h e ends.receiver.run.wholes own whole

  total : is_ask s.how ≡ true → piece_bytes n (pulled_from i lj) ≡ cond
      (has (numbers_in (granted (history_of lj) i)) n) (sent_body ci s) []
  total is =
      let knows = known_settled shape i j ci cj ati atj li lj ends in
      pulled_is_called i 0 n (ring (sent_body ci) (history_of li) j) (pulled_from i lj) ends.there.pieces
      (pieces_settled shape i j ci cj ati atj li lj ends)
      ∙ ap (λ (cs : List CalledPiece). ring_bytes n cs) (ring_numbers shape i j ci cj ati atj li lj ends)
      ∙ all_bytes (sent_body ci) ss n s (numbers_in (granted (history_of lj) i))
      (granted_distinct i (matched_pairs (history_of lj))
      (one_to_one shape.ranks shape.eager cj (history_of lj) ends.receiver.run.numbers
      ends.receiver.run.starts.made).messages) knows.numbered knows.sized at

  asked : (b : Bool) → (s.len == 0) ≡ b → is_ask s.how ≡ true → piece_bytes n (pulled_from i own.before)
      ≡ sent_body ci s
  asked true none is =
      let knows = known_settled shape i j ci cj ati atj li lj ends in
      let empty : sent_body ci s ≡ [] = length_none (sent_body ci s) (sized_at (sent_body ci) ss n s knows.sized at
      ∙ same_number s.len 0 none) in
      let all : piece_bytes n (pulled_from i lj) ≡ [] = total is
      ∙ ap (λ (body : List ℕ). cond (has (numbers_in (granted (history_of lj) i)) n) body []) empty
      ∙ none_either (has (numbers_in (granted (history_of lj) i)) n) in
      front_empty (piece_bytes n (pulled_from i own.before)) (piece_bytes n (pulled_from i own.after))
      (sym (piece_bytes-append n (pulled_from i own.before) (pulled_from i own.after))
      ∙ ap (λ (ds : List Pulled). piece_bytes n ds)
      (sym (ap (λ (l : List LogEntry). pulled_from i l) own.split ∙ pulled_around i own.before own.moment own.after
      own.acted)) ∙ all) ∙ sym empty
    where
      length_none : (xs : List ℕ) → length xs ≡ 0 → xs ≡ []
      length_none [] same = refl
      length_none (x ∷ xs) same = absurd (omega arith)

      none_either : (b : Bool) → cond {A = List ℕ} b [] [] ≡ []
      none_either true = refl
      none_either false = refl
  asked false some is =
      let found = grants is some in
      pieces_came shape.eager i n (sent_body cj) cj lj own.before own.moment own.after
      (ring (sent_body ci) (history_of li) j) ends.receiver.sound own.split own.acted
      (one_to_one shape.ranks shape.eager cj (history_of lj) ends.receiver.run.numbers
      ends.receiver.run.starts.made).messages
      (ring_settled shape i j ci cj ati atj li lj ends) ends.there.pieces
      (pieces_settled shape i j ci cj ati atj li lj ends) found never
      ∙ total is ∙ ap (λ (b : Bool). cond b (sent_body ci s) []) found

  eager : is_ask s.how ≡ false → eager_bytes n nothing_known (taken_from i own.before) ≡ sent_body ci s
  eager is =
      let numbered = sends_numbered shape.ranks j (history_of li) ends.sender.run.numbers in
      eager_came shape.eager i n (sent_body cj) cj lj own.before own.moment own.after ss s ends.receiver.sound
      own.split own.acted ends.there.in_time (messages_settled shape i j ci cj ati atj li lj ends).3 numbered at is
      never
      ∙ eager_all shape.eager i n j (sent_body ci) (history_of li) (taken_from i lj)
      (sender_at shape.eager shape.ranks (sent_body ci) ci li ends.sender.sound ends.sender.run.numbers
      ends.sender.run.cancels.made) ends.there.packets (packets_settled shape i j ci cj ati atj li lj ends)
      ∙ eager_body_at (sent_body ci) 0 n n ss s (omega arith) numbered at is

  by_how : (b : Bool) → is_ask s.how ≡ b → cond b (piece_bytes n (pulled_from i own.before))
      (eager_bytes n nothing_known (taken_from i own.before)) ≡ sent_body ci s
  by_how true is = asked (s.len == 0) refl is
  by_how false is = eager is

-- a result that shows a message shows the body of its send
pub bodies_settled : (shape : Sizes) (i j : ℕ) (ci cj : List Numbered) (ati atj : ℕ) (li lj : List LogEntry) →
    AreEnds shape i j ci cj ati atj li lj → Always (BodyAt i ci (sends (history_of li) j) cj) (history_of lj)
bodies_settled shape i j ci cj ati atj li lj ends =
    shows i j ci cj hi hj (sends_commanded shape.eager ci hi ends.sender.run.starts) ends.receiver.run.answers.right
    (λ h e after split is pair c asked from here line source tag body got at.
    shown h e after split (AtEach-split (AnswerIn shape.eager (sent_body cj) cj lj) h e after
    (subst (λ (k : List Event). AtEach (AnswerIn shape.eager (sent_body cj) cj lj) k) split
    (answers_have_moments shape.eager (sent_body cj) cj lj ends.receiver.sound)) is)
    pair c asked from here line source tag body got at)
  where
    hi : List Event
    hi = history_of li

    hj : List Event
    hj = history_of lj

    shown : (h : List Event) (e : Event) (after : List Event) → history_of lj ≡ h ++ e ∷ after →
        OwnMoment shape.eager (sent_body cj) cj lj h e → (pair : Pair) (c : Command) → asked_pair cj h c ≡ Some pair →
        pair.arrival.env.from ≡ i → is_here h pair ≡ true →
        (line source tag : ℕ) (body : List ℕ) → e.what ≡ Ran line (answer.Got source tag body) →
        command_at cj line ≡ Some c → (s : Sent) × (slice_get (sends (history_of li) j) pair.arrival.n ≡ Some s)
        × (body ≡ sent_body ci s)
    shown h e after split own pair c asked from here line source tag body got at =
        let knows = known_settled shape i j ci cj ati atj li lj ends in
        let ss : List Sent = sends (history_of li) j in
        let n : ℕ = pair.arrival.n in
        let later = matched_pairs-append h (e ∷ after) in
        let pairs : matched_pairs (history_of lj) ≡ matched_pairs h ++ later.0 = ap matched_pairs split ∙ later.1 in
        let is : SentAs i ss knows.stamp pair.arrival =
        asked_among (λ (pair : Pair). SentBefore i ss knows.stamp pair.arrival) cj h c pair
        (all_split (λ (pair : Pair). SentBefore i ss knows.stamp pair.arrival) (matched_pairs h) later.0
        (subst (λ (ps : List Pair). PairsSent i ss knows.stamp ps) pairs knows.pairs)).0 asked from in
        let came : list_any (λ a. a.env.from == i && a.n == n) (messages (history_of own.before)) ≡ true =
        ap (λ (as' : List Arrival). list_any (λ a. a.env.from == i && a.n == n) as')
        (sym (own_messages shape.eager (sent_body cj) cj lj h e own))
        ∙ ap (λ (k : ℕ). list_any (λ a. a.env.from == k && a.n == n) (messages h)) (sym from)
        ∙ asked_among (λ (pair : Pair). list_any (λ b. b.env.from == pair.arrival.env.from && b.n == pair.arrival.n)
        (messages h) ≡ true) cj h c pair (pair_came h) asked in
        let early : AllByRecursion (SentBefore i ss knows.stamp) (messages (history_of own.before)) =
        subst (λ (as' : List Arrival). AllByRecursion (SentBefore i ss knows.stamp) as')
        (own_messages shape.eager (sent_body cj) cj lj h e own)
        (all_split (SentBefore i ss knows.stamp) (messages h) (messages (e ∷ after))
        (subst (λ (as' : List Arrival). AllByRecursion (SentBefore i ss knows.stamp) as')
        (ap messages split ∙ messages-append h (e ∷ after)) knows.sent)).0 in
        let how_is = message_how i n knows.stamp ss is.sent (history_of own.before) early is.at came in
        let whole : happened (is_whole i n) h ≡ true = ap (λ (k : ℕ). happened (is_whole k n) h) (sym from) ∙ here in
        let granted_all = subst (λ (ps : List Pair). AllByRecursion (λ (pair : Pair). is_granted i pair ≡ true →
        has (numbers_in (granted (history_of lj) i)) pair.arrival.n ≡ true) ps) pairs
        (granted_has i (matched_pairs (history_of lj))) in
        let grant = asked_among (λ (pair : Pair). is_granted i pair ≡ true →
        has (numbers_in (granted (history_of lj) i)) pair.arrival.n ≡ true) cj h c pair
        (all_split (λ (pair : Pair). is_granted i pair ≡ true →
        has (numbers_in (granted (history_of lj) i)) pair.arrival.n ≡ true) (matched_pairs h) later.0 granted_all).0
        asked in
        let bytes = whole_bytes shape i j ci cj ati atj li lj ends h e own n is.sent is.at whole
        (λ ask some. grant (rw (
          eq_true pair.arrival.env.from i from,
          ap (λ (env : Envelope). is_ask env.how) is.same
              ∙ ask,
          ap (λ (env : Envelope). env.len == 0) is.same ∙ some,
        ) refl)) in
        let own_is : IfSome (option_and_then (asked_pair cj h) (command_at cj line))
        (λ pair. body ≡ bytes_of_message own.before pair.arrival.env.from pair.arrival.n) =
        subst (λ (w : Happened). OwnEvent shape.eager (sent_body cj) cj own.before h e.stamp w) got own.own in
        let shown_is : body ≡ bytes_of_message own.before pair.arrival.env.from n =
        subst (λ (o : Option Pair). IfSome o
        (λ pair. body ≡ bytes_of_message own.before pair.arrival.env.from pair.arrival.n)) asked
        (subst (λ (o : Option Command). IfSome (option_and_then (asked_pair cj h) o)
        (λ pair. body ≡ bytes_of_message own.before pair.arrival.env.from pair.arrival.n)) at own_is) in (
          is.sent,
          is.at,
          shown_is ∙ ap (λ (k : ℕ). bytes_of_message own.before k n) from
              ∙ ap (λ (b : Bool). cond b (piece_bytes n (pulled_from i own.before))
              (eager_bytes n nothing_known (taken_from i own.before))) how_is ∙ bytes,
        )

-- the law of both ends
pub ends_settle : (shape : Sizes) (i j : ℕ) (ci cj : List Numbered) (ati atj : ℕ) (li lj : List LogEntry) →
    AreEnds shape i j ci cj ati atj li lj → AreSettled i j ci cj li lj
ends_settle shape i j ci cj ati atj li lj ends =
    let messages = messages_settled shape i j ci cj ati atj li lj ends in
    record {
      delivered = record {
        messages = messages.1;
        bodies = bodies_settled shape i j ci cj ati atj li lj ends;
        outs = outs_settled shape i j ci cj ati atj li lj ends;
        withdrawals = withdrawals_settled shape i j ci cj ati atj li lj ends;
      };
      arrived = messages.2;
      eager = eager_settled shape i j ci cj ati atj li lj ends;
      asked = asked_settled shape i j ci cj ati atj li lj ends;
      recalls = recalls_settled shape i j ci cj ati atj li lj ends;
      no_stray = record {
        packets = packets_settled shape i j ci cj ati atj li lj ends;
        pieces =
            pieces_settled shape i j ci cj ati atj li lj ends;
      };
    }
