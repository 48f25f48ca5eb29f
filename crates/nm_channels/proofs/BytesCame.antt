-- The bytes of a message that is whole, at a moment of the rank's own.
use Rattle.std.proofs.Common.{◌≡◌, ℕ, ◌+◌, ◌==◌, Bool, true, false, not, ◌&&◌, cond, Some, List, [], ◌∷◌, ◌++◌}
use Rattle.std.proofs.Common.{length, map, sym, ◌∙◌, ap, subst, append-nil, append_assoc, arith, suc, zero}
use Rattle.std.specs.List.{AllByRecursion, AllPairs, AllZip, filter, cons_option, list_any, slice_get}
use Rattle.std.proofs.lemmas.List.Elements.{filter_map-append}
use Rattle.nm_types.specs.Commands.{Numbered}
use Rattle.nm_history.specs.Sends.{Sent, is_ask}
use Rattle.nm_history.specs.Happens.{happened, is_whole}
use Rattle.nm_history.specs.Matching.{matched_pairs}
use Rattle.nm_history.specs.Outgoing.{CalledPiece, AreCalledPieces}
use Rattle.nm_history.specs.Once.{TwoMessages}
use Rattle.nm_history.specs.Known.{Taken, known_by, nothing_known}
use Rattle.nm_history.specs.Continues.{has}
use Rattle.nm_history.specs.Pieces.{Pulled, Due, due_pieces, granted, count_continued}
use Rattle.nm_history.specs.Bytes.{eager_bytes, piece_bytes}
use Rattle.nm_channels.specs.Moments.{LogEntry, Cause, history_of, taken_from, taken_of, pulled_from, pulled_of}
use Rattle.nm_channels.specs.Moments.{EachMomentAfter}
use Rattle.nm_channels.specs.Moments.Cause.{Acted}
use Rattle.nm_channels.specs.Sound.{AreSound, MayHappen}
use Rattle.nm_history.proofs.Basic.{refuted, any_gives}
use Rattle.nm_channels.proofs.Streams.{StreamIsRight, completed, eager_numbers}
use Rattle.nm_channels.proofs.Streaming.{InTime}
use Rattle.nm_channels.proofs.Wholes.{IsHere, log_completes}
use Rattle.nm_channels.proofs.Arriving.{stream_is_right}
use Rattle.nm_channels.proofs.Delivering.{history-append}
use Rattle.nm_channels.proofs.Cutting.{Matches}
use Rattle.nm_channels.proofs.Pulling.{LastIsWhole, log_pulls}
use Rattle.nm_channels.proofs.EagerBytes.{eager_so_far}
use Rattle.nm_channels.proofs.PieceBytes.{ring_bytes, pulled_is_called, ring_bytes-append, no_ring_bytes, no_more_due}
use Rattle.nm_channels.proofs.PieceBytes.{numbers_in, granted_distinct, granted_some}
use Rattle.nm_channels.proofs.Bodies.{sound_rest, called_parts, zip_parts, pieces_count}
use Rattle.nm_types.specs.declared.packets.Piece.{Piece}
use Rattle.std.proofs.lemmas.List.{map-append}
use Rattle.nm_history.proofs.Sent.{NumberedFrom}
use Rattle.nm_types.proofs.NumberLemmas.{eq_true, same_number}
use Rattle.nm_types.proofs.TruthLemmas.{or_left, or_right, and_left, and_right}
use Rattle.nm_types.proofs.ListLemmas.{all_split, all_along}

-- a moment of the rank's own takes no packet and no piece
pub taken_around : (i : ℕ) (before : List LogEntry) (m : LogEntry) (after : List LogEntry) → m.cause ≡ Acted →
    taken_from i (before ++ m ∷ after) ≡ taken_from i before ++ taken_from i after
taken_around i before m after acted =
    filter_map-append (λ (m : LogEntry). taken_of i m.cause) before (m ∷ after)
    ∙ ap (λ (c : Cause). taken_from i before ++ cons_option (taken_of i c) (taken_from i after)) acted

pub pulled_around : (i : ℕ) (before : List LogEntry) (m : LogEntry) (after : List LogEntry) → m.cause ≡ Acted →
    pulled_from i (before ++ m ∷ after) ≡ pulled_from i before ++ pulled_from i after
pulled_around i before m after acted =
    filter_map-append (λ (m : LogEntry). pulled_of i m.cause) before (m ∷ after)
    ∙ ap (λ (c : Cause). pulled_from i before ++ cons_option (pulled_of i c) (pulled_from i after)) acted

sound_after : (eager : ℕ) (bodies : Sent → List ℕ) (commands : List Numbered) (log before : List LogEntry) (m : LogEntry)
    (after : List LogEntry) → AreSound eager bodies commands log → log ≡ before ++ m ∷ after →
    EachMomentAfter (MayHappen eager bodies commands) (before ++ m ∷ []) after
sound_after eager bodies commands log before m after sound split =
    sound_rest (MayHappen eager bodies commands) [] (before ++ m ∷ []) after
    (subst (λ (l : List LogEntry). EachMomentAfter (MayHappen eager bodies commands) [] l)
    (split ∙ sym (append_assoc before (m ∷ []) after)) sound)

eager_has : (n : ℕ) (ss : List Sent) (k i : ℕ) (s : Sent) → n ≡ k + i → NumberedFrom (λ (s : Sent). s.n) k ss →
    slice_get ss i ≡ Some s → is_ask s.how ≡ false → list_any (λ m. m == n) (eager_numbers ss) ≡ true
eager_has n [] k i s is numbered at eager = cc
eager_has n (x ∷ ss) k zero s is numbered at eager =
    let same : x ≡ s = cc in
    let how_is : is_ask x.how ≡ false = ap (λ (s : Sent). is_ask s.how) same ∙ eager in
    rw how_is (or_left (x.n == n) _ (eq_true x.n n (omega (arith, is, numbered.0))))
eager_has n (x ∷ ss) k (suc i) s is numbered at eager = skip (not (is_ask x.how))
    (eager_has n ss (k + 1) i s (omega (arith, is)) numbered.1 at eager) where
      skip : (b : Bool) → list_any (λ m. m == n) (eager_numbers ss) ≡ true →
          list_any (λ m. m == n)
          (map (λ s. s.n) (cond b (x ∷ filter (λ s. not (is_ask s.how)) ss) (filter (λ s. not (is_ask s.how)) ss)))
          ≡ true
      skip true found = or_right (x.n == n) _ found
      skip false found = found

-- all bytes of an eager message that is whole have come
pub eager_came : (eager i n : ℕ) (bodies : Sent → List ℕ) (commands : List Numbered) (log before : List LogEntry)
    (m : LogEntry) (after : List LogEntry) (ss : List Sent) (s : Sent) → AreSound eager bodies commands log →
    log ≡ before ++ m ∷ after → m.cause ≡ Acted →
    InTime (taken_from i log) → completed nothing_known (taken_from i log) ≡ eager_numbers ss →
    NumberedFrom (λ (s : Sent). s.n) 0 ss → slice_get ss n ≡ Some s → is_ask s.how ≡ false →
    (happened (is_whole i n) (history_of after) ≡ true → true ≡ false) →
    eager_bytes n nothing_known (taken_from i before) ≡ eager_bytes n nothing_known (taken_from i log)
eager_came eager i n bodies commands log before m after ss s sound split acted in_time complete numbered at how_is
    never =
    let taken : taken_from i log ≡ taken_from i before ++ taken_from i after =
    ap (λ (l : List LogEntry). taken_from i l) split ∙ taken_around i before m after acted in
    let known_here : taken_from i (before ++ m ∷ []) ≡ taken_from i before = taken_around i before m [] acted
    ∙ append-nil (taken_from i before) in
    let later = subst (λ (ts : List Taken). AllByRecursion (IsHere i (history_of after))
    (completed (known_by ts) (taken_from i after))) known_here
    (log_completes eager bodies commands i (before ++ m ∷ []) after
    (sound_after eager bodies commands log before m after sound split)) in
    let none : list_any (λ k. k == n) (completed (known_by (taken_from i before)) (taken_from i after)) ≡ false =
    refuted (list_any (λ k. k == n) (completed (known_by (taken_from i before)) (taken_from i after))) (λ found. never
    (any_gives (λ k. k == n) (happened (is_whole i n) (history_of after) ≡ true)
    (completed (known_by (taken_from i before)) (taken_from i after)) found
    (all_along (IsHere i (history_of after)) (λ k. (k == n) ≡ true → happened (is_whole i n) (history_of after)
    ≡ true) (completed (known_by (taken_from i before)) (taken_from i after))
    (λ k here same. subst (λ (x : ℕ). happened (is_whole i x) (history_of after) ≡ true)
    (same_number k n same) here) later))) in
    let found : list_any (λ k. k == n) (completed nothing_known (taken_from i before ++ taken_from i after)) ≡ true =
    ap (λ (ts : List Taken). list_any (λ k. k == n) (completed nothing_known ts)) (sym taken)
    ∙ ap (λ (ns : List ℕ). list_any (λ k. k == n) ns) complete ∙ eager_has n ss 0 n s (omega arith) numbered at
    how_is in
    eager_so_far eager n (taken_from i before) (taken_from i after)
    (subst (λ (ts : List Taken). InTime ts) taken in_time)
    (subst (λ (ts : List Taken). StreamIsRight eager nothing_known ts) taken
    (stream_is_right eager bodies commands [] log i sound)) found none
    ∙ ap (λ (ts : List Taken). eager_bytes n nothing_known ts) (sym taken)

-- all bytes of a message with a body that is whole have come in its pieces
pub pieces_came : (eager i n : ℕ) (bodies : Sent → List ℕ) (commands : List Numbered) (log before : List LogEntry)
    (m : LogEntry) (after : List LogEntry) (cs : List CalledPiece) → AreSound eager bodies commands log →
    log ≡ before ++ m ∷ after → m.cause ≡ Acted →
    AllPairs TwoMessages (matched_pairs (history_of log)) → AllZip Matches cs (due_pieces (history_of log) i) →
    AreCalledPieces i 0 cs (map (λ d. d.piece) (pulled_from i log)) → AllByRecursion (λ d. d.continued ≡ true)
    (pulled_from i log) →
    has (numbers_in (granted (history_of log) i)) n ≡ true →
    (happened (is_whole i n) (history_of after) ≡ true → true ≡ false) →
    piece_bytes n (pulled_from i before) ≡ piece_bytes n (pulled_from i log)
pieces_came eager i n bodies commands log before m after cs sound split acted two zip called goes found never =
    let pulled : pulled_from i log ≡ pulled_from i before ++ pulled_from i after =
    ap (λ (l : List LogEntry). pulled_from i l) split ∙ pulled_around i before m after acted in
    let here : pulled_from i (before ++ m ∷ []) ≡ pulled_from i before = pulled_around i before m [] acted
    ∙ append-nil (pulled_from i before) in
    let goes_parts = all_split (λ (d : Pulled). d.continued ≡ true) (pulled_from i before) (pulled_from i after)
    (subst (λ (ds : List Pulled). AllByRecursion (λ d. d.continued ≡ true) ds) pulled goes) in
    let parts = called_parts i 0 cs (map (λ d. d.piece) (pulled_from i before))
    (map (λ d. d.piece) (pulled_from i after))
    (subst (λ (qs : List Piece). AreCalledPieces i 0 cs qs) (ap (λ (ds : List Pulled). map (λ d. d.piece) ds) pulled
    ∙ map-append (λ (d : Pulled). d.piece) (pulled_from i before) (pulled_from i after)) called) in
    let dues = zip_parts parts.first parts.second (due_pieces (history_of log) i)
    (subst (λ (k : List CalledPiece). AllZip Matches k (due_pieces (history_of log) i)) parts.split zip) in
    let count : length dues.past ≡ count_continued (pulled_from i (before ++ m ∷ [])) =
    dues.count ∙ pieces_count i 0 parts.first (pulled_from i before) parts.before goes_parts.0
    ∙ ap (λ (ds : List Pulled). count_continued ds) (sym here) in
    let whole : history_of log ≡ history_of (before ++ m ∷ []) ++ history_of after = ap history_of
    (split ∙ sym (append_assoc before (m ∷ []) after)) ∙ history-append (before ++ m ∷ []) after in
    let later = (log_pulls eager bodies commands i (history_of log) (before ++ m ∷ []) after
    (sound_after eager bodies commands log before m after sound split) whole parts.after.0 parts.second dues.past
    dues.rest dues.split count dues.later parts.after.1).1 in
    let none_last : list_any (λ d. d.n == n && d.last) dues.rest ≡ false =
    refuted (list_any (λ d. d.n == n && d.last) dues.rest) (λ last. never
    (any_gives (λ (d : Due). d.n == n && d.last) (happened (is_whole i n) (history_of after) ≡ true) dues.rest last
    (all_along (LastIsWhole i (history_of after)) (λ d. (d.n == n && d.last) ≡ true →
    happened (is_whole i n) (history_of after) ≡ true) dues.rest
    (λ d is both. subst (λ (k : ℕ). happened (is_whole i k) (history_of after) ≡ true)
    (same_number d.n n (and_left (d.n == n) d.last both)) (is (and_right (d.n == n) d.last both))) later))) in
    let none : list_any (λ d. d.n == n) dues.rest ≡ false = no_more_due n (granted (history_of log) i) dues.past
    dues.rest (granted_distinct i (matched_pairs (history_of log)) two)
    (granted_some i (matched_pairs (history_of log))) found dues.split none_last in
    let no_bytes : ring_bytes n parts.second ≡ [] = no_ring_bytes n parts.second dues.rest dues.later none in
    pulled_is_called i 0 n parts.first (pulled_from i before) parts.before goes_parts.0
    ∙ sym (append-nil (ring_bytes n parts.first)) ∙ ap (λ (xs : List ℕ). ring_bytes n parts.first ++ xs)
    (sym no_bytes) ∙ sym (ring_bytes-append n parts.first parts.second)
    ∙ ap (λ (k : List CalledPiece). ring_bytes n k) (sym parts.split)
    ∙ sym (pulled_is_called i 0 n cs (pulled_from i log) called goes)
