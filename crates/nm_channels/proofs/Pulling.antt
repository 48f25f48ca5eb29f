-- The pieces that a rank took all continued, and each message of which the last one came is whole.
use Rattle.std.proofs.Common.{◌≡◌, ℕ, ◌+◌, ◌<◌, ◌==◌, Bool, true, false, ◌&&◌, cond, Option, Some, None, List, []}
use Rattle.std.proofs.Common.{◌∷◌, ◌++◌, length, map, refl, sym, ◌∙◌, ap, subst, append-nil, append_assoc}
use Rattle.std.proofs.Common.{length-append, arith}
use Rattle.std.specs.Option.{option_map_or}
use Rattle.std.specs.List.{AllByRecursion, AllZip, cons_option, list_any, slice_get}
use Rattle.std.proofs.lemmas.List.Elements.{filter_map-append}
use Rattle.nm_types.specs.declared.packets.Piece.{Piece}
use Rattle.nm_types.specs.Commands.{Numbered}
use Rattle.nm_history.specs.declared.events.Event.{Event}
use Rattle.nm_history.specs.declared.events.Happened.{Happened}
use Rattle.nm_history.specs.Sends.{Sent}
use Rattle.nm_history.specs.Happens.{happened, is_whole}
use Rattle.nm_history.specs.Outgoing.{CalledPiece, AreCalledPieces, IsCalledPiece}
use Rattle.nm_history.specs.Effects.{happenings, whole_if}
use Rattle.nm_history.specs.Pieces.{Pulled, Due, due_pieces, count_continued, is_due, piece_makes}
use Rattle.nm_history.proofs.Growing.{due_pieces-append, count_continued-push}
use Rattle.nm_channels.specs.Moments.{LogEntry, Cause, history_of, pulled_from, pulled_of, EachMomentAfter}
use Rattle.nm_channels.specs.Moments.Cause.{Acted, Took, Drew}
use Rattle.nm_channels.specs.Sound.{AreSound, MayHappen, MadeBy}
use Rattle.nm_history.proofs.Basic.{self_true, happened_in}
use Rattle.nm_channels.proofs.Delivering.{history-push}
use Rattle.nm_channels.proofs.Numbers.{at_seam}
use Rattle.nm_channels.proofs.Cutting.{Matches}
use Rattle.nm_history.proofs.Sent.{happened-append}
use Rattle.nm_types.proofs.NumberLemmas.{eq_true, same_number}
use Rattle.nm_types.proofs.TruthLemmas.{or_left, or_right}
use Rattle.nm_types.proofs.ListLemmas.{all_along, get_front}

-- the last piece of a message made it whole
abbrev pub LastIsWhole : ℕ → List Event → Due → Type 0
LastIsWhole i h due = due.last ≡ true → happened (is_whole i due.n) h ≡ true

abbrev pub Continued : Pulled → Type 0
Continued d = d.continued ≡ true

-- a piece that is called for is the due one
is_due_one : (i num : ℕ) (c : CalledPiece) (due : Due) (q : Piece) → Matches c due → IsCalledPiece i num c q →
    is_due q due ≡ true
is_due_one i num c due q matches called =
    rw (
      eq_true q.n due.n (called.message ∙ matches.number),
      eq_true q.at due.at (called.place ∙ matches.place),
      eq_true (length q.bytes) due.size (ap (λ (bytes : List ℕ). length bytes) called.same ∙ matches.size),
    ) refl

pub pulled-push : (i : ℕ) (before : List LogEntry) (m : LogEntry) → pulled_from i (before ++ m ∷ [])
    ≡ pulled_from i before ++ cons_option (pulled_of i m.cause) []
pulled-push i before m = filter_map-append (λ (m : LogEntry). pulled_of i m.cause) before (m ∷ [])

later_whole : (i : ℕ) (events h : List Event) (dues : List Due) → AllByRecursion (LastIsWhole i h) dues →
    AllByRecursion (LastIsWhole i (events ++ h)) dues
later_whole i events h dues each = all_along (LastIsWhole i h) (LastIsWhole i (events ++ h)) dues
    (λ due whole last. happened-append (is_whole i due.n) events h ∙ or_right _ _ (whole last)) each

-- the due piece at a place that a history has
due_at : (h more : List Event) (i : ℕ) (past dues : List Due) (due : Due) →
    due_pieces (h ++ more) i ≡ past ++ due ∷ dues → length past < length (due_pieces h i) → slice_get (due_pieces h i)
    (length past) ≡ Some due
due_at h more i past dues due same within =
    let grown = due_pieces-append h more i in
    sym (get_front (due_pieces h i) grown.0 (length past) within) ∙ ap (λ (ds : List Due). slice_get ds (length past))
    (sym grown.1 ∙ same) ∙ at_seam past due dues

-- these pieces, after others, continue, and the last ones of those that are due make their messages
-- whole in these events
abbrev pub Pulls : ℕ → List Event → List Pulled → List Pulled → List Event → Type 0
Pulls i whole past_pulled pulled h =
    (num : ℕ) (rest : List CalledPiece) (past dues : List Due) → due_pieces whole i ≡ past ++ dues →
    length past ≡ count_continued past_pulled → AllZip Matches rest dues →
    AreCalledPieces i num rest (map (λ d. d.piece) pulled) → AllByRecursion Continued pulled × AllByRecursion
    (LastIsWhole i h) dues

-- a moment without a piece
no_pull : (i : ℕ) (whole : List Event) (before pulled : List Pulled) (events h : List Event) →
    Pulls i whole (before ++ []) pulled h → Pulls i whole before pulled (events ++ h)
no_pull i whole before pulled events h next num rest past dues is count zip called =
    let later = next num rest past dues is
    (count ∙ ap (λ (ds : List Pulled). count_continued ds) (sym (append-nil before))) zip called in
    (later.0, later_whole i events h dues later.1)

whole_by_last : (from n : ℕ) (b : Bool) (m : ℕ) → b ≡ true → m ≡ n → list_any (is_whole from n) (whole_if b from m)
    ≡ true
whole_by_last from n b m is same = rw (is, self_true from, eq_true m n same) refl

-- a moment with a piece of this rank
one_pull : (i : ℕ) (whole hb : List Event) (before pulled : List Pulled) (d : Pulled) (events h : List Event) →
    whole ≡ hb ++ (events ++ h) → d.piece.from ≡ i → count_continued before < length (due_pieces hb i) →
    d.continued ≡ option_map_or (is_due d.piece) (slice_get (due_pieces hb i) (count_continued before)) false →
    happenings events ≡ piece_makes i (slice_get (due_pieces hb i) (count_continued before)) d.piece →
    Pulls i whole (before ++ d ∷ []) pulled h → Pulls i whole before (d ∷ pulled) (events ++ h)
one_pull i whole hb before pulled d events h split from within goes made next num [] past dues is count zip called =
    absurd called
one_pull i whole hb before pulled d events h split from within goes made next num (c ∷ rest) past [] is count zip
    called = absurd zip
one_pull i whole hb before pulled d events h split from within goes made next num (c ∷ rest) past
    (due ∷ dues) is count zip called =
    let place : length past < length (due_pieces hb i) = omega (arith, within, count) in
    let at_past : slice_get (due_pieces hb i) (length past) ≡ Some due = due_at hb (events ++ h) i past dues due
    (ap (λ (k : List Event). due_pieces k i) (sym split) ∙ is) place in
    let at : slice_get (due_pieces hb i) (count_continued before) ≡ Some due =
    ap (λ (k : ℕ). slice_get (due_pieces hb i) k) (sym count) ∙ at_past in
    let one : is_due d.piece due ≡ true = is_due_one i num c due d.piece zip.0 called.0 in
    let continued : d.continued ≡ true = goes ∙ ap (λ (o : Option Due). option_map_or (is_due d.piece) o false) at
    ∙ one in
    let counted : length (past ++ due ∷ []) ≡ count_continued (before ++ d ∷ []) =
    length-append past (due ∷ []) ∙ ap (λ (k : ℕ). k + 1) count
    ∙ sym (count_continued-push before d ∙ ap (λ (b : Bool). count_continued before + cond b 1 0) continued) in
    let later = next (num + 1) rest (past ++ due ∷ []) dues (is ∙ sym (append_assoc past (due ∷ []) dues)) counted
    zip.1 called.1 in
    let made_is : happenings events ≡ whole_if (is_due d.piece due && due.last) i d.piece.n = made
    ∙ ap (λ (o : Option Due). piece_makes i o d.piece) at in (
      (continued, later.0),
      (
        (λ last. happened-append (is_whole i due.n) events h
            ∙ or_left _ _ (happened_in (is_whole i due.n) events
            ∙ ap (λ (ws : List Happened). list_any (is_whole i due.n) ws) made_is
            ∙ whole_by_last i due.n (is_due d.piece due && due.last) d.piece.n (rw (one, last) refl)
            (called.0.message ∙ zip.0.number))),
        later_whole i events h dues later.1,
      ),
    )

last_pull : (i : ℕ) (whole : List Event) (before : List Pulled) → Pulls i whole before [] []
last_pull i whole before num [] past [] is count zip called = (tt, tt)
last_pull i whole before num [] past (due ∷ dues) is count zip called = absurd zip
last_pull i whole before num (c ∷ rest) past dues is count zip called = absurd called

pub log_pulls : (eager : ℕ) (bodies : Sent → List ℕ) (commands : List Numbered) (i : ℕ) (whole : List Event)
    (before log : List LogEntry) → EachMomentAfter (MayHappen eager bodies commands) before log →
    whole ≡ history_of before ++ history_of log →
    Pulls i whole (pulled_from i before) (pulled_from i log) (history_of log)
log_pulls eager bodies commands i whole before [] sound split = last_pull i whole (pulled_from i before)
log_pulls eager bodies commands i whole before (m ∷ log) sound split =
    by_cause m.cause sound.0.made
    (subst (λ (ds : List Pulled). Pulls i whole ds (pulled_from i log) (history_of log)) (pulled-push i before m)
    (log_pulls eager bodies commands i whole (before ++ m ∷ []) log sound.1
    (split ∙ sym (append_assoc (history_of before) m.events (history_of log))
    ∙ ap (λ (h : List Event). h ++ history_of log) (sym (history-push before m)))))
  where
    by_cause : (c : Cause) → MadeBy eager bodies commands before c m.events →
        Pulls i whole (pulled_from i before ++ cons_option (pulled_of i c) []) (pulled_from i log) (history_of log) →
        Pulls i whole (pulled_from i before) (cons_option (pulled_of i c) (pulled_from i log))
        (m.events ++ history_of log)
    by_cause Acted made next = no_pull i whole (pulled_from i before) (pulled_from i log) m.events (history_of log) next
    by_cause (Took t) made next = no_pull i whole (pulled_from i before) (pulled_from i log) m.events
        (history_of log) next
    by_cause (Drew d) made next = by_from (d.piece.from == i) refl next where
      by_from : (b : Bool) → (d.piece.from == i) ≡ b →
          Pulls i whole (pulled_from i before ++ cons_option (cond b (Some d) None) []) (pulled_from i log)
          (history_of log) →
          Pulls i whole (pulled_from i before) (cons_option (cond b (Some d) None) (pulled_from i log))
          (m.events ++ history_of log)
      by_from false test next = no_pull i whole (pulled_from i before) (pulled_from i log) m.events
          (history_of log) next
      by_from true test next =
          let from : d.piece.from ≡ i = same_number d.piece.from i test in
          one_pull i whole (history_of before) (pulled_from i before) (pulled_from i log) d m.events
          (history_of log) split from
          (subst (λ (k : ℕ). count_continued (pulled_from k before) < length (due_pieces (history_of before) k)) from
          made.0)
          (subst (λ (k : ℕ). d.continued ≡ option_map_or (is_due d.piece)
          (slice_get (due_pieces (history_of before) k) (count_continued (pulled_from k before))) false) from made.1)
          (subst (λ (k : ℕ). happenings m.events ≡ piece_makes k
          (slice_get (due_pieces (history_of before) k) (count_continued (pulled_from k before))) d.piece) from
          made.2) next

-- the pieces of a rank that are those due all continued, and each message whose last piece was due
-- is whole
pub pieces_go : (eager : ℕ) (bodies : Sent → List ℕ) (commands : List Numbered) (i : ℕ) (log : List LogEntry)
    (called : List CalledPiece) → AreSound eager bodies commands log →
    AllZip Matches called (due_pieces (history_of log) i) →
    AreCalledPieces i 0 called (map (λ d. d.piece) (pulled_from i log)) → AllByRecursion (λ d. d.continued ≡ true)
    (pulled_from i log) × AllByRecursion (LastIsWhole i (history_of log)) (due_pieces (history_of log) i)
pieces_go eager bodies commands i log called sound zip carries = log_pulls eager bodies commands i
    (history_of log) [] log sound refl 0 called [] (due_pieces (history_of log) i) refl refl zip carries
