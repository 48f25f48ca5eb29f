-- Messages that were sent by asking and are paired are over, and those that are claimed and not
-- received are kept back.
use Rattle.std.proofs.Common.{◌≡◌, ℕ, zero, suc, ◌+◌, ◌*◌, ◌<◌, ◌≤◌, ◌==◌, Bool, true, false, not, ◌&&◌, ◌||◌, cond}
use Rattle.std.proofs.Common.{Option, Some, List, [], ◌∷◌, ◌++◌, length, refl, sym, ◌∙◌, ap, subst, append_assoc}
use Rattle.std.proofs.Common.{arith}
use Rattle.std.specs.Prelude.{nat_le, IsTrue}
use Rattle.std.specs.Bool.{OnTrue}
use Rattle.std.specs.List.{AllByRecursion, filter, cons_option, list_any, slice_get}
use Rattle.std.proofs.lemmas.Bool.Decides.{nat_tests}
use Rattle.std.proofs.lemmas.List.Folds.{list_any-append}
use Rattle.nm_types.specs.declared.limits.TheConstants.{MAX_PIECE}
use Rattle.nm_types.specs.declared.messages.Arrival.{Arrival}
use Rattle.nm_types.specs.declared.messages.Envelope.{Envelope}
use Rattle.nm_history.specs.declared.events.Event.{Event}
use Rattle.nm_history.specs.declared.events.Happened.{Happened}
use Rattle.nm_history.specs.declared.events.Happened.TheVariants.{Out, Arrive, Whole}
use Rattle.nm_history.specs.declared.plain.Pair.{Pair}
use Rattle.nm_history.specs.AtEach.{AtEach}
use Rattle.nm_history.specs.Sends.{Sent, sends, is_ask, messages, arrival_of}
use Rattle.nm_history.specs.Happens.{happened, is_out, is_whole, is_arrival, is_claim}
use Rattle.nm_history.specs.Matching.{matched_pairs, is_of_message, is_claimed, new_pair}
use Rattle.nm_history.specs.Completion.{is_taken}
use Rattle.nm_history.specs.Delivery.{is_asked}
use Rattle.nm_history.specs.Quiescence.{AskedOver, is_over, is_kept_back}
use Rattle.nm_history.specs.RankRun.{Always, NumberAt, EndAt, WholeAt, is_asking}
use Rattle.nm_history.proofs.AtEachLemmas.{AtEach-split}
use Rattle.nm_history.proofs.MatchingLemmas.{matched_pairs-append, matched_pairs-push}
use Rattle.nm_history.specs.Known.{Known}
use Rattle.nm_history.specs.Effects.{is_empty_send}
use Rattle.nm_history.specs.Clearance.{to_push, pushed_out}
use Rattle.nm_history.specs.Pieces.{Due, due_from, due_of, due_of_all, is_granted}
use Rattle.nm_history.proofs.Basic.{lt_true, at_true, on_test, any_gives, or_true}
use Rattle.nm_channels.proofs.Numbers.{SentBefore}
use Rattle.nm_channels.proofs.Clearing.{asked_numbers}
use Rattle.nm_channels.proofs.Granting.{PairsSent, taken_is_asked, out_of_left, filter_has, each_at, send_is, same_sent}
use Rattle.nm_channels.proofs.Ordered.{is_cleared}
use Rattle.nm_channels.proofs.Pulling.{LastIsWhole}
use Rattle.nm_channels.proofs.Causes.{HasSource, Source}
use Rattle.nm_channels.proofs.Made.{MadeAt, MadeByPacket}
use Rattle.nm_types.specs.declared.packets.What.{What}
use Rattle.nm_types.specs.declared.packets.What.TheVariants as what
use Rattle.std.proofs.lemmas.List.Elements.{filter_map-append}
use Rattle.std.specs.Option.{option_to_list}
use Rattle.nm_history.proofs.Sent.{sent_number, NumberedFrom, sends_numbered, sent_lasts}
use Rattle.nm_types.proofs.TruthLemmas.{or_left, both, and_left, and_right}
use Rattle.nm_types.proofs.NumberLemmas.{same_number}
use Rattle.nm_types.proofs.ListLemmas.{all_split, all_along}
use Rattle.nm_history.proofs.EachLemmas.{AtEach-prefix}

-- a message to this rank that was sent by asking and is paired has left
pub asked_out : (i n stamp : ℕ) (j : ℕ) (h : List Event) (known : Known) (pairs : List Pair) (s : Sent) →
    PairsSent i (sends h j) stamp pairs → known.cleared ≡ asked_numbers i pairs → to_push h known j ≡ pushed_out h j →
    AllByRecursion (λ n. is_empty_send h j n ≡ true → happened (is_out j n) h ≡ true) known.cleared →
    slice_get (sends h j) n ≡ Some s → is_ask s.how ≡ true → list_any (is_of_message i n) pairs ≡ true →
    happened (is_out j n) h ≡ true
asked_out i n stamp j h known pairs s sent cleared pushed empty at asked taken =
    let found : list_any (λ m. m == n) known.cleared ≡ true = ap (λ (ns : List ℕ). list_any (λ m. m == n) ns) cleared
    ∙ taken_is_asked i n stamp (sends h j) s pairs sent at asked taken in
    by_empty (is_empty_send h j n) refl found
  where
    by_empty : (b : Bool) → is_empty_send h j n ≡ b → list_any (λ m. m == n) known.cleared ≡ true →
        happened (is_out j n) h ≡ true
    by_empty true is found =
        any_gives (λ m. m == n) (happened (is_out j n) h ≡ true) known.cleared found
        (all_along (λ n. is_empty_send h j n ≡ true → happened (is_out j n) h ≡ true)
        (λ m. (m == n) ≡ true → happened (is_out j n) h ≡ true) known.cleared
        (λ m out same. subst (λ (k : ℕ). happened (is_out j k) h ≡ true) (same_number m n same)
        (out (ap (λ (k : ℕ). is_empty_send h j k) (same_number m n same) ∙ is))) empty)
    by_empty false is found =
        out_of_left h j n h (ap (λ (ns : List ℕ). list_any (λ m. m == n) ns) (sym pushed)
        ∙ filter_has (λ n. not (is_empty_send h j n)) n known.cleared (ap (λ (b : Bool). not b) is) found)

le_false : (x y : ℕ) → y < x → nat_le x y ≡ false
le_false x y h = grind (arith, nat_tests)

-- a message with a body has a last piece: what that one gives is given
pub last_gives : (Q : Type 0) (n : ℕ) (rest : List Due) (turns at len : ℕ) → at < len → len ≤ at + MAX_PIECE * turns →
    AllByRecursion (λ due. due.last ≡ true → due.n ≡ n → Q) (due_from turns n at len ++ rest) → Q
last_gives Q n rest zero at len more enough each = absurd (omega (arith, more, enough))
last_gives Q n rest (suc turns) at len more enough each =
    by_last (nat_le len (at + MAX_PIECE)) refl (rw (lt_true at len more) at each)
    (λ more each. last_gives Q n rest turns (at + MAX_PIECE) len more (omega (arith, enough)) each)
  where
    passes : (x y : ℕ) → nat_le x y ≡ false → y < x
    passes x y h = grind (arith, nat_tests)

    by_last : (b : Bool) → nat_le len (at + MAX_PIECE) ≡ b →
        (nat_le len (at + MAX_PIECE) ≡ true → n ≡ n → Q) × AllByRecursion (λ due. due.last ≡ true → due.n ≡ n → Q)
        (due_from turns n (at + MAX_PIECE) len ++ rest) →
        (at + MAX_PIECE < len → AllByRecursion (λ due. due.last ≡ true → due.n ≡ n → Q)
        (due_from turns n (at + MAX_PIECE) len ++ rest) → Q) → Q
    by_last true is each later = each.0 is refl
    by_last false is each later = later (passes len (at + MAX_PIECE) is) each.1

-- messages of which all pieces came are whole
pub pieces_whole : (i : ℕ) (h : List Event) (pairs : List Pair) → AllByRecursion (LastIsWhole i h)
    (due_of_all pairs) → AllByRecursion (λ (pair : Pair). 0 < pair.arrival.env.len →
    happened (is_whole i pair.arrival.n) h ≡ true) pairs
pieces_whole i h [] each = tt
pieces_whole i h (pair ∷ pairs) each = (
  (λ some. last_gives (happened (is_whole i pair.arrival.n) h ≡ true) pair.arrival.n
      (due_of_all pairs) pair.arrival.env.len 0 pair.arrival.env.len some (omega arith)
      (all_along (LastIsWhole i h) (λ due. due.last ≡ true → due.n ≡ pair.arrival.n →
      happened (is_whole i pair.arrival.n) h ≡ true) (due_of pair ++ due_of_all pairs)
      (λ due whole last same. subst (λ (k : ℕ). happened (is_whole i k) h ≡ true) same (whole last)) each)),
  pieces_whole i h pairs (all_split (LastIsWhole i h) (due_of pair) (due_of_all pairs) each).1,
)

-- a message that was sent by asking and is paired is whole
pub asked_whole : (i n stamp : ℕ) (ss : List Sent) (s : Sent) (h : List Event) (pairs : List Pair) →
    PairsSent i ss stamp pairs →
    AllByRecursion (λ pair. OnTrue (is_ask pair.arrival.env.how && pair.arrival.env.len == 0)
    (IsTrue (happened (is_whole pair.arrival.env.from pair.arrival.n) h))) pairs →
    AllByRecursion (λ (pair : Pair). 0 < pair.arrival.env.len → happened (is_whole i pair.arrival.n) h ≡ true)
    (filter (is_granted i) pairs) →
    slice_get ss n ≡ Some s → is_ask s.how ≡ true → list_any (is_of_message i n) pairs ≡ true →
    happened (is_whole i n) h ≡ true
asked_whole i n stamp ss s h [] sent empty pieces at asked taken = cc
asked_whole i n stamp ss s h (pair ∷ pairs) sent empty pieces at asked taken =
    by_from (pair.arrival.env.from == i) refl (pair.arrival.n == n) refl taken
    (λ taken. asked_whole i n stamp ss s h pairs sent.1 empty.1 (skip (is_granted i pair) pieces) at asked taken)
  where
    skip : (b : Bool) → AllByRecursion (λ (pair : Pair). 0 < pair.arrival.env.len →
        happened (is_whole i pair.arrival.n) h ≡ true)
        (cond b (pair ∷ filter (is_granted i) pairs) (filter (is_granted i) pairs)) →
        AllByRecursion (λ (pair : Pair). 0 < pair.arrival.env.len → happened (is_whole i pair.arrival.n) h ≡ true)
        (filter (is_granted i) pairs)
    skip true each = each.1
    skip false each = each

    positive : (x : ℕ) → (x == 0) ≡ false → 0 < x
    positive x h = grind (arith, nat_tests)

    by_from : (x : Bool) → (pair.arrival.env.from == i) ≡ x → (y : Bool) → (pair.arrival.n == n) ≡ y →
        ((x && y) || list_any (is_of_message i n) pairs) ≡ true →
        (list_any (is_of_message i n) pairs ≡ true → happened (is_whole i n) h ≡ true) →
        happened (is_whole i n) h ≡ true
    by_from true from_is true n_is taken later =
        let from : pair.arrival.env.from ≡ i = same_number pair.arrival.env.from i from_is in
        let number : pair.arrival.n ≡ n = same_number pair.arrival.n n n_is in
        let is = sent.0 from in
        let how_is : is_ask pair.arrival.env.how ≡ true = ap (λ (env : Envelope). is_ask env.how) is.same
        ∙ ap (λ (s : Sent). is_ask s.how) (same_sent ss n pair.arrival.n s is.sent number at is.at) ∙ asked in
        by_len (pair.arrival.env.len == 0) refl from number how_is
      where
        by_len : (b : Bool) → (pair.arrival.env.len == 0) ≡ b → pair.arrival.env.from ≡ i → pair.arrival.n ≡ n →
            is_ask pair.arrival.env.how ≡ true → happened (is_whole i n) h ≡ true
        by_len true none from number how_is =
            subst (λ (k : ℕ). happened (is_whole k n) h ≡ true) from
            (subst (λ (k : ℕ). happened (is_whole pair.arrival.env.from k) h ≡ true) number
            (at_true (is_ask pair.arrival.env.how && pair.arrival.env.len == 0) (rw (how_is, none) refl) empty.0))
        by_len false some from number how_is =
            let is : is_granted i pair ≡ true = rw (from_is, how_is, some) refl in
            let each = subst (λ (b : Bool). AllByRecursion (λ (pair : Pair). 0 < pair.arrival.env.len →
            happened (is_whole i pair.arrival.n) h ≡ true)
            (cond b (pair ∷ filter (is_granted i) pairs) (filter (is_granted i) pairs))) is pieces in
            subst (λ (k : ℕ). happened (is_whole i k) h ≡ true) number (each.0 (positive pair.arrival.env.len some))
    by_from true from_is false n_is taken later = later taken
    by_from false from_is y n_is taken later = later taken

-- where something happened
pub record Found (p : Happened → Bool) (h : List Event) : Type 0 where
  pub before : List Event
  pub event : Event
  pub after : List Event
  pub split : h ≡ before ++ event ∷ after
  pub passes : p event.what ≡ true

found_from : (p : Happened → Bool) (whole before h : List Event) → whole ≡ before ++ h → happened p h ≡ true →
    Found p whole
found_from p whole before [] same found = cc
found_from p whole before (e ∷ h) same found = by_test (p e.what) refl found
    (found_from p whole (before ++ e ∷ []) h (same ∙ sym (append_assoc before (e ∷ []) h))) where
      by_test : (b : Bool) → p e.what ≡ b → (b || happened p h) ≡ true → (happened p h ≡ true → Found p whole) →
          Found p whole
      by_test true is found later = record { before = before; event = e; after = h; split = same; passes = is }
      by_test false is found later = later found

pub found_at : (p : Happened → Bool) (h : List Event) → happened p h ≡ true → Found p h
found_at p h found = found_from p h [] h refl found

-- a message that an event paired stays paired
taken_by : (i n : ℕ) (h before : List Event) (e : Event) (after : List Event) (pair : Pair) →
    h ≡ before ++ e ∷ after → new_pair before (matched_pairs before) e.what ≡ Some pair →
    is_of_message i n pair ≡ true → is_taken h i n ≡ true
taken_by i n h before e after pair split made is =
    let more = matched_pairs-append (before ++ e ∷ []) after in
    let pairs : matched_pairs (before ++ e ∷ []) ≡ matched_pairs before ++ pair ∷ [] = matched_pairs-push before e
    ∙ ap (λ (o : Option Pair). matched_pairs before ++ option_to_list o) made in
    let here : list_any (is_of_message i n) (matched_pairs before ++ pair ∷ []) ≡ true = list_any-append
    (is_of_message i n) (matched_pairs before) (pair ∷ []) ∙ rw is (or_true _) in
    ap (λ (k : List Event). is_taken k i n) (split ∙ sym (append_assoc before (e ∷ []) after))
    ∙ rw (more.1, list_any-append (is_of_message i n) (matched_pairs (before ++ e ∷ [])) more.0, pairs, here) refl

still_taken : (i n : ℕ) (h before after : List Event) → h ≡ before ++ after → is_taken before i n ≡ true →
    is_taken h i n ≡ true
still_taken i n h before after split taken =
    let more = matched_pairs-append before after in
    ap (λ (k : List Event). is_taken k i n) split
    ∙ rw (more.1, list_any-append (is_of_message i n) (matched_pairs before) more.0) (or_left _ _ taken)

-- what was cleared is paired
cleared_taken : (i n stamp : ℕ) (h : List Event) → Source i h stamp (what.Clear n) → is_taken h i n ≡ true
cleared_taken i n stamp h source =
    let pair : Pair = source.origin.0 in
    taken_by i n h source.before source.event source.after pair source.split source.origin.1
    (is_cleared i n pair source.origin.2 source.origin.3)

-- a message that was sent by asking and has left is paired
pub out_taken : (ranks i j n : ℕ) (hi hj : List Event) (s : Sent) → Always (NumberAt ranks) hi → Always EndAt hi →
    AtEach (MadeAt (HasSource i hj) j) hi → slice_get (sends hi j) n ≡ Some s → is_ask s.how ≡ true →
    happened (is_out j n) hi ≡ true → is_taken hj i n ≡ true
out_taken ranks i j n hi hj s numbers ends made at asked out = by_found (found_at (is_out j n) hi out) where
  by_what : (b : List Event) (e : Event) (after : List Event) → hi ≡ b ++ e ∷ after → (w : Happened) → EndAt b w →
      MadeByPacket (HasSource i hj) j b e.stamp w → is_out j n w ≡ true → is_taken hj i n ≡ true
  by_what b e after split (Out to m) end' made is =
      let to_j : to ≡ j = same_number to j (and_left (to == j) (m == n) is) in
      let m_n : m ≡ n = same_number m n (and_right (to == j) (m == n) is) in
      let numbers_b = AtEach-prefix (λ before e. NumberAt ranks before e.what) b (e ∷ after)
      (subst (λ (k : List Event). Always (NumberAt ranks) k) split numbers) in
      let first : m < length (sends b to) = sent_number ranks b to m numbers_b end'.1 in
      let count : length (sends b to) ≡ length (sends b j) = ap (λ (k : ℕ). length (sends b k)) to_j in
      let lasts = sent_lasts ranks j m (λ (s : Sent). is_ask s.how) hi b (e ∷ after) split numbers
      (omega (arith, first, count)) in
      let asked_b : is_asked (sends b j) m ≡ true = lasts ∙ ap (λ (k : ℕ). is_asked (sends hi j) k) m_n
      ∙ send_is (sends hi j) (λ (s : Sent). is_ask s.how) n s (sends_numbered ranks j hi numbers) at ∙ asked in
      let came = made to_j asked_b in
      let source : Source i hj came.taken.packet.stamp (what.Clear m) =
      subst (λ (w : What). Source i hj came.taken.packet.stamp w) came.same came.holds in
      ap (λ (k : ℕ). is_taken hj i k) (sym m_n) ∙ cleared_taken i m came.taken.packet.stamp hj source
  by_what b e after split w end' made is = cc

  by_found : Found (is_out j n) hi → is_taken hj i n ≡ true
  by_found found =
      by_what found.before found.event found.after found.split found.event.what
      (AtEach-split (λ before e. EndAt before e.what) found.before found.event found.after
      (subst (λ (k : List Event). Always EndAt k) found.split ends))
      (AtEach-split (MadeAt (HasSource i hj) j) found.before found.event found.after
      (subst (λ (k : List Event). AtEach (MadeAt (HasSource i hj) j) k) found.split made)) found.passes

-- a message that came was sent by asking where its send was
arrival_asks : (i n stamp : ℕ) (ss : List Sent) (s : Sent) (h : List Event) → AllByRecursion (SentBefore i ss stamp)
    (messages h) → slice_get ss n ≡ Some s → is_ask s.how ≡ true → happened (is_arrival i n) h ≡ true →
    happened (is_asking i n) h ≡ true
arrival_asks i n stamp ss s [] sent at asked came = cc
arrival_asks i n stamp ss s (e ∷ h) sent at asked came = by_what e.what sent came
    (λ sent came. arrival_asks i n stamp ss s h sent at asked came) where
      by_what : (w : Happened) → AllByRecursion (SentBefore i ss stamp) (cons_option (arrival_of w) (messages h)) →
          (is_arrival i n w || happened (is_arrival i n) h) ≡ true →
          (AllByRecursion (SentBefore i ss stamp) (messages h) → happened (is_arrival i n) h ≡ true →
          happened (is_asking i n) h ≡ true) → (is_asking i n w || happened (is_asking i n) h) ≡ true
      by_what (Arrive a) sent came later = by_test (a.env.from == i) refl (a.n == n) refl came where
        by_test : (x : Bool) → (a.env.from == i) ≡ x → (y : Bool) → (a.n == n) ≡ y →
            ((x && y) || happened (is_arrival i n) h) ≡ true →
            ((x && y && is_ask a.env.how) || happened (is_asking i n) h)
            ≡ true
        by_test true from_is true n_is came =
            let is = sent.0 (same_number a.env.from i from_is) in
            or_left (is_ask a.env.how) _ (ap (λ (env : Envelope). is_ask env.how) is.same
            ∙ ap (λ (s : Sent). is_ask s.how) (same_sent ss n a.n s is.sent (same_number a.n n n_is) at is.at) ∙ asked)
        by_test true from_is false n_is came = later sent.1 came
        by_test false from_is y n_is came = later sent.1 came
      by_what w sent came later = later sent came

pub messages-append : (h more : List Event) → messages (h ++ more) ≡ messages h ++ messages more
messages-append h more = filter_map-append (λ (e : Event). arrival_of e.what) h more

-- a message that was sent by asking and is whole is paired
pub whole_taken : (i n stamp : ℕ) (ss : List Sent) (s : Sent) (h : List Event) → Always WholeAt h →
    AllByRecursion (SentBefore i ss stamp) (messages h) → slice_get ss n ≡ Some s → is_ask s.how ≡ true →
    happened (is_whole i n) h ≡ true → is_taken h i n ≡ true
whole_taken i n stamp ss s h wholes sent at asked whole = by_found (found_at (is_whole i n) h whole) where
  by_what : (b : List Event) (e : Event) (after : List Event) → h ≡ b ++ e ∷ after → (w : Happened) → WholeAt b w →
      is_whole i n w ≡ true → is_taken h i n ≡ true
  by_what b e after split (Whole from m) right is =
      let from_i : from ≡ i = same_number from i (and_left (from == i) (m == n) is) in
      let m_n : m ≡ n = same_number m n (and_right (from == i) (m == n) is) in
      let early = (all_split (SentBefore i ss stamp) (messages b) (messages (e ∷ after))
      (subst (λ (as' : List Arrival). AllByRecursion (SentBefore i ss stamp) as')
      (ap messages split ∙ messages-append b (e ∷ after)) sent)).0 in
      let came : happened (is_arrival i n) b ≡ true = ap (λ (k : ℕ). happened (is_arrival k n) b) (sym from_i)
      ∙ ap (λ (k : ℕ). happened (is_arrival from k) b) (sym m_n) ∙ right.1 in
      let asks : happened (is_asking from m) b ≡ true = ap (λ (k : ℕ). happened (is_asking k m) b) from_i
      ∙ ap (λ (k : ℕ). happened (is_asking i k) b) m_n ∙ arrival_asks i n stamp ss s b early at asked came in
      let taken : is_taken b from m ≡ true = at_true (happened (is_asking from m) b) asks right.2 in
      still_taken i n h b (e ∷ after) split (ap (λ (k : ℕ). is_taken b k n) (sym from_i)
      ∙ ap (λ (k : ℕ). is_taken b from k) (sym m_n) ∙ taken)
  by_what b e after split w right is = cc

  by_found : Found (is_whole i n) h → is_taken h i n ≡ true
  by_found found =
      by_what found.before found.event found.after found.split found.event.what
      (AtEach-split (λ before e. WholeAt before e.what) found.before found.event found.after
      (subst (λ (k : List Event). Always WholeAt k) found.split wholes)) found.passes

-- messages that are paired and sent by asking are over, and those that are claimed alone kept back
pub asked_over : (i j : ℕ) (hi hj : List Event) → NumberedFrom (λ (s : Sent). s.n) 0 (sends hi j) →
    ((s : Sent) → slice_get (sends hi j) s.n ≡ Some s → is_ask s.how ≡ true → is_taken hj i s.n ≡ true →
    (happened (is_out j s.n) hi ≡ true) × (happened (is_whole i s.n) hj ≡ true)) →
    ((s : Sent) → slice_get (sends hi j) s.n ≡ Some s → is_ask s.how ≡ true → happened (is_out j s.n) hi ≡ true →
    is_taken hj i s.n ≡ true) →
    ((s : Sent) → slice_get (sends hi j) s.n ≡ Some s → is_ask s.how ≡ true → happened (is_whole i s.n) hj ≡ true →
    is_taken hj i s.n ≡ true) → AskedOver i j hi hj
asked_over i j hi hj numbered over out whole =
    each_at (λ (s : Sent). OnTrue (is_ask s.how && is_taken hj i s.n) (IsTrue (is_over i j hi hj s.n)) × OnTrue
    (is_ask s.how && is_claimed hj (matched_pairs hj) i s.n) (IsTrue (is_kept_back i j hi hj s.n)))
    (sends hi j) (λ (s : Sent). s.n) numbered (λ s at. (
      on_test (is_ask s.how && is_taken hj i s.n)
          (λ test. let done = over s at (and_left (is_ask s.how) (is_taken hj i s.n) test)
          (and_right (is_ask s.how) (is_taken hj i s.n) test) in both _ _ done.0 done.1),
      on_test (is_ask s.how && is_claimed hj (matched_pairs hj) i s.n) (λ test.
          let asked = and_left (is_ask s.how) (is_claimed hj (matched_pairs hj) i s.n) test in
          let apart = and_right (happened (is_claim i s.n) hj) (not (is_taken hj i s.n))
          (and_right (is_ask s.how) (is_claimed hj (matched_pairs hj) i s.n) test) in
          both _ _ (none (happened (is_out j s.n) hi) (is_taken hj i s.n) apart (out s at asked))
          (none (happened (is_whole i s.n) hj) (is_taken hj i s.n) apart (whole s at asked))),
    ))
  where
    none : (b taken : Bool) → not taken ≡ true → (b ≡ true → taken ≡ true) → not b ≡ true
    none false taken apart gives = refl
    none true taken apart gives = let is : taken ≡ true = gives refl in sym (ap (λ (b : Bool). not b) is) ∙ apart
