-- The pieces that a sender pushes are those that are due.
use Rattle.std.proofs.Common.{◌≡◌, ℕ, zero, suc, ◌+◌, ◌-◌, ◌*◌, ◌/◌, ◌<◌, ◌≤◌, ◌==◌, min, Bool, true, false, not}
use Rattle.std.proofs.Common.{◌&&◌, cond, Option, Some, None, List, [], ◌∷◌, ◌++◌, length, map, drop, refl, sym, ◌∙◌}
use Rattle.std.proofs.Common.{ap, subst, append_assoc, arith}
use Rattle.std.specs.Option.{option_map_or}
use Rattle.std.specs.List.{AllByRecursion, AllZip, filter, filter_map, find, cons_option, slice_get, range_with_len}
use Rattle.std.proofs.lemmas.List.{length-take, length-drop}
use Rattle.std.proofs.Math.Nat.{lt-mul-div-succ, mul-div-le}
use Rattle.nm_types.specs.declared.limits.TheConstants.{MAX_PIECE}
use Rattle.nm_types.specs.declared.messages.Envelope.{Envelope}
use Rattle.nm_history.specs.declared.events.Event.{Event}
use Rattle.nm_history.specs.declared.events.Happened.{Happened}
use Rattle.nm_history.specs.declared.events.Happened.TheVariants.{Out, Send}
use Rattle.nm_history.specs.declared.plain.Pair.{Pair}
use Rattle.nm_history.specs.AtEach.{AtEach, AtEachAfter, in_turn, in_turn_after}
use Rattle.nm_history.specs.Sends.{Sent, sends, sent_of, is_ask}
use Rattle.nm_history.specs.Outgoing.{CalledPiece, ring, pieces_by, send_pieces, message_pieces, part_at}
use Rattle.nm_history.specs.Delivery.{is_asked}
use Rattle.nm_history.specs.RankRun.{Always, NumberAt, EndAt}
use Rattle.nm_history.proofs.AtEachLemmas.{AtEach-split}
use Rattle.nm_history.specs.Effects.{is_empty_send}
use Rattle.nm_history.specs.Clearance.{left_of, pushed_out}
use Rattle.nm_history.specs.Pieces.{Due, due_from, due_of, due_of_all, is_granted}
use Rattle.nm_history.proofs.Basic.{lt_true}
use Rattle.nm_channels.proofs.Arriving.{zip-append}
use Rattle.nm_channels.proofs.Granting.{PairsSent}
use Rattle.nm_channels.proofs.Streams.{SenderAt}
use Rattle.nm_history.proofs.Sent.{sends-cons, sent_number, NumberedFrom, sends_numbered, any_at}
use Rattle.nm_types.proofs.NumberLemmas.{eq_true, lt_false, same_number, eq_less}
use Rattle.nm_types.proofs.ListLemmas.{get_front}
use Rattle.nm_history.proofs.EachLemmas.{AtEach-prefix}
use Rattle.nm_history.proofs.AppendLemmas.{sends-append}

-- a piece is the due one
pub record Matches (c : CalledPiece) (due : Due) : Type 0 where
  pub number : c.n ≡ due.n
  pub place : c.at ≡ due.at
  pub size : length c.bytes ≡ due.size

piece_size : (body : List ℕ) (len k : ℕ) → length body ≡ len → length (part_at MAX_PIECE body k) ≡ min MAX_PIECE
    (len - MAX_PIECE * k)
piece_size body len k sized = rw (
  length-take MAX_PIECE (drop (MAX_PIECE * k) body),
  length-drop
      (MAX_PIECE * k) body,
  sized,
) refl

-- the pieces of a message from a place on
pub pieces_match : (s : Sent) (body : List ℕ) (n at len : ℕ) → s.n ≡ n → length body ≡ len →
    (m k turns : ℕ) → at ≡ MAX_PIECE * k → len ≤ MAX_PIECE * (k + m) →
    (0 < m → MAX_PIECE * (k + m) < len + MAX_PIECE) → m ≤ turns →
    AllZip Matches (map (λ k. record { n = s.n; at = MAX_PIECE * k; bytes = part_at MAX_PIECE body k })
    (range_with_len k m)) (due_from turns n at len)
pieces_match s body n at len is sized zero k zero here enough few turns_left = tt
pieces_match s body n at len is sized zero k (suc turns) here enough few turns_left =
    rw (lt_false at len (omega (arith, here, enough))) tt
pieces_match s body n at len is sized (suc m) k zero here enough few turns_left = absurd (omega (arith, turns_left))
pieces_match s body n at len is sized (suc m) k (suc turns) here enough few turns_left =
    let bound : MAX_PIECE * (k + suc m) < len + MAX_PIECE = few (omega arith) in
    rw (lt_true at len (omega (arith, here, bound))) (
      record {
        number = is;
        place = sym here;
        size = piece_size body len k sized
            ∙ ap (λ (x : ℕ). min MAX_PIECE (len - x)) (sym here);
      },
      pieces_match s body n (at + MAX_PIECE) len is sized m (k + 1) turns (omega (arith, here))
          (omega (arith, enough)) (λ some. omega (arith, bound)) (omega (arith, turns_left)),
    )

-- the pieces of a message are those that are due
pub message_matches : (s : Sent) (body : List ℕ) (n len : ℕ) → s.n ≡ n → s.len ≡ len → length body ≡ len →
    AllZip Matches (message_pieces s body) (due_from len n 0 len)
message_matches s body n len is same sized =
    let over = lt-mul-div-succ (s.len + (MAX_PIECE - 1)) {b = MAX_PIECE} (omega arith) in
    let under = mul-div-le (s.len + (MAX_PIECE - 1)) MAX_PIECE in
    pieces_match s body n 0 len is sized ((s.len + (MAX_PIECE - 1)) / MAX_PIECE) 0 len refl
    (omega (arith, over, same)) (λ some. omega (arith, under, same, some)) (omega (arith, under, same))

-- the pieces of the message of a number
abbrev pub pieces_of : (Sent → List ℕ) → List Sent → ℕ → List CalledPiece
pieces_of bodies ss n = option_map_or (λ s. message_pieces s (bodies s)) (slice_get ss n) []

-- the pieces of the messages of these numbers
abbrev pub pieces_of_all : (Sent → List ℕ) → List Sent → List ℕ → List CalledPiece
pieces_of_all bodies ss [] = []
pieces_of_all bodies ss (n ∷ ns) = pieces_of bodies ss n ++ pieces_of_all bodies ss ns

of_option : (bodies : Sent → List ℕ) (ss : List Sent) (o : Option ℕ) (ns : List ℕ) →
    pieces_of_all bodies ss (cons_option o ns) ≡ option_map_or (pieces_of bodies ss) o [] ++ pieces_of_all bodies ss ns
of_option bodies ss None ns = refl
of_option bodies ss (Some n) ns = refl

find_at : {X : Type 0} (f : X → ℕ) (k i m : ℕ) (xs : List X) → m ≡ k + i → NumberedFrom f k xs →
    find (λ x. f x == m) xs ≡ slice_get xs i
find_at f k i m [] is numbered = refl
find_at f k zero m (x ∷ xs) is numbered = rw (eq_true (f x) m (omega (arith, is, numbered.0))) refl
find_at f k (suc i) m (x ∷ xs) is numbered = rw (eq_less (f x) m (omega (arith, is, numbered.0)))
    (find_at f (k + 1) i m xs (omega (arith, is)) numbered.1)

no_pieces : (s : Sent) (body : List ℕ) → (s.len == 0) ≡ true → message_pieces s body ≡ []
no_pieces s body empty =
    let none : (s.len + (MAX_PIECE - 1)) / MAX_PIECE ≡ 0 = ap (λ (k : ℕ). (k + (MAX_PIECE - 1)) / MAX_PIECE)
    (same_number s.len 0 empty) in
    ap (λ (m : ℕ). map (λ k. record { n = s.n; at = MAX_PIECE * k; bytes = part_at MAX_PIECE body k })
    (range_with_len 0 m)) none

-- the pieces that an event calls for are those of the message that leaves
event_pieces : (ranks : ℕ) (bodies : Sent → List ℕ) (whole : List Event) (j : ℕ) (b : List Event) (e : Event)
    (after : List Event) → whole ≡ b ++ e ∷ after → Always (NumberAt ranks) whole → (w : Happened) → EndAt b w →
    pieces_by bodies j b w ≡ option_map_or (pieces_of bodies (sends whole j)) (left_of whole j w) []
event_pieces ranks bodies whole j b e after split numbers (Out to n) end' = by_to (to == j) refl where
  ss : List Sent
  ss = sends whole j

  by_sent : (o : Option Sent) → slice_get ss n ≡ o → option_map_or (send_pieces bodies) o [] ≡ option_map_or
      (pieces_of bodies ss) (cond (is_asked ss n && not (is_empty_send whole j n)) (Some n) None) []
  by_sent None at = by_test (is_asked ss n && not (is_empty_send whole j n)) where
    by_test : (x : Bool) → [] ≡ option_map_or (pieces_of bodies ss) (cond x (Some n) None) []
    by_test true = ap (λ (o : Option Sent). option_map_or (λ s. message_pieces s (bodies s)) o []) (sym at)
    by_test false = refl
  by_sent (Some s) at =
      let numbered = sends_numbered ranks j whole numbers in
      let asked : is_asked ss n ≡ is_ask s.how = any_at (λ (s : Sent). s.n) (λ (s : Sent). is_ask s.how) 0 n n ss s
      (omega arith) numbered at in
      let empty : is_empty_send whole j n ≡ (s.len == 0) = any_at (λ (s : Sent). s.n) (λ (s : Sent). s.len == 0) 0 n n
      ss s (omega arith) numbered at in
      rw (asked, empty) (by_tests (is_ask s.how) (s.len == 0) refl)
    where
      by_tests : (x y : Bool) → (s.len == 0) ≡ y → cond x (message_pieces s (bodies s)) [] ≡ option_map_or
          (pieces_of bodies ss) (cond (x && not y) (Some n) None) []
      by_tests true true empty = no_pieces s (bodies s) empty
      by_tests true false empty = ap (λ (o : Option Sent). option_map_or (λ s. message_pieces s (bodies s)) o [])
          (sym at)
      by_tests false y empty = refl

  by_to : (x : Bool) → (to == j) ≡ x →
      cond x (option_map_or (send_pieces bodies) (find (λ s. s.n == n) (sends b j)) []) [] ≡ option_map_or
      (pieces_of bodies ss) (cond (x && is_asked ss n && not (is_empty_send whole j n)) (Some n) None) []
  by_to false test = refl
  by_to true test =
      let numbers_b = AtEach-prefix (λ before e. NumberAt ranks before e.what) b (e ∷ after)
      (subst (λ (k : List Event). Always (NumberAt ranks) k) split numbers) in
      let first : n < length (sends b to) = sent_number ranks b to n numbers_b end'.1 in
      let to_j : length (sends b to) ≡ length (sends b j) = ap (λ (k : ℕ). length (sends b k))
      (same_number to j test) in
      let found : find (λ s. s.n == n) (sends b j) ≡ slice_get ss n =
      find_at (λ (s : Sent). s.n) 0 n n (sends b j) (omega arith) (sends_numbered ranks j b numbers_b)
      ∙ sym (get_front (sends b j) (sends (e ∷ after) j) n (omega (arith, first, to_j)))
      ∙ ap (λ (xs : List Sent). slice_get xs n)
      (sym (ap (λ (k : List Event). sends k j) split ∙ sends-append b (e ∷ after) j)) in
      ap (λ (o : Option Sent). option_map_or (send_pieces bodies) o []) found ∙ by_sent (slice_get ss n) refl
event_pieces ranks bodies whole j b e after split numbers w end' = refl

ring_from : (ranks : ℕ) (bodies : Sent → List ℕ) (whole : List Event) (j : ℕ) (b events : List Event) →
    whole ≡ b ++ events → Always (NumberAt ranks) whole → Always EndAt whole →
    in_turn_after (λ before e. pieces_by bodies j before e.what) b events ≡ pieces_of_all bodies (sends whole j)
    (filter_map (λ e. left_of whole j e.what) events)
ring_from ranks bodies whole j b [] split numbers ends = refl
ring_from ranks bodies whole j b (e ∷ events) split numbers ends =
    let end' = AtEach-split (λ before e. EndAt before e.what) b e events
    (subst (λ (k : List Event). Always EndAt k) split ends) in
    let rest = ring_from ranks bodies whole j (b ++ e ∷ []) events (split ∙ sym (append_assoc b (e ∷ []) events))
    numbers ends in
    let left : List ℕ = filter_map (λ e. left_of whole j e.what) events in
    ap (λ (cs : List CalledPiece). cs ++ in_turn_after (λ before e. pieces_by bodies j before e.what)
    (b ++ e ∷ []) events) (event_pieces ranks bodies whole j b e events split numbers e.what end')
    ∙ ap (λ (cs : List CalledPiece). option_map_or (pieces_of bodies (sends whole j)) (left_of whole j e.what) [] ++
    cs) rest
    ∙ sym (of_option bodies (sends whole j) (left_of whole j e.what) left)

-- the pieces that a history calls for are those of the messages that left
pub ring_is : (ranks : ℕ) (bodies : Sent → List ℕ) (j : ℕ) (h : List Event) → Always (NumberAt ranks) h →
    Always EndAt h → ring bodies h j ≡ pieces_of_all bodies (sends h j) (pushed_out h j)
unfolding in_turn
ring_is ranks bodies j h numbers ends = ring_from ranks bodies h j [] h refl numbers ends

-- the bodies of sends have their lengths
abbrev pub Sized : (Sent → List ℕ) → List Sent → Type 0
Sized bodies ss = AllByRecursion (λ (s : Sent). length (bodies s) ≡ s.len) ss

pub sized_at : (bodies : Sent → List ℕ) (ss : List Sent) (n : ℕ) (s : Sent) → Sized bodies ss →
    slice_get ss n ≡ Some s → length (bodies s) ≡ s.len
sized_at bodies [] n s sized at = cc
sized_at bodies (x ∷ ss) zero s sized at = let same : x ≡ s = cc in
    subst (λ (s : Sent). length (bodies s) ≡ s.len) same sized.0
sized_at bodies (x ∷ ss) (suc n) s sized at = sized_at bodies ss n s sized.1 at

-- the pieces of the messages of pairs are those that are due
pub pairs_match : (i j stamp : ℕ) (bodies : Sent → List ℕ) (ss : List Sent) (pairs : List Pair) → Sized bodies ss →
    PairsSent i ss stamp pairs →
    AllZip Matches (pieces_of_all bodies ss (map (λ (pair : Pair). pair.arrival.n) (filter (is_granted i) pairs)))
    (due_of_all (filter (is_granted i) pairs))
pairs_match i j stamp bodies ss [] sized sent = tt
pairs_match i j stamp bodies ss (pair ∷ pairs) sized sent =
    by_from (pair.arrival.env.from == i) refl (is_ask pair.arrival.env.how && not (pair.arrival.env.len == 0))
    (and_assoc (pair.arrival.env.from == i) (is_ask pair.arrival.env.how) (not (pair.arrival.env.len == 0)))
    (pairs_match i j stamp bodies ss pairs sized sent.1)
  where
    and_assoc : (x y z : Bool) → (x && y && z) ≡ (x && (y && z))
    and_assoc true y z = refl
    and_assoc false y z = refl

    by_from : (x : Bool) → (pair.arrival.env.from == i) ≡ x →
        (y : Bool) → is_granted i pair ≡ ((pair.arrival.env.from == i) && y) →
        AllZip Matches (pieces_of_all bodies ss (map (λ (pair : Pair). pair.arrival.n) (filter (is_granted i) pairs)))
        (due_of_all (filter (is_granted i) pairs)) →
        AllZip Matches (pieces_of_all bodies ss
        (map (λ (pair : Pair). pair.arrival.n) (filter (is_granted i) (pair ∷ pairs))))
        (due_of_all (filter (is_granted i) (pair ∷ pairs)))
    by_from false test y is later = rw (is, test) later
    by_from true test false is later = rw (is, test) later
    by_from true test true is later =
        let as' = sent.0 (same_number pair.arrival.env.from i test) in
        let len : as'.sent.len ≡ pair.arrival.env.len = ap (λ (env : Envelope). env.len) (sym as'.same) in
        let here : AllZip Matches (pieces_of bodies ss pair.arrival.n) (due_of pair) =
        subst (λ (o : Option Sent). AllZip Matches (option_map_or (λ s. message_pieces s (bodies s)) o [])
        (due_of pair)) (sym as'.at)
        (message_matches as'.sent (bodies as'.sent) pair.arrival.n pair.arrival.env.len as'.number len
        (sized_at bodies ss pair.arrival.n as'.sent sized as'.at ∙ len)) in
        rw (is, test) (zip-append Matches (pieces_of bodies ss pair.arrival.n) _ (due_of pair) _ here later)

sized_from : (eager : ℕ) (bodies : Sent → List ℕ) (j : ℕ) (b events : List Event) →
    AtEachAfter (λ before e. SenderAt eager bodies before e.stamp e.what) b events → Sized bodies (sends events j)
sized_from eager bodies j b [] each = tt
sized_from eager bodies j b (e ∷ events) each =
    subst (λ (ss : List Sent). Sized bodies ss) (sym (sends-cons e events j))
    (by_what e.what each.0 (sized_from eager bodies j (b ++ e ∷ []) events each.1))
  where
    by_what : (w : Happened) → SenderAt eager bodies b e.stamp w → Sized bodies (sends events j) →
        Sized bodies (filter (λ s. s.to == j) (cons_option (sent_of e.stamp w) []) ++ sends events j)
    by_what (Send to n tag ctx len how line) right later = by_to (to == j) where
      by_to : (x : Bool) → Sized bodies
          (cond x (record { stamp = e.stamp; to = to; n = n; tag = tag; ctx = ctx; len = len; how = how; line = line } ∷
          []) [] ++ sends events j)
      by_to true = (right.1.sized, later)
      by_to false = later
    by_what w right later = later

-- the bodies of a rank's sends have their lengths
pub sends_sized : (eager : ℕ) (bodies : Sent → List ℕ) (j : ℕ) (h : List Event) →
    AtEach (λ before e. SenderAt eager bodies before e.stamp e.what) h → Sized bodies (sends h j)
unfolding AtEach
sends_sized eager bodies j h each = sized_from eager bodies j [] h each
