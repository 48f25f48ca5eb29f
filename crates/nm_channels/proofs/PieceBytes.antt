-- The pieces of a message carry its body, and none after the last one carries more of it.
use Rattle.std.proofs.Common.{◌≡◌, ℕ, zero, suc, ◌+◌, ◌-◌, ◌*◌, ◌/◌, ◌<◌, ◌≤◌, ◌==◌, Bool, true, false, not, ◌&&◌}
use Rattle.std.proofs.Common.{◌||◌, cond, Option, Some, None, List, [], ◌∷◌, ◌++◌, map, refl, sym, ◌∙◌, ap, subst}
use Rattle.std.proofs.Common.{append-nil, append_assoc, arith, min}
use Rattle.std.specs.Prelude.{nat_lt, nat_le}
use Rattle.std.specs.Option.{option_map_or}
use Rattle.std.specs.List.{AllByRecursion, AllPairs, AllZip, filter, list_any, slice_get, range_with_len}
use Rattle.std.proofs.lemmas.Bool.Decides.{nat_tests}
use Rattle.std.proofs.lemmas.List.Folds.{list_any-append}
use Rattle.std.proofs.lemmas.List.{map-append}
use Rattle.std.proofs.lemmas.List.Elements.{filter-append, recursion_from_All}
use Rattle.std.proofs.Math.Nat.{lt-mul-div-succ}
use Rattle.nm_types.specs.declared.limits.TheConstants.{MAX_PIECE}
use Rattle.nm_history.specs.declared.plain.Pair.{Pair}
use Rattle.nm_history.specs.Sends.{Sent}
use Rattle.nm_history.specs.Outgoing.{CalledPiece, AreCalledPieces, message_pieces, part_at, is_clear}
use Rattle.nm_history.specs.Once.{TwoMessages}
use Rattle.nm_history.specs.Continues.{AreApart, has}
use Rattle.nm_history.specs.Pieces.{Pulled, Due, due_from, due_of, due_of_all, is_granted}
use Rattle.nm_history.specs.Bytes.{piece_bytes, pulled_bytes}
use Rattle.nm_history.proofs.Basic.{self_true, or_false, refuted}
use Rattle.nm_channels.proofs.Cutting.{Matches, Sized, sized_at, pieces_of_all}
use Rattle.nm_channels.proofs.EagerBytes.{joined, joined_all}
use Rattle.nm_channels.proofs.Over.{last_gives}
use Rattle.nm_history.proofs.Sent.{NumberedFrom, numbered_at}
use Rattle.nm_types.proofs.NumberLemmas.{eq_true, lt_false, same_number}
use Rattle.nm_types.proofs.TruthLemmas.{or_left, or_right, and_left, and_right}
use Rattle.nm_types.proofs.ListLemmas.{all_along}

-- the bytes of message n that pieces carry which are called for
abbrev pub ring_bytes : ℕ → List CalledPiece → List ℕ
ring_bytes n [] = []
ring_bytes n (c ∷ cs) = cond (c.n == n) c.bytes [] ++ ring_bytes n cs

-- pieces that continued carry what those carry that were called for
pub pulled_is_called : (i num n : ℕ) (cs : List CalledPiece) (ds : List Pulled) → AreCalledPieces i num cs
    (map (λ d. d.piece) ds) → AllByRecursion (λ d. d.continued ≡ true) ds → piece_bytes n ds ≡ ring_bytes n cs
pulled_is_called i num n [] [] called goes = refl
pulled_is_called i num n [] (d ∷ ds) called goes = absurd called
pulled_is_called i num n (c ∷ cs) [] called goes = absurd called
pulled_is_called i num n (c ∷ cs) (d ∷ ds) called goes =
    let now : pulled_bytes n d ≡ cond (c.n == n) c.bytes [] = rw (goes.0, called.0.message, called.0.same) refl in
    ap (λ (xs : List ℕ). xs ++ piece_bytes n ds) now ∙ ap (λ (xs : List ℕ). cond (c.n == n) c.bytes [] ++ xs)
    (pulled_is_called i (num + 1) n cs ds called.1 goes.1)

-- pieces of one message carry its parts
message_bytes : (n : ℕ) (s : Sent) (body : List ℕ) (ks : List ℕ) (rest : List CalledPiece) →
    ring_bytes n (map (λ k. record { n = s.n; at = MAX_PIECE * k; bytes = part_at MAX_PIECE body k }) ks ++ rest)
    ≡ cond (s.n == n) (joined MAX_PIECE body ks) [] ++ ring_bytes n rest
message_bytes n s body [] rest = by_test (s.n == n) where
  by_test : (b : Bool) → ring_bytes n rest ≡ cond b [] [] ++ ring_bytes n rest
  by_test true = refl
  by_test false = refl
message_bytes n s body (k ∷ ks) rest =
    ap (λ (xs : List ℕ). cond (s.n == n) (part_at MAX_PIECE body k) [] ++ xs) (message_bytes n s body ks rest)
    ∙ by_test (s.n == n)
  where
    by_test : (b : Bool) → cond b (part_at MAX_PIECE body k) [] ++
        (cond b (joined MAX_PIECE body ks) [] ++ ring_bytes n rest) ≡ cond b
        (part_at MAX_PIECE body k ++ joined MAX_PIECE body ks) [] ++ ring_bytes n rest
    by_test true = sym (append_assoc (part_at MAX_PIECE body k) (joined MAX_PIECE body ks) (ring_bytes n rest))
    by_test false = refl

-- the pieces of messages carry their bodies
pub all_bytes : (bodies : Sent → List ℕ) (ss : List Sent) (n : ℕ) (s : Sent) (ns : List ℕ) → AreApart ns →
    NumberedFrom (λ (s : Sent). s.n) 0 ss → Sized bodies ss → slice_get ss n ≡ Some s →
    ring_bytes n (pieces_of_all bodies ss ns) ≡ cond (has ns n) (bodies s) []
all_bytes bodies ss n s [] distinct numbered sized at = refl
all_bytes bodies ss n s (m ∷ ns) distinct numbered sized at = by_sent (slice_get ss m) refl
    (all_bytes bodies ss n s ns distinct.1 numbered sized at) where
      by_none : (b : Bool) → (m == n) ≡ b → slice_get ss m ≡ None → ring_bytes n (pieces_of_all bodies ss ns) ≡ cond
          (has ns n) (bodies s) [] → ring_bytes n (pieces_of_all bodies ss ns) ≡ cond (b || has ns n) (bodies s) []
      by_none true test at' later = let same : slice_get ss n ≡ None = ap (λ (k : ℕ). slice_get ss k)
          (sym (same_number m n test)) ∙ at' in cc
      by_none false test at' later = later

      by_some : (x : Sent) → slice_get ss m ≡ Some x → (b : Bool) →
          (m == n) ≡ b → ring_bytes n (pieces_of_all bodies ss ns) ≡ cond (has ns n) (bodies s) [] →
          cond b (bodies x) [] ++ ring_bytes n (pieces_of_all bodies ss ns) ≡ cond (b || has ns n) (bodies s) []
      by_some x at' true test later =
          let m_n : m ≡ n = same_number m n test in
          let both : Some x ≡ Some s = sym at' ∙ ap (λ (k : ℕ). slice_get ss k) m_n ∙ at in
          let same : x ≡ s = cc in
          let none : has ns n ≡ false = ap (λ (k : ℕ). has ns k) (sym m_n) ∙ distinct.0 in
          ap (λ (xs : List ℕ). bodies x ++ xs) (later ∙ rw none refl) ∙ append-nil (bodies x) ∙ ap bodies same
      by_some x at' false test later = later

      by_sent : (o : Option Sent) → slice_get ss m ≡ o → ring_bytes n (pieces_of_all bodies ss ns) ≡ cond (has ns n)
          (bodies s) [] →
          ring_bytes n (option_map_or (λ s. message_pieces s (bodies s)) o [] ++ pieces_of_all bodies ss ns) ≡ cond
          (m == n || has ns n) (bodies s) []
      by_sent None at' later = by_none (m == n) refl at' later
      by_sent (Some x) at' later =
          let number : x.n ≡ m = numbered_at (λ (s : Sent). s.n) 0 ss m x numbered at' ∙ zero_plus m in
          let over = lt-mul-div-succ (x.len + (MAX_PIECE - 1)) {b = MAX_PIECE} (omega arith) in
          let whole : joined MAX_PIECE (bodies x) (range_with_len 0 ((x.len + (MAX_PIECE - 1)) / MAX_PIECE))
          ≡ bodies x =
          joined_all MAX_PIECE (bodies x) ((x.len + (MAX_PIECE - 1)) / MAX_PIECE)
          (omega (arith, over, sized_at bodies ss m x sized at')) in
          message_bytes n x (bodies x) (range_with_len 0 ((x.len + (MAX_PIECE - 1)) / MAX_PIECE))
          (pieces_of_all bodies ss ns)
          ∙ ap (λ (xs : List ℕ). cond (x.n == n) xs [] ++ ring_bytes n (pieces_of_all bodies ss ns)) whole
          ∙ ap (λ (k : ℕ). cond (k == n) (bodies x) [] ++ ring_bytes n (pieces_of_all bodies ss ns)) number
          ∙ by_some x at' (m == n) refl later
        where
          zero_plus : (m : ℕ) → 0 + m ≡ m
          zero_plus m = omega arith

-- after the last piece of a message no other one of it is due
abbrev LastsAreLast : List Due → Type 0
LastsAreLast [] = Unit {0}
LastsAreLast (due ∷ dues) = (due.last ≡ true → list_any (λ d. d.n == due.n) dues ≡ false) × LastsAreLast dues

at_most : (x y : ℕ) → nat_le x y ≡ true → x ≤ y
at_most x y h = grind (arith, nat_tests)

lasts_from : (n len : ℕ) (rest : List Due) → list_any (λ d. d.n == n) rest ≡ false → LastsAreLast rest →
    (turns at : ℕ) → LastsAreLast (due_from turns n at len ++ rest)
lasts_from n len rest none lasts zero at = lasts
lasts_from n len rest none lasts (suc turns) at = by_more (nat_lt at len)
    (lasts_from n len rest none lasts turns (at + MAX_PIECE)) where
      past : (turns at : ℕ) → len ≤ at → due_from turns n at len ≡ []
      past zero at over = refl
      past (suc turns) at over = rw (lt_false at len over) refl

      by_more : (b : Bool) → LastsAreLast (due_from turns n (at + MAX_PIECE) len ++ rest) →
          LastsAreLast (cond b (record {
            n = n;
            at = at;
            size = min MAX_PIECE (len - at);
            last = nat_le len
                (at + MAX_PIECE);
          } ∷ due_from turns n (at + MAX_PIECE) len) [] ++ rest)
      by_more false later = lasts
      by_more true later = ((λ last. rw (past turns (at + MAX_PIECE) (at_most len (at + MAX_PIECE) last)) none), later)

no_due_from : (n m len : ℕ) (rest : List Due) → (m == n) ≡ false → list_any (λ d. d.n == n) rest ≡ false →
    (turns at : ℕ) → list_any (λ d. d.n == n) (due_from turns m at len ++ rest) ≡ false
no_due_from n m len rest other none zero at = none
no_due_from n m len rest other none (suc turns) at = by_more (nat_lt at len)
    (no_due_from n m len rest other none turns (at + MAX_PIECE)) where
      by_more : (b : Bool) → list_any (λ d. d.n == n) (due_from turns m (at + MAX_PIECE) len ++ rest) ≡ false →
          list_any (λ d. d.n == n)
          (cond b (record { n = m; at = at; size = min MAX_PIECE (len - at); last = nat_le len (at + MAX_PIECE) } ∷
          due_from turns m (at + MAX_PIECE) len) [] ++ rest) ≡ false
      by_more false later = none
      by_more true later = rw other later

-- the numbers of pairs
abbrev pub numbers_in : List Pair → List ℕ
numbers_in pairs = map (λ (pair : Pair). pair.arrival.n) pairs

none_due : (n : ℕ) (pairs : List Pair) → has (numbers_in pairs) n ≡ false → list_any (λ d. d.n == n)
    (due_of_all pairs) ≡ false
none_due n [] none = refl
none_due n (pair ∷ pairs) none = by_test (pair.arrival.n == n) refl none (none_due n pairs) where
  by_test : (b : Bool) → (pair.arrival.n == n) ≡ b → (b || has (numbers_in pairs) n) ≡ false →
      (has (numbers_in pairs) n ≡ false → list_any (λ d. d.n == n) (due_of_all pairs) ≡ false) →
      list_any (λ d. d.n == n) (due_of_all (pair ∷ pairs)) ≡ false
  by_test true test none later = cc
  by_test false test none later = no_due_from n pair.arrival.n pair.arrival.env.len (due_of_all pairs) test
      (later none) pair.arrival.env.len 0

lasts_of : (pairs : List Pair) → AreApart (numbers_in pairs) → LastsAreLast (due_of_all pairs)
lasts_of [] distinct = tt
lasts_of (pair ∷ pairs) distinct = lasts_from pair.arrival.n pair.arrival.env.len (due_of_all pairs)
    (none_due pair.arrival.n pairs distinct.0) (lasts_of pairs distinct.1) pair.arrival.env.len 0

-- the last piece of message n is among these
abbrev has_last : ℕ → List Due → Bool
has_last n dues = list_any (λ d. d.n == n && d.last) dues

any_here : {X : Type 0} (test : X → Bool) (before xs : List X) →
    AllByRecursion (λ x. test x ≡ true → list_any test (before ++ xs) ≡ true) xs
any_here test before [] = tt
any_here test before (x ∷ xs) = (
  (λ is. list_any-append test before (x ∷ xs) ∙ or_right _ _ (or_left _ _ is)),
  subst (λ ys. AllByRecursion (λ x. test x ≡ true → list_any test ys ≡ true) xs) (append_assoc before (x ∷ []) xs)
      (any_here test (before ++ x ∷ []) xs),
)

has_last_of : (n : ℕ) (pairs : List Pair) → AllByRecursion (λ (pair : Pair). 0 < pair.arrival.env.len) pairs →
    has (numbers_in pairs) n ≡ true → has_last n (due_of_all pairs) ≡ true
has_last_of n [] some found = cc
has_last_of n (pair ∷ pairs) some found = by_test (pair.arrival.n == n) refl found (has_last_of n pairs some.1) where
  by_test : (b : Bool) → (pair.arrival.n == n) ≡ b → (b || has (numbers_in pairs) n) ≡ true →
      (has (numbers_in pairs) n ≡ true → has_last n (due_of_all pairs) ≡ true) → has_last n (due_of_all (pair ∷ pairs))
      ≡ true
  by_test false test found later = list_any-append (λ (d : Due). d.n == n && d.last) (due_of pair) (due_of_all pairs)
      ∙ or_right _ _ (later found)
  by_test true test found later =
      let all : List Due = due_of pair ++ due_of_all pairs in
      last_gives (has_last n all ≡ true) pair.arrival.n (due_of_all pairs) pair.arrival.env.len 0 pair.arrival.env.len
      some.0 (omega arith)
      (all_along (λ (d : Due). (d.n == n && d.last) ≡ true → has_last n all ≡ true)
      (λ d. d.last ≡ true → d.n ≡ pair.arrival.n → has_last n all ≡ true) all
      (λ d gives last same. gives (rw (eq_true d.n n (same ∙ same_number pair.arrival.n n test), last) refl))
      (any_here (λ (d : Due). d.n == n && d.last) [] all))

after_last : (n : ℕ) (past dues : List Due) → LastsAreLast (past ++ dues) → has_last n past ≡ true →
    list_any (λ d. d.n == n) dues ≡ false
after_last n [] dues lasts found = cc
after_last n (d ∷ past) dues lasts found = by_test (d.n == n) refl d.last refl found (after_last n past dues lasts.1)
  where
    by_test : (a : Bool) → (d.n == n) ≡ a → (b : Bool) → d.last ≡ b → ((a && b) || has_last n past) ≡ true →
        (has_last n past ≡ true → list_any (λ d. d.n == n) dues ≡ false) → list_any (λ d. d.n == n) dues ≡ false
    by_test true test true last found later =
        let none : list_any (λ (x : Due). x.n == d.n) (past ++ dues) ≡ false = lasts.0 last in
        no_right (list_any (λ (x : Due). x.n == n) past) _ (sym (list_any-append (λ (x : Due). x.n == n) past dues)
        ∙ ap (λ (k : ℕ). list_any (λ (x : Due). x.n == k) (past ++ dues)) (sym (same_number d.n n test)) ∙ none)
      where
        no_right : (a b : Bool) → (a || b) ≡ false → b ≡ false
        no_right true b h = cc
        no_right false b h = h
    by_test true test false last found later = later found
    by_test false test b last found later = later found

-- no more pieces of a message are due where its last one was
pub no_more_due : (n : ℕ) (pairs : List Pair) (past dues : List Due) → AreApart (numbers_in pairs) →
    AllByRecursion (λ (pair : Pair). 0 < pair.arrival.env.len) pairs → has (numbers_in pairs) n ≡ true →
    due_of_all pairs ≡ past ++ dues → has_last n dues ≡ false →
    list_any (λ d. d.n == n) dues ≡ false
no_more_due n pairs past dues distinct some found split none =
    let all : has_last n (past ++ dues) ≡ true = ap (λ (ds : List Due). has_last n ds) (sym split)
    ∙ has_last_of n pairs some found in
    let here : has_last n past ≡ true = sym (or_false _) ∙ ap (λ (b : Bool). has_last n past || b) (sym none)
    ∙ sym (list_any-append (λ (d : Due). d.n == n && d.last) past dues) ∙ all in
    after_last n past dues (subst LastsAreLast split (lasts_of pairs distinct)) here

-- pieces that match others carry nothing of a message that those have nothing of
pub no_ring_bytes : (n : ℕ) (cs : List CalledPiece) (dues : List Due) → AllZip Matches cs dues →
    list_any (λ d. d.n == n) dues ≡ false → ring_bytes n cs ≡ []
no_ring_bytes n [] dues zip none = refl
no_ring_bytes n (c ∷ cs) [] zip none = absurd zip
no_ring_bytes n (c ∷ cs) (d ∷ dues) zip none = by_test (d.n == n) refl none (no_ring_bytes n cs dues zip.1) where
  by_test : (b : Bool) → (d.n == n) ≡ b → (b || list_any (λ d. d.n == n) dues) ≡ false →
      (list_any (λ d. d.n == n) dues ≡ false → ring_bytes n cs ≡ []) → cond (c.n == n) c.bytes [] ++ ring_bytes n cs
      ≡ []
  by_test true test none later = cc
  by_test false test none later = rw (zip.0.number, test) (later none)

pub ring_bytes-append : (n : ℕ) (cs more : List CalledPiece) →
    ring_bytes n (cs ++ more) ≡ ring_bytes n cs ++ ring_bytes n more
ring_bytes-append n [] more = refl
ring_bytes-append n (c ∷ cs) more =
    ap (λ (xs : List ℕ). cond (c.n == n) c.bytes [] ++ xs) (ring_bytes-append n cs more)
    ∙ sym (append_assoc (cond (c.n == n) c.bytes []) (ring_bytes n cs) (ring_bytes n more))

-- a message of one pair is in no later one
not_among : (i : ℕ) (x : Pair) (pairs : List Pair) → x.arrival.env.from ≡ i →
    AllByRecursion (λ y. TwoMessages x y) pairs → has (numbers_in (filter (is_granted i) pairs)) x.arrival.n ≡ false
not_among i x [] from each = refl
not_among i x (y ∷ pairs) from each = by_granted (is_granted i y) refl (not_among i x pairs from each.1) where
  by_granted : (b : Bool) → is_granted i y ≡ b → has (numbers_in (filter (is_granted i) pairs)) x.arrival.n ≡ false →
      has (numbers_in (cond b (y ∷ filter (is_granted i) pairs) (filter (is_granted i) pairs))) x.arrival.n ≡ false
  by_granted false is later = later
  by_granted true is later =
      let from_y : y.arrival.env.from ≡ i = same_number y.arrival.env.from i (and_left _ _ (and_left _ _ is)) in
      rw (refuted (y.arrival.n == x.arrival.n)
      (λ test. absurd (each.0 (from ∙ sym from_y) (sym (same_number y.arrival.n x.arrival.n test))))) later

-- messages that come in pieces have different numbers
pub granted_distinct : (i : ℕ) (pairs : List Pair) → AllPairs TwoMessages pairs →
    AreApart (numbers_in (filter (is_granted i) pairs))
granted_distinct i [] each = tt
granted_distinct i (x ∷ pairs) each =
    by_granted (is_granted i x) refl
    (recursion_from_All (λ y. TwoMessages x y) pairs (λ k d lt. each 0 (suc k) d (omega arith) (omega arith)))
    (granted_distinct i pairs (λ p q d lt inside. each (suc p) (suc q) d (omega arith) (omega arith)))
  where
    by_granted : (b : Bool) → is_granted i x ≡ b → AllByRecursion (λ y. TwoMessages x y) pairs →
        AreApart (numbers_in (filter (is_granted i) pairs)) →
        AreApart (numbers_in (cond b (x ∷ filter (is_granted i) pairs) (filter (is_granted i) pairs)))
    by_granted false is two later = later
    by_granted true is two later =
        (not_among i x pairs (same_number x.arrival.env.from i (and_left _ _ (and_left _ _ is))) two, later)

-- and bodies
pub granted_some : (i : ℕ) (pairs : List Pair) → AllByRecursion (λ (pair : Pair). 0 < pair.arrival.env.len)
    (filter (is_granted i) pairs)
granted_some i [] = tt
granted_some i (x ∷ pairs) = by_granted (is_granted i x) refl (granted_some i pairs) where
  positive : (x : ℕ) → not (x == 0) ≡ true → 0 < x
  positive x h = grind (arith, nat_tests)

  by_granted : (b : Bool) → is_granted i x ≡ b → AllByRecursion (λ (pair : Pair). 0 < pair.arrival.env.len)
      (filter (is_granted i) pairs) → AllByRecursion (λ (pair : Pair). 0 < pair.arrival.env.len)
      (cond b (x ∷ filter (is_granted i) pairs) (filter (is_granted i) pairs))
  by_granted false is later = later
  by_granted true is later =
      (positive x.arrival.env.len (and_right (is_clear i x) (not (x.arrival.env.len == 0)) is), later)

granted_each : (i : ℕ) (before pairs : List Pair) → AllByRecursion (λ (pair : Pair). is_granted i pair ≡ true →
    has (numbers_in (filter (is_granted i) (before ++ pairs))) pair.arrival.n ≡ true) pairs
granted_each i before [] = tt
granted_each i before (x ∷ pairs) = (
  (λ is.
      ap (λ (ps : List Pair). has (numbers_in ps) x.arrival.n) (filter-append (is_granted i) before (x ∷ pairs))
      ∙ ap (λ (ns : List ℕ). has ns x.arrival.n)
      (map-append (λ (pair : Pair). pair.arrival.n) (filter (is_granted i) before)
      (filter (is_granted i) (x ∷ pairs)))
      ∙ list_any-append (λ (m : ℕ). m == x.arrival.n) (numbers_in (filter (is_granted i) before))
      (numbers_in (filter (is_granted i) (x ∷ pairs)))
      ∙ or_right (has (numbers_in (filter (is_granted i) before)) x.arrival.n)
      (has (numbers_in (filter (is_granted i) (x ∷ pairs))) x.arrival.n) (here is)),
  subst (λ (all : List Pair). AllByRecursion (λ (pair : Pair). is_granted i pair ≡ true →
      has (numbers_in (filter (is_granted i) all)) pair.arrival.n ≡ true) pairs) (append_assoc before (x ∷ []) pairs)
      (granted_each i (before ++ x ∷ []) pairs),
)
  where
    here : is_granted i x ≡ true → has (numbers_in (filter (is_granted i) (x ∷ pairs))) x.arrival.n ≡ true
    here is = ap (λ (b : Bool). has
        (numbers_in (cond b (x ∷ filter (is_granted i) pairs) (filter (is_granted i) pairs))) x.arrival.n) is
        ∙ or_left (x.arrival.n == x.arrival.n) _ (self_true x.arrival.n)

-- a pair of a message that comes in pieces is among those
pub granted_has : (i : ℕ) (pairs : List Pair) → AllByRecursion (λ (pair : Pair). is_granted i pair ≡ true →
    has (numbers_in (filter (is_granted i) pairs)) pair.arrival.n ≡ true) pairs
granted_has i pairs = granted_each i [] pairs

pub piece_bytes-append : (n : ℕ) (ds more : List Pulled) → piece_bytes n (ds ++ more) ≡ piece_bytes n ds ++
    piece_bytes n more
piece_bytes-append n [] more = refl
piece_bytes-append n (d ∷ ds) more = ap (λ (xs : List ℕ). pulled_bytes n d ++ xs) (piece_bytes-append n ds more)
    ∙ sym (append_assoc (pulled_bytes n d) (piece_bytes n ds) (piece_bytes n more))
