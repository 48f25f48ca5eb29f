-- The bytes of messages that came, and what a packet, a piece or a grant adds to them.
use Rattle.std.proofs.Common.{◌≡◌, ℕ, ◌+◌, ◌<◌, ◌≤◌, ◌==◌, Bool, true, false, not, ◌&&◌, cond}
use Rattle.std.proofs.Common.{if◌then◌else◌, nat_eq, Option, Some, None, List, [], ◌∷◌, ◌++◌}
use Rattle.std.proofs.Common.{length, get_or, refl, sym, ◌∙◌, ap, ◌⊎◌, inl, inr, arith, rules, append-nil}
use Rattle.std.specs.List.{AllByRecursion, find, sum_by}
use Rattle.std.specs.Option.{option_and_then, option_map, option_map_or}
use Rattle.std.proofs.Math.ListN.{set}
use Rattle.std.proofs.lemmas.Bool.{cases_eq, cases_lt, eqb-true, false≢true}
use Rattle.std.proofs.lemmas.List.{get_or-set_other, get_or-set_same, set_past}
use Rattle.std.proofs.lemmas.List.Sums.{sum_by-cons}
use Rattle.nm_types.specs.declared.messages.Arrival.{Arrival}
use Rattle.nm_types.specs.declared.packets.Packet.{Packet}
use Rattle.nm_types.specs.declared.packets.Piece.{Piece}
use Rattle.nm_types.specs.declared.packets.What.{What}
use Rattle.nm_types.specs.declared.packets.What.TheVariants as what
use Rattle.nm_history.specs.Sends.{is_ask}
use Rattle.nm_history.specs.Bytes.{bytes_in, pulled_bytes}
use Rattle.nm_history.specs.Known.{Known}
use Rattle.nm_eager.specs.Streams.{Incoming, IsStream, IsWholeOrLast, Stream, after, begun, carried_on}
use Rattle.nm_eager.specs.Streams.{continues, is_eager, lacking, message_of, missing, nothing_came}
use Rattle.nm_eager.specs.Streams.{with_more as with_more_bytes}
use Rattle.nm_eager.proofs.MessageLemmas.{Lacks-below, find-lacks}
use Rattle.nm_rndv.specs.Grants.{Granted, fresh, grant_in, with_grant, with_more, with_piece}
use Rattle.nm_receiving.specs.Kept.{ReceivingInvariant}
use Rattle.nm_receiving.specs.Receipts.{AddsBytes, ReceivingView, SameBytes, came_of, granted_to, of_asked}
use Rattle.nm_receiving.specs.Receipts.{of_eager, stream_of}
use Rattle.nm_receiving.specs.Steps.{grants_after, grants_with}
use Rattle.nm_receiving.proofs.Grants.{Row, grant_set, granted_new, self}
use Rattle.nm_receiving.proofs.Lists.{find-first_more, find-none_more, row-other}
use Rattle.nm_receiving.proofs.Lists.{row-same}
use Rattle.nm_receiving.proofs.TablesCarry.{carried}
use Rattle.nm_types.proofs.NumberLemmas.{unequal, eq_true, nat_unequal as differs}
use Rattle.nm_types.proofs.ListLemmas.{find_passes}

-- the bytes of an eager message, and those of one that was granted
abbrev pub joined_bytes : Option Incoming → List ℕ
joined_bytes o = option_map_or (λ bytes. bytes) (option_map (λ m. m.bytes) o) []

abbrev pub granted_bytes : Option Granted → List ℕ
granted_bytes o = option_map_or (λ bytes. bytes) (option_and_then (λ g. g.bytes) o) []

abbrev pub eager_came : Stream → ℕ → List ℕ
eager_came s n = joined_bytes (message_of s n)

abbrev pub asked_came : List (ℕ × Granted) → ℕ → List ℕ
asked_came row n = granted_bytes (grant_in row n)

-- the bytes if a test passes
abbrev only : Bool → List ℕ → List ℕ
only b bytes = if b then bytes else []

-- a message has its bytes from its packets, or from its pieces
came-more : (v w : ReceivingView) (a : Arrival) (more : List ℕ)
    → (is_ask a.env.how ≡ true →
    asked_came (granted_to w a.env.from) a.n ≡ asked_came (granted_to v a.env.from) a.n ++ more)
    → (is_ask a.env.how ≡ false →
    eager_came (stream_of w a.env.from) a.n ≡ eager_came (stream_of v a.env.from) a.n ++ more)
    → came_of w a ≡ came_of v a ++ more
came-more v w a more granted joined = by (is_ask a.env.how) refl
  where
    by : (b : Bool) → is_ask a.env.how ≡ b → came_of w a ≡ came_of v a ++ more
    by true is = rw is (granted is)
    by false is = rw is (joined is)

pub came-same : (v w : ReceivingView) (a : Arrival)
    → (is_ask a.env.how ≡ true →
    asked_came (granted_to w a.env.from) a.n ≡ asked_came (granted_to v a.env.from) a.n)
    → (is_ask a.env.how ≡ false →
    eager_came (stream_of w a.env.from) a.n ≡ eager_came (stream_of v a.env.from) a.n)
    → came_of w a ≡ came_of v a
came-same v w a granted joined =
    came-more v w a []
    (λ how. granted how ∙ sym (append-nil (asked_came (granted_to v a.env.from) a.n)))
    (λ how. joined how ∙ sym (append-nil (eager_came (stream_of v a.env.from) a.n)))
    ∙ append-nil (came_of v a)

-- nothing came
pub came-none : (v : ReceivingView) → ((from : ℕ) → stream_of v from ≡ nothing_came)
    → ((from : ℕ) → granted_to v from ≡ []) → (a : Arrival) → came_of v a ≡ []
came-none v streams grants a = by (is_ask a.env.how) refl
  where
    by : (b : Bool) → is_ask a.env.how ≡ b → came_of v a ≡ []
    by true is = rw is (ap (λ (row : Row). asked_came row a.n) (grants a.env.from))
    by false is = rw is (ap (λ (s : Stream). eager_came s a.n) (streams a.env.from))

-- an eager message begins
begun-came : (s : Stream) (len : ℕ) (bytes : List ℕ) → IsStream s → (n : ℕ)
    → eager_came (begun s len bytes) n ≡ eager_came s n ++ only (s.count == n) bytes
begun-came s len bytes right n = by (cases_eq s.count n)
  where
    new : Incoming
    new = record { n = s.count; len = len; bytes = bytes }

    is_new : (x : Incoming) → Some new ≡ Some x → new ≡ x
    is_new x is = cc

    by : (s.count ≡ n) ⊎ (s.count ≡ n → ⊥)
        → eager_came (begun s len bytes) n ≡ eager_came s n ++ only (s.count == n) bytes
    by (inl same) =
        let none : message_of s n ≡ None =
        find-lacks n s.messages (Lacks-below n 0 s.count s.messages (omega (arith, same)) right.numbered) in
        ap joined_bytes (find-first_more (λ (m : Incoming). m.n == n) s.messages (Some new) none
        (λ x is. eq_true x.n n (ap (λ (m : Incoming). m.n) (sym (is_new x is)) ∙ same)))
        ∙ sym (ap (λ (b : Bool). eager_came s n ++ only b bytes) (eq_true s.count n same)
        ∙ ap (λ (o : Option Incoming). joined_bytes o ++ bytes) none)
    by (inr other) =
        ap joined_bytes (find-none_more (λ (m : Incoming). m.n == n) s.messages (Some new)
        (λ x is. unequal x.n n (λ is_n. other (ap (λ (m : Incoming). m.n) (is_new x is) ∙ is_n))))
        ∙ sym (ap (λ (b : Bool). eager_came s n ++ only b bytes) (unequal s.count n other)
        ∙ append-nil (eager_came s n))

-- where the last message is not there, no byte is missing
none_lacks : (count k : ℕ) (ms : List Incoming) → k + 1 ≡ count → AllByRecursion (IsWholeOrLast count) ms
    → find (λ m. m.n == k) ms ≡ None → sum_by lacking ms ≡ 0
none_lacks count k [] last all none = refl
none_lacks count k (m ∷ ms) last all none = by (m.n == k) refl all.0 (none_lacks count k ms last all.1)
  where
    found_by : (b : Bool) → (m.n == k) ≡ b → cond b (Some m) (find (λ m. m.n == k) ms) ≡ None
    found_by b is = sym (ap (λ (b : Bool). cond b (Some m) (find (λ (m : Incoming). m.n == k) ms)) is) ∙ none

    by : (b : Bool) → (m.n == k) ≡ b → IsWholeOrLast count m
        → (find (λ m. m.n == k) ms ≡ None → sum_by lacking ms ≡ 0) → sum_by lacking (m ∷ ms) ≡ 0
    by true is one later = let found = found_by true is in absurd (let h : ⊥ = cc in h)
    by false is (inl whole) later =
        let rest = later (found_by false is) in omega (arith, whole, rest, sum_by-cons lacking m ms)
    by false is (inr less) later =
        absurd (false≢true (sym is ∙ eq_true m.n k (let at = less.1 in omega (arith, at, last))))

-- an eager message goes on
carried-came : (s : Stream) (k : ℕ) (bytes : List ℕ) → IsStream s → k + 1 ≡ s.count → 0 < missing s
    → (n : ℕ) → eager_came (carried_on s k bytes) n ≡ eager_came s n ++ only (k == n) bytes
carried-came s k bytes right last some n =
    ap joined_bytes (carried k bytes s.messages n) ∙ by (message_of s n) refl (cases_eq k n)
  where
    goes_on : (m : Incoming) → m.n ≡ n → (k ≡ n) ⊎ (k ≡ n → ⊥)
        → (with_more_bytes k bytes m).bytes ≡ m.bytes ++ only (k == n) bytes
    goes_on m name (inl same) =
        ap (λ (b : Bool). (if b then record m { bytes = m.bytes ++ bytes } else m).bytes)
        (eq_true m.n k (name ∙ sym same))
        ∙ sym (ap (λ (b : Bool). m.bytes ++ only b bytes) (eq_true k n same))
    goes_on m name (inr other) =
        ap (λ (b : Bool). (if b then record m { bytes = m.bytes ++ bytes } else m).bytes)
        (unequal m.n k (λ is_k. other (sym is_k ∙ name)))
        ∙ sym (ap (λ (b : Bool). m.bytes ++ only b bytes) (unequal k n other) ∙ append-nil m.bytes)

    by : (o : Option Incoming) → message_of s n ≡ o → (k ≡ n) ⊎ (k ≡ n → ⊥)
        → joined_bytes (option_map (with_more_bytes k bytes) o) ≡ joined_bytes o ++ only (k == n) bytes
    by None is (inl same) =
        let left = none_lacks s.count k s.messages last right.finished
        (ap (λ (j : ℕ). message_of s j) same ∙ is) in
        absurd (let h : ⊥ = omega (arith, left, some) in h)
    by None is (inr other) = ap (λ (b : Bool). only b bytes) (sym (unequal k n other))
    by (Some m) is place =
        goes_on m (eqb-true m.n n (find_passes (λ (m : Incoming). m.n == n) s.messages m is)) place

-- a packet that continues its stream
after-came : (eager : ℕ) (s : Stream) (w : What) (bytes : List ℕ) (known : Known)
    → (is_eager w ≡ true → IsStream s) → continues eager s.count (missing s) w (length bytes) ≡ true
    → known.count ≡ s.count → (n : ℕ)
    → eager_came (after s w bytes) n ≡ eager_came s n ++ bytes_in n known w bytes
after-came eager s (what.Head tag ctx len) bytes known right goes counted n =
    begun-came s len bytes (right refl) n
    ∙ ap (λ (k : ℕ). eager_came s n ++ only (k == n) bytes) (sym counted)
after-came eager s (what.More k) bytes known right goes counted n =
    let last : k + 1 ≡ s.count = search (rules, goes) in
    let some : 0 < missing s = search (rules, goes) in
    carried-came s k bytes (right refl) last some n
after-came eager s (what.Ask tag ctx len) bytes known right goes counted n = sym (append-nil (eager_came s n))
after-came eager s (what.Clear k) bytes known right goes counted n = sym (append-nil (eager_came s n))
after-came eager s (what.Withdraw k) bytes known right goes counted n = sym (append-nil (eager_came s n))
after-came eager s (what.Withdrawn k done) bytes known right goes counted n =
    sym (append-nil (eager_came s n))

pub packet-came : (v w : ReceivingView) → ReceivingInvariant v → (p : Packet) → p.from < v.sizes.ranks
    → w.streams ≡ set v.streams p.from (after (stream_of v p.from) p.what p.payload)
    → ((from n : ℕ) → asked_came (granted_to w from) n ≡ asked_came (granted_to v from) n)
    → (is_eager p.what ≡ true → IsStream (stream_of v p.from))
    → continues v.sizes.eager (stream_of v p.from).count (missing (stream_of v p.from)) p.what
    (length p.payload) ≡ true
    → (known : Known) → known.count ≡ (stream_of v p.from).count
    → AddsBytes (of_eager p.from (λ n. bytes_in n known p.what p.payload)) v w
packet-came v w kept p sender streams grants right goes known counted a =
    came-more v w a (of_eager p.from (λ n. bytes_in n known p.what p.payload) a)
    (λ how. grants a.env.from a.n ∙ sym (append-nil (asked_came (granted_to v a.env.from) a.n))
    ∙ ap (λ (bs : List ℕ). asked_came (granted_to v a.env.from) a.n ++ bs)
    (sym (none how (a.env.from == p.from))))
    (λ how. by how (cases_eq a.env.from p.from))
  where
    old : Stream
    old = stream_of v p.from

    now : Stream
    now = after old p.what p.payload

    added : List ℕ
    added = bytes_in a.n known p.what p.payload

    had : List ℕ
    had = eager_came (stream_of v a.env.from) a.n

    inside : p.from < length v.streams
    inside = let n = kept.tables.streams in omega (arith, sender, n)

    none : is_ask a.env.how ≡ true → (b : Bool) → only (b && not (is_ask a.env.how)) added ≡ []
    none how true = rw how refl
    none how false = refl

    by : is_ask a.env.how ≡ false → (a.env.from ≡ p.from) ⊎ (a.env.from ≡ p.from → ⊥)
        → eager_came (stream_of w a.env.from) a.n
        ≡ had ++ only ((a.env.from == p.from) && not (is_ask a.env.how)) added
    by how (inl same) =
        ap (λ (ss : List Stream). eager_came (get_or ss a.env.from nothing_came) a.n) streams
        ∙ ap (λ (i : ℕ). eager_came (get_or (set v.streams p.from now) i nothing_came) a.n) same
        ∙ ap (λ (s : Stream). eager_came s a.n) (get_or-set_same v.streams p.from now nothing_came inside)
        ∙ after-came v.sizes.eager old p.what p.payload known right goes counted a.n
        ∙ ap (λ (i : ℕ). eager_came (stream_of v i) a.n ++ added) (sym same)
        ∙ ap (λ (b : Bool). had ++ only (b && true) added) (sym (eq_true a.env.from p.from same))
        ∙ ap (λ (b : Bool). had ++ only ((a.env.from == p.from) && not b) added) (sym how)
    by how (inr other) =
        ap (λ (ss : List Stream). eager_came (get_or ss a.env.from nothing_came) a.n) streams
        ∙ ap (λ (s : Stream). eager_came s a.n)
        (get_or-set_other v.streams p.from a.env.from now nothing_came other)
        ∙ sym (append-nil had)
        ∙ ap (λ (b : Bool). had ++ only (b && not (is_ask a.env.how)) added)
        (sym (unequal a.env.from p.from other))

-- a grant of which nothing came
fresh-came : (row : Row) (n len k : ℕ) → asked_came (row ++ (n, fresh len) ∷ []) k ≡ asked_came row k
fresh-came [] n len k = by (nat_eq k n)
  where
    by : (b : Bool) → granted_bytes (cond b (Some (fresh len)) None) ≡ []
    by true = refl
    by false = refl
fresh-came (e ∷ row) n len k = by (nat_eq k e.0) (fresh-came row n len k)
  where
    by : (b : Bool) → asked_came (row ++ (n, fresh len) ∷ []) k ≡ asked_came row k
        → granted_bytes (cond b (Some e.1) (grant_in (row ++ (n, fresh len) ∷ []) k))
        ≡ granted_bytes (cond b (Some e.1) (grant_in row k))
    by true later = refl
    by false later = later

-- the grants after a receive took a message, if it took one
pub granted-came : (grants : List Row) (taken : Option Arrival) (from n : ℕ)
    → asked_came (get_or (grants_with grants taken) from []) n ≡ asked_came (get_or grants from []) n
granted-came grants None from n = refl
granted-came grants (Some a) from n =
    by (is_ask a.env.how) refl (cases_lt a.env.from (length grants)) (cases_eq from a.env.from)
  where
    row : Row
    row = get_or grants a.env.from [] ++ (a.n, fresh a.env.len) ∷ []

    by : (b : Bool) → is_ask a.env.how ≡ b → (a.env.from < length grants) ⊎ (length grants ≤ a.env.from)
        → (from ≡ a.env.from) ⊎ (from ≡ a.env.from → ⊥)
        → asked_came (get_or (grants_after grants a) from []) n ≡ asked_came (get_or grants from []) n
    by false eager inside place =
        let is : grants_after grants a ≡ grants = rw eager refl in
        ap (λ (rows : List Row). asked_came (get_or rows from []) n) is
    by true how (inr past) place =
        let is : grants_after grants a ≡ set grants a.env.from row = rw how refl in
        ap (λ (rows : List Row). asked_came (get_or rows from []) n)
        (is ∙ set_past grants a.env.from row past)
    by true how (inl inside) (inl same) =
        ap (λ (r : Row). asked_came r n) (granted_new grants a how inside from same)
        ∙ fresh-came (get_or grants from []) a.n a.env.len n
    by true how (inl inside) (inr other) =
        let is : grants_after grants a ≡ set grants a.env.from row = rw how refl in
        ap (λ (rows : List Row). asked_came (get_or rows from []) n) is
        ∙ ap (λ (r : Row). asked_came r n) (row-other grants a.env.from row from other)

pub same-granted : (v w : ReceivingView) (taken : Option Arrival) → w.streams ≡ v.streams
    → w.grants ≡ grants_with v.grants taken → SameBytes v w
same-granted v w taken streams grants a =
    came-same v w a
    (λ how. ap (λ (rows : List Row). asked_came (get_or rows a.env.from []) a.n) grants
    ∙ granted-came v.grants taken a.env.from a.n)
    (λ how. ap (λ (ss : List Stream). eager_came (get_or ss a.env.from nothing_came) a.n) streams)

-- a piece of a granted message
with_piece-came : (row : Row) (n : ℕ) (bytes : List ℕ) (g : Granted) (came : List ℕ)
    → grant_in row n ≡ Some g → g.bytes ≡ Some came → (k : ℕ)
    → asked_came (with_piece row n bytes) k ≡ asked_came row k ++ only (n == k) bytes
with_piece-came row n bytes g came there had k =
    ap (λ (o : Option Granted).
    asked_came (option_map_or (λ g. with_grant row n (with_more g bytes)) o row) k) there
    ∙ ap granted_bytes (grant_set row n g (with_more g bytes) there k) ∙ by (cases_eq n k)
  where
    by : (n ≡ k) ⊎ (n ≡ k → ⊥)
        → granted_bytes (cond (nat_eq n k) (Some (with_more g bytes)) (grant_in row k))
        ≡ asked_came row k ++ only (n == k) bytes
    by (inl same) =
        let same_is : nat_eq n k ≡ true = ap (λ (j : ℕ). nat_eq n j) (sym same) ∙ self n in
        ap (λ (b : Bool). granted_bytes (cond b (Some (with_more g bytes)) (grant_in row k))) same_is
        ∙ ap (λ (o : Option (List ℕ)).
        option_map_or (λ bytes. bytes) (option_map (λ bs. bs ++ bytes) o) []) had
        ∙ sym (ap (λ (b : Bool). asked_came row k ++ only b bytes) (eq_true n k same)
        ∙ ap (λ (o : Option Granted). granted_bytes o ++ bytes)
        (ap (λ (j : ℕ). grant_in row j) (sym same) ∙ there)
        ∙ ap (λ (o : Option (List ℕ)). option_map_or (λ bytes. bytes) o [] ++ bytes) had)
    by (inr other) =
        ap (λ (b : Bool). granted_bytes (cond b (Some (with_more g bytes)) (grant_in row k)))
        (differs n k other)
        ∙ sym (ap (λ (b : Bool). asked_came row k ++ only b bytes) (unequal n k other)
        ∙ append-nil (asked_came row k))

pub piece-came : (v w : ReceivingView) (p : Piece) (g : Granted) (came : List ℕ) → p.from < length v.grants
    → w.streams ≡ v.streams → w.grants ≡ set v.grants p.from (with_piece (granted_to v p.from) p.n p.bytes)
    → grant_in (granted_to v p.from) p.n ≡ Some g → g.bytes ≡ Some came
    → AddsBytes (of_asked p.from (λ n. pulled_bytes n (record { piece = p; continued = true }))) v w
piece-came v w p g came inside streams grants there bytes a =
    came-more v w a (of_asked p.from (λ n. pulled_bytes n (record { piece = p; continued = true })) a)
    (λ how. by how (cases_eq a.env.from p.from))
    (λ how. ap (λ (ss : List Stream). eager_came (get_or ss a.env.from nothing_came) a.n) streams
    ∙ sym (append-nil (eager_came (stream_of v a.env.from) a.n))
    ∙ ap (λ (bs : List ℕ). eager_came (stream_of v a.env.from) a.n ++ bs)
    (sym (none how (a.env.from == p.from))))
  where
    row : Row
    row = with_piece (granted_to v p.from) p.n p.bytes

    added : List ℕ
    added = only (p.n == a.n) p.bytes

    had : List ℕ
    had = asked_came (granted_to v a.env.from) a.n

    none : is_ask a.env.how ≡ false → (b : Bool) → only (b && is_ask a.env.how) added ≡ []
    none how true = rw how refl
    none how false = refl

    by : is_ask a.env.how ≡ true → (a.env.from ≡ p.from) ⊎ (a.env.from ≡ p.from → ⊥)
        → asked_came (granted_to w a.env.from) a.n
        ≡ had ++ only ((a.env.from == p.from) && is_ask a.env.how) added
    by how (inl same) =
        ap (λ (rows : List Row). asked_came (get_or rows a.env.from []) a.n) grants
        ∙ ap (λ (r : Row). asked_came r a.n) (row-same v.grants p.from row a.env.from same inside)
        ∙ with_piece-came (granted_to v p.from) p.n p.bytes g came there bytes a.n
        ∙ ap (λ (i : ℕ). asked_came (granted_to v i) a.n ++ added) (sym same)
        ∙ ap (λ (b : Bool). had ++ only (b && true) added) (sym (eq_true a.env.from p.from same))
        ∙ ap (λ (b : Bool). had ++ only ((a.env.from == p.from) && b) added) (sym how)
    by how (inr other) =
        ap (λ (rows : List Row). asked_came (get_or rows a.env.from []) a.n) grants
        ∙ ap (λ (r : Row). asked_came r a.n) (row-other v.grants p.from row a.env.from other)
        ∙ sym (append-nil had)
        ∙ ap (λ (b : Bool). had ++ only (b && is_ask a.env.how) added)
        (sym (unequal a.env.from p.from other))

-- one that does not continue adds nothing
pub stray-came : (v : ReceivingView) (p : Piece)
    → AddsBytes (of_asked p.from (λ n. pulled_bytes n (record { piece = p; continued = false }))) v v
stray-came v p a = by ((a.env.from == p.from) && is_ask a.env.how)
  where
    by : (b : Bool) → came_of v a ≡ came_of v a ++ only b []
    by true = sym (append-nil (came_of v a))
    by false = sym (append-nil (came_of v a))
