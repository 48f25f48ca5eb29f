-- The packets of an eager message carry its body, and none after the last one carries more of it.
use Rattle.std.proofs.Common.{mul-suc, ◌≡◌, ℕ, zero, suc, ◌+◌, ◌-◌, ◌*◌, ◌<◌, ◌≤◌, ◌==◌, Bool, true, false, not, ◌&&◌}
use Rattle.std.proofs.Common.{cond, Option, Some, None, List, [], ◌∷◌, ◌++◌, length, map, drop, refl, sym, ◌∙◌, ap}
use Rattle.std.proofs.Common.{subst, append-nil, append_assoc, length-append, arith, ◌||◌, min}
use Rattle.std.specs.Prelude.{fold, nat_lt}
use Rattle.std.specs.Bool.{OnTrue}
use Rattle.std.specs.Option.{option_map_or}
use Rattle.std.specs.List.{AllByRecursion, cons_option, list_any, slice_get, range_with_len}
use Rattle.std.proofs.lemmas.List.{take-append-drop, drop-drop, drop_all}
use Rattle.std.proofs.Math.Nat.{lt-mul-div-succ}
use Rattle.nm_types.specs.declared.limits.TheConstants.{MAX_PAYLOAD}
use Rattle.nm_types.specs.declared.messages.How.{How}
use Rattle.nm_types.specs.declared.messages.How.TheVariants as how
use Rattle.nm_types.specs.declared.packets.What.{What}
use Rattle.nm_types.specs.declared.packets.What.TheVariants as what
use Rattle.nm_history.specs.declared.events.Event.{Event}
use Rattle.nm_history.specs.declared.events.Happened.{Happened}
use Rattle.nm_history.specs.declared.events.Happened.TheVariants.{Send, Recall, Withdraw, Post, Arrive, Match}
use Rattle.nm_history.specs.declared.plain.Pair.{Pair}
use Rattle.nm_history.specs.AtEach.{AtEach, AtEachAfter, in_turn, in_turn_after}
use Rattle.nm_history.specs.Sends.{Sent, sends, is_ask}
use Rattle.nm_history.specs.Matching.{matched_pairs, new_pair}
use Rattle.nm_history.specs.Outgoing.{Called, outgoing, packets_by, send_packets, eager_packets, clear_packets}
use Rattle.nm_history.specs.Outgoing.{is_clear, bare, part_at, further_packets}
use Rattle.nm_history.proofs.DeliveryLemmas.{sends-push}
use Rattle.nm_history.specs.Known.{Known, Taken, known_by, known_after, learned, nothing_known}
use Rattle.nm_history.specs.Bytes.{bytes_in, taken_bytes, eager_bytes}
use Rattle.nm_history.proofs.Basic.{at_true, lt_true, or_false}
use Rattle.nm_channels.proofs.Streams.{SenderAt, StreamIsRight, completed, completes}
use Rattle.nm_channels.proofs.Streaming.{Carries, InTime}
use Rattle.nm_channels.specs.SoFar.{IsOver}
use Rattle.nm_history.specs.Continues.{WORN_STAMP, continues_stream, is_of_stream}
use Rattle.std.proofs.lemmas.Bool.Decides.{nat_tests}
use Rattle.std.proofs.lemmas.List.Folds.{list_any-append}
use Rattle.nm_history.proofs.Sent.{NumberedFrom, new_sends, sends-cons}
use Rattle.nm_types.proofs.NumberLemmas.{eq_true, same_number, eq_less, eq_false}
use Rattle.nm_types.proofs.ListLemmas.{all_split}
use Rattle.nm_types.proofs.TruthLemmas.{and_left, and_right}

-- the parts of a body at these places
abbrev pub joined : ℕ → List ℕ → List ℕ → List ℕ
joined size body [] = []
joined size body (k ∷ ks) = part_at size body k ++ joined size body ks

joined_rest : (size : ℕ) (body : List ℕ) (m k : ℕ) → joined size body (range_with_len k m) ++ drop
    (size * (k + m)) body ≡ drop (size * k) body
joined_rest size body zero k = ap (λ (i : ℕ). drop (size * i) body) (plus_none k) where
  plus_none : (k : ℕ) → k + 0 ≡ k
  plus_none k = omega arith
joined_rest size body (suc m) k =
    let first : List ℕ = part_at size body k in
    let later = joined_rest size body m (k + 1) in
    let place : k + suc m ≡ k + 1 + m = omega arith in
    let one_more : suc k ≡ k + 1 = omega arith in
    let next : size * k + size ≡ size * (k + 1) = sym (mul-suc size k) ∙ ap (λ (i : ℕ). size * i) one_more in
    append_assoc first (joined size body (range_with_len (k + 1) m)) (drop (size * (k + suc m)) body)
    ∙ ap (λ (i : ℕ). first ++ (joined size body (range_with_len (k + 1) m) ++ drop (size * i) body)) place
    ∙ ap (λ (rest : List ℕ). first ++ rest) (later ∙ ap (λ (i : ℕ). drop i body) (sym next)
    ∙ sym (drop-drop size (size * k) body))
    ∙ take-append-drop size (drop (size * k) body)

-- the parts of a body, one after another, are the body
pub joined_all : (size : ℕ) (body : List ℕ) (m : ℕ) → length body ≤ size * m → joined size body (range_with_len 0 m)
    ≡ body
joined_all size body m enough =
    let none : drop (size * (0 + m)) body ≡ [] = drop_all (size * (0 + m)) body
    (omega (arith, enough, ap (λ (k : ℕ). size * k) (zero_plus m))) in
    sym (append-nil (joined size body (range_with_len 0 m)))
    ∙ ap (λ (rest : List ℕ). joined size body (range_with_len 0 m) ++ rest) (sym none) ∙ joined_rest size body m 0
    ∙ ap (λ (k : ℕ). drop k body) (times_none size)
  where
    zero_plus : (m : ℕ) → 0 + m ≡ m
    zero_plus m = omega arith

    times_none : (size : ℕ) → size * 0 ≡ 0
    times_none size = omega arith

-- how many messages are announced after a packet
abbrev counted : ℕ → What → ℕ
counted count (what.Head tag ctx len) = count + 1
counted count (what.Ask tag ctx len) = count + 1
counted count _ = count

-- the bytes of message n that a packet carries
abbrev bytes_called : ℕ → ℕ → What → List ℕ → List ℕ
bytes_called n count (what.Head tag ctx len) payload = cond (count == n) payload []
bytes_called n count (what.More m) payload = cond (m == n) payload []
bytes_called n count _ payload = []

-- the bytes of message n that these packets carry
abbrev called_bytes : ℕ → ℕ → List Called → List ℕ
called_bytes n count [] = []
called_bytes n count (c ∷ cs) = bytes_called n count c.what c.payload ++ called_bytes n (counted count c.what) cs

-- the packets that were taken carry the bytes of those that were called for
taken_is_called : (i num n : ℕ) (known : Known) (cs : List Called) (ts : List Taken) → Carries i num cs ts →
    AllByRecursion (λ t. t.continued ≡ true) ts → eager_bytes n known ts ≡ called_bytes n known.count cs
taken_is_called i num n known [] [] carries goes = refl
taken_is_called i num n known [] (t ∷ ts) carries goes = absurd carries
taken_is_called i num n known (c ∷ cs) [] carries goes = absurd carries
taken_is_called i num n known (c ∷ cs) (t ∷ ts) carries goes =
    let after : known_after known t ≡ learned known c.what (length t.packet.payload) =
    rw (goes.0, carries.0.same) refl in
    let bytes : taken_bytes n known t ≡ bytes_called n known.count c.what c.payload =
    rw (goes.0, carries.0.same, carries.0.bytes) (by_what c.what c.payload) in
    let count : (known_after known t).count ≡ counted known.count c.what = ap (λ (k : Known). k.count) after
    ∙ by_count c.what (length t.packet.payload) in
    ap (λ (b : List ℕ). b ++ eager_bytes n (known_after known t) ts) bytes
    ∙ ap (λ (rest : List ℕ). bytes_called n known.count c.what c.payload ++ rest)
    (taken_is_called i (num + 1) n (known_after known t) cs ts carries.1 goes.1
    ∙ ap (λ (k : ℕ). called_bytes n k cs) count)
  where
    by_what : (w : What) (payload : List ℕ) → bytes_in n known w payload ≡ bytes_called n known.count w payload
    by_what (what.Head tag ctx len) payload = refl
    by_what (what.More m) payload = refl
    by_what w payload = refl

    by_count : (w : What) (size : ℕ) → (learned known w size).count ≡ counted known.count w
    by_count (what.Head tag ctx len) size = refl
    by_count (what.Ask tag ctx len) size = refl
    by_count w size = refl

-- the body of the eager message of a number among these sends
abbrev pub eager_body : (Sent → List ℕ) → ℕ → List Sent → List ℕ
eager_body bodies n [] = []
eager_body bodies n (s ∷ ss) = cond (s.n == n && not (is_ask s.how)) (bodies s) [] ++ eager_body bodies n ss

none_if : (b : Bool) (xs : List ℕ) → cond b ([] ++ xs) xs ≡ xs
none_if true xs = refl
none_if false xs = refl

-- the further packets of a message carry its parts
mores_bytes : (n count : ℕ) (s : Sent) (body : List ℕ) (rest : List Called) (m k : ℕ) →
    called_bytes n count (map
    (λ k. record { stamp = s.stamp; what = what.More s.n; payload = part_at MAX_PAYLOAD body k })
    (range_with_len k m) ++ rest)
    ≡ cond (s.n == n) (joined MAX_PAYLOAD body (range_with_len k m)) [] ++ called_bytes n count rest
mores_bytes n count s body rest zero k = by_test (s.n == n) where
  by_test : (b : Bool) → called_bytes n count rest ≡ cond b [] [] ++ called_bytes n count rest
  by_test true = refl
  by_test false = refl
mores_bytes n count s body rest (suc m) k =
    ap (λ (xs : List ℕ). cond (s.n == n) (part_at MAX_PAYLOAD body k) [] ++ xs)
    (mores_bytes n count s body rest m (k + 1)) ∙ by_test (s.n == n)
  where
    by_test : (b : Bool) → cond b (part_at MAX_PAYLOAD body k) [] ++
        (cond b (joined MAX_PAYLOAD body (range_with_len (k + 1) m)) [] ++ called_bytes n count rest)
        ≡ cond b (part_at MAX_PAYLOAD body k ++ joined MAX_PAYLOAD body (range_with_len (k + 1) m)) [] ++ called_bytes
        n count rest
    by_test true = sym (append_assoc (part_at MAX_PAYLOAD body k) (joined MAX_PAYLOAD body (range_with_len (k + 1) m))
        (called_bytes n count rest))
    by_test false = refl

-- the packets of a send carry its body
send_bytes : (n count : ℕ) (s : Sent) (body : List ℕ) (rest : List Called) → s.n ≡ count → length body ≡ s.len →
    called_bytes n count (send_packets s body ++ rest) ≡ cond (s.n == n && not (is_ask s.how)) body [] ++ called_bytes
    n (count + 1) rest
send_bytes n count s body rest number sized = by_how s.how where
  all_parts : joined MAX_PAYLOAD body (range_with_len 0 (1 + further_packets s.len)) ≡ body
  all_parts =
      let over = lt-mul-div-succ (s.len - 1) {b = MAX_PAYLOAD} (omega arith) in
      joined_all MAX_PAYLOAD body (1 + further_packets s.len) (omega (arith, over, sized))

  by_test : (b : Bool) → cond b (part_at MAX_PAYLOAD body 0) [] ++
      (cond b (joined MAX_PAYLOAD body (range_with_len 1 (further_packets s.len))) [] ++ called_bytes n
      (count + 1) rest) ≡ cond (b && true) body [] ++ called_bytes n (count + 1) rest
  by_test true =
      sym (append_assoc (part_at MAX_PAYLOAD body 0)
      (joined MAX_PAYLOAD body (range_with_len 1 (further_packets s.len))) (called_bytes n (count + 1) rest))
      ∙ ap (λ (b : List ℕ). b ++ called_bytes n (count + 1) rest) (parts ∙ all_parts)
    where
      parts : joined MAX_PAYLOAD body (0 ∷ range_with_len 1 (further_packets s.len)) ≡ joined MAX_PAYLOAD body
          (range_with_len 0 (1 + further_packets s.len))
      parts = ap (λ (m : ℕ). joined MAX_PAYLOAD body (range_with_len 0 m)) (one_more (further_packets s.len)) where
        one_more : (f : ℕ) → suc f ≡ 1 + f
        one_more f = omega arith
  by_test false = refl

  by_how : (h : How) → called_bytes n count (cond (is_ask h) (bare s.stamp (what.Ask s.tag s.ctx s.len) ∷ [])
      (eager_packets s body) ++ rest) ≡ cond (s.n == n && not (is_ask h)) body [] ++ called_bytes n (count + 1) rest
  by_how how.Ask = by_no (s.n == n) where
    by_no : (b : Bool) → called_bytes n (count + 1) rest ≡ cond (b && false) body [] ++ called_bytes n (count + 1) rest
    by_no true = refl
    by_no false = refl
  by_how how.Eager =
      ap (λ (k : ℕ). cond (k == n) (part_at MAX_PAYLOAD body 0) [] ++ called_bytes n (count + 1)
      (map (λ k. record { stamp = s.stamp; what = what.More s.n; payload = part_at MAX_PAYLOAD body k })
      (range_with_len 1 (further_packets s.len)) ++ rest)) (sym number)
      ∙ ap (λ (xs : List ℕ). cond (s.n == n) (part_at MAX_PAYLOAD body 0) [] ++ xs)
      (mores_bytes n (count + 1) s body rest (further_packets s.len) 1) ∙ by_test (s.n == n)

pair_bytes : (n count i stamp : ℕ) (o : Option Pair) (rest : List Called) →
    called_bytes n count (option_map_or (clear_packets i stamp) o [] ++ rest) ≡ called_bytes n count rest
pair_bytes n count i stamp None rest = refl
pair_bytes n count i stamp (Some pair) rest = by_test (is_clear i pair) where
  by_test : (b : Bool) → called_bytes n count (cond b (bare stamp (what.Clear pair.arrival.n) ∷ []) [] ++ rest)
      ≡ called_bytes n count rest
  by_test true = refl
  by_test false = refl

same_count : (n count : ℕ) (rest : List Called) → called_bytes n count rest ≡ called_bytes n (count + 0) rest
same_count n count rest = ap (λ (k : ℕ). called_bytes n k rest) (plus_none count) where
  plus_none : (k : ℕ) → k ≡ k + 0
  plus_none k = omega arith

event_bytes : (eager n j stamp : ℕ) (bodies : Sent → List ℕ) (b : List Event) (w : Happened) (rest : List Called) →
    SenderAt eager bodies b stamp w →
    called_bytes n (length (sends b j)) (packets_by bodies j b stamp w ++ rest) ≡ eager_body bodies n
    (new_sends j stamp w) ++ called_bytes n (length (sends b j) + length (new_sends j stamp w)) rest
event_bytes eager n j stamp bodies b (Send to m tag ctx len how line) rest right = by_to (to == j) refl where
  s : Sent
  s = record { stamp = stamp; to = to; n = m; tag = tag; ctx = ctx; len = len; how = how; line = line }

  by_to : (x : Bool) → (to == j) ≡ x → called_bytes n (length (sends b j))
      (cond x (send_packets s (bodies s)) [] ++ rest) ≡ eager_body bodies n (cond x (s ∷ []) []) ++ called_bytes n
      (length (sends b j) + length (cond x (s ∷ []) [])) rest
  by_to true test =
      send_bytes n (length (sends b j)) s (bodies s) rest
      (right.0 ∙ ap (λ (k : ℕ). length (sends b k)) (same_number to j test)) right.1.sized
      ∙ ap (λ (xs : List ℕ). xs ++ called_bytes n (length (sends b j) + 1) rest)
      (sym (append-nil (cond (m == n && not (is_ask how)) (bodies s) [])))
  by_to false test = same_count n (length (sends b j)) rest
event_bytes eager n j stamp bodies b (Recall to m) rest right = by_to (to == j) where
  by_to : (x : Bool) → called_bytes n (length (sends b j)) (cond x (bare stamp (what.Withdraw m) ∷ []) [] ++ rest)
      ≡ called_bytes n (length (sends b j) + 0) rest
  by_to true = same_count n (length (sends b j)) rest
  by_to false = same_count n (length (sends b j)) rest
event_bytes eager n j stamp bodies b (Withdraw from m done) rest right = by_from (from == j) where
  by_from : (x : Bool) → called_bytes n (length (sends b j))
      (cond x (bare stamp (what.Withdrawn m done) ∷ []) [] ++ rest) ≡ called_bytes n (length (sends b j) + 0) rest
  by_from true = same_count n (length (sends b j)) rest
  by_from false = same_count n (length (sends b j)) rest
event_bytes eager n j stamp bodies b (Post p line) rest right = pair_bytes n (length (sends b j)) j stamp
    (new_pair b (matched_pairs b) (Post p line)) rest ∙ same_count n (length (sends b j)) rest
event_bytes eager n j stamp bodies b (Arrive a) rest right = pair_bytes n (length (sends b j)) j stamp
    (new_pair b (matched_pairs b) (Arrive a)) rest ∙ same_count n (length (sends b j)) rest
event_bytes eager n j stamp bodies b (Match number from m cap line) rest right = pair_bytes n
    (length (sends b j)) j stamp (new_pair b (matched_pairs b) (Match number from m cap line)) rest
    ∙ same_count n (length (sends b j)) rest
event_bytes eager n j stamp bodies b w rest right = same_count n (length (sends b j)) rest

eager_body-append : (bodies : Sent → List ℕ) (n : ℕ) (ss more : List Sent) → eager_body bodies n (ss ++ more)
    ≡ eager_body bodies n ss ++ eager_body bodies n more
eager_body-append bodies n [] more = refl
eager_body-append bodies n (s ∷ ss) more =
    let first : List ℕ = cond (s.n == n && not (is_ask s.how)) (bodies s) [] in
    ap (λ (xs : List ℕ). first ++ xs) (eager_body-append bodies n ss more)
    ∙ sym (append_assoc first (eager_body bodies n ss) (eager_body bodies n more))

history_bytes : (eager n j : ℕ) (bodies : Sent → List ℕ) (b events : List Event) →
    AtEachAfter (λ before e. SenderAt eager bodies before e.stamp e.what) b events →
    called_bytes n (length (sends b j))
    (in_turn_after (λ before e. packets_by bodies j before e.stamp e.what) b events) ≡ eager_body bodies n
    (sends events j)
history_bytes eager n j bodies b [] each = refl
history_bytes eager n j bodies b (e ∷ events) each =
    let rest : List Called = in_turn_after (λ before e. packets_by bodies j before e.stamp e.what)
    (b ++ e ∷ []) events in
    let new : List Sent = new_sends j e.stamp e.what in
    let count : length (sends b j) + length new ≡ length (sends (b ++ e ∷ []) j) =
    sym (ap (λ (ss : List Sent). length ss) (sends-push b e j) ∙ length-append (sends b j) new) in
    event_bytes eager n j e.stamp bodies b e.what rest each.0
    ∙ ap (λ (k : ℕ). eager_body bodies n new ++ called_bytes n k rest) count
    ∙ ap (λ (xs : List ℕ). eager_body bodies n new ++ xs) (history_bytes eager n j bodies (b ++ e ∷ []) events each.1)
    ∙ sym (eager_body-append bodies n new (sends events j)) ∙ ap (λ (ss : List Sent). eager_body bodies n ss)
    (sym (sends-cons e events j))

-- the packets of an eager message carry its body
pub eager_all : (eager i n j : ℕ) (bodies : Sent → List ℕ) (h : List Event) (ts : List Taken) →
    AtEach (λ before e. SenderAt eager bodies before e.stamp e.what) h → Carries i 0 (outgoing bodies h j) ts →
    AllByRecursion (λ t. t.continued ≡ true) ts →
    eager_bytes n nothing_known ts ≡ eager_body bodies n (sends h j)
unfolding AtEach in_turn
eager_all eager i n j bodies h ts each carries goes = taken_is_called i 0 n nothing_known (outgoing bodies h j) ts
    carries goes ∙ history_bytes eager n j bodies [] h each

-- the body of an eager message is that of its send
pub eager_body_at : (bodies : Sent → List ℕ) (k i n : ℕ) (ss : List Sent) (s : Sent) → n ≡ k + i →
    NumberedFrom (λ (s : Sent). s.n) k ss → slice_get ss i ≡ Some s → is_ask s.how ≡ false →
    eager_body bodies n ss ≡ bodies s
eager_body_at bodies k i n [] s is numbered at eager = cc
eager_body_at bodies k zero n (x ∷ ss) s is numbered at eager =
    let same : x ≡ s = cc in
    let how_is : is_ask x.how ≡ false = ap (λ (s : Sent). is_ask s.how) same ∙ eager in
    rw (
      eq_true x.n n (omega (arith, numbered.0, is)),
      how_is,
      none_above bodies (k + 1) n ss
          (omega (arith, is)) numbered.1,
    ) (append-nil (bodies x) ∙ ap bodies same)
  where
    none_above : (bodies : Sent → List ℕ) (k n : ℕ) (ss : List Sent) → n < k → NumberedFrom (λ (s : Sent). s.n) k ss →
        eager_body bodies n ss ≡ []
    none_above bodies k n [] lt numbered = refl
    none_above bodies k n (s ∷ ss) lt numbered = rw (eq_false s.n n (omega (arith, numbered.0, lt)))
        (none_above bodies (k + 1) n ss (omega arith) numbered.1)
eager_body_at bodies k (suc i) n (x ∷ ss) s is numbered at eager =
    rw (eq_less x.n n (omega (arith, numbered.0, is)))
    (eager_body_at bodies (k + 1) i n ss s (omega (arith, is)) numbered.1 at eager)

-- a packet of the sender's own messages that continued continues by what is known
fits : (eager : ℕ) (known : Known) (t : Taken) → t.continued ≡ true → is_of_stream t.packet.what ≡ true →
    t.packet.stamp < WORN_STAMP →
    OnTrue (is_of_stream t.packet.what && nat_lt t.packet.stamp WORN_STAMP)
    (t.continued ≡ continues_stream eager known t.packet.what (length t.packet.payload)) →
    continues_stream eager known t.packet.what (length t.packet.payload) ≡ true
fits eager known t goes stream in_time right =
    sym (at_true _ (rw (stream, lt_true t.packet.stamp WORN_STAMP in_time) refl) right) ∙ goes

-- what a further packet of an eager message finds
pub more_found : (eager : ℕ) (known : Known) (m size : ℕ) → continues_stream eager known (what.More m) size ≡ true →
    (0 < known.missing) × (m + 1 ≡ known.count)
more_found eager known m size goes =
    let parts = and_left (nat_lt 0 known.missing && m + 1 == known.count) (size == min MAX_PAYLOAD known.missing) goes
    in (
      passes 0 known.missing (and_left (nat_lt 0 known.missing) (m + 1 == known.count) parts),
      same_number
          (m + 1) known.count (and_right (nat_lt 0 known.missing) (m + 1 == known.count) parts),
    )
  where
    passes : (x y : ℕ) → nat_lt x y ≡ true → x < y
    passes x y h = grind (arith, nat_tests)

-- a packet of this kind continues
abbrev pub Goes : ℕ → Known → What → ℕ → Type 0
Goes eager known w size = is_of_stream w ≡ true → continues_stream eager known w size ≡ true

complete_now : (eager n : ℕ) (known : Known) (w : What) (size : ℕ) → Goes eager known w size →
    completes known w size ≡ Some n → IsOver n (learned known w size)
complete_now eager n known (what.Head tag ctx len) size goes is = by_test (len == size) refl is where
  by_test : (b : Bool) → (len == size) ≡ b → cond b (Some known.count) None ≡ Some n →
      IsOver n (learned known (what.Head tag ctx len) size)
  by_test true test is = let same : known.count ≡ n = cc in let all : len ≡ size = same_number len size test in
      record { announced = omega (arith, same); finished = λ e. omega (arith, all) }
  by_test false test is = cc
complete_now eager n known (what.More m) size goes is = by_test (known.missing == size) refl is where
  by_test : (b : Bool) → (known.missing == size) ≡ b → cond b (Some m) None ≡ Some n →
      IsOver n (learned known (what.More m) size)
  by_test true test is = let same : m ≡ n = cc in let all : known.missing ≡ size = same_number known.missing size test
      in let found = more_found eager known m size (goes refl) in
      record { announced = omega (arith, same, found.1); finished = λ e. omega (arith, all) }
  by_test false test is = cc
complete_now eager n known w size goes is = cc

pub complete_stays : (eager n : ℕ) (known : Known) (w : What) (size : ℕ) → Goes eager known w size →
    IsOver n known → IsOver n (learned known w size)
complete_stays eager n known (what.Head tag ctx len) size goes was =
    record { announced = omega (arith, was.announced); finished = λ e. absurd (omega (arith, e, was.announced)) }
complete_stays eager n known (what.Ask tag ctx len) size goes was =
    record { announced = omega (arith, was.announced); finished = λ e. absurd (omega (arith, e, was.announced)) }
complete_stays eager n known (what.More m) size goes was =
    record {
      announced = was.announced;
      finished = λ e. let found = more_found eager known m size (goes refl) in
          absurd (omega (arith, found.0, was.finished e));
    }
complete_stays eager n known w size goes was = record { announced = was.announced; finished = was.finished }

no_more_bytes : (eager n : ℕ) (known : Known) (w : What) (payload : List ℕ) → Goes eager known w (length payload) →
    IsOver n known → bytes_in n known w payload ≡ []
no_more_bytes eager n known (what.Head tag ctx len) payload goes was = rw (eq_false known.count n was.announced) refl
no_more_bytes eager n known (what.More m) payload goes was = by_test (m == n) refl where
  by_test : (b : Bool) → (m == n) ≡ b → cond b payload [] ≡ []
  by_test false test = refl
  by_test true test =
      let same : m ≡ n = same_number m n test in
      let found = more_found eager known m (length payload) (goes refl) in
      let none : known.missing ≡ 0 = was.finished (omega (arith, same, found.1)) in
      absurd (omega (arith, found.0, none))
no_more_bytes eager n known w payload goes was = refl

-- the packets that continued did so by what was known
goes_here : (eager : ℕ) (known : Known) (t : Taken) → t.packet.stamp < WORN_STAMP →
    OnTrue (is_of_stream t.packet.what && nat_lt t.packet.stamp WORN_STAMP)
    (t.continued ≡ continues_stream eager known t.packet.what (length t.packet.payload)) →
    t.continued ≡ true → Goes eager known t.packet.what (length t.packet.payload)
goes_here eager known t in_time right goes stream = fits eager known t goes stream in_time right

complete_after : (eager n : ℕ) (known : Known) (t : Taken) → t.packet.stamp < WORN_STAMP →
    OnTrue (is_of_stream t.packet.what && nat_lt t.packet.stamp WORN_STAMP)
    (t.continued ≡ continues_stream eager known t.packet.what (length t.packet.payload)) →
    IsOver n known → IsOver n (known_after known t)
complete_after eager n known t in_time right was = by_goes t.continued refl where
  by_goes : (b : Bool) → t.continued ≡ b →
      IsOver n (cond b (learned known t.packet.what (length t.packet.payload)) known)
  by_goes true goes = complete_stays eager n known t.packet.what (length t.packet.payload)
      (goes_here eager known t in_time right goes) was
  by_goes false goes = was

complete_to_end : (eager n : ℕ) (known : Known) (ts : List Taken) → InTime ts → StreamIsRight eager known ts →
    IsOver n known → IsOver n (fold known_after known ts)
complete_to_end eager n known [] in_time right was = was
complete_to_end eager n known (t ∷ ts) in_time right was = complete_to_end eager n (known_after known t) ts in_time.1
    right.1 (complete_after eager n known t in_time.0 right.0 was)

-- a message that packets complete is complete after them
completed_is_complete : (eager n : ℕ) (known : Known) (ts : List Taken) → InTime ts → StreamIsRight eager known ts →
    list_any (λ m. m == n) (completed known ts) ≡ true → IsOver n (fold known_after known ts)
completed_is_complete eager n known [] in_time right found = cc
completed_is_complete eager n known (t ∷ ts) in_time right found =
    by_goes t.continued refl (completed_is_complete eager n (known_after known t) ts in_time.1 right.1) found
  where
    size : ℕ
    size = length t.packet.payload

    by_goes : (b : Bool) → t.continued ≡ b →
        (list_any (λ m. m == n) (completed (known_after known t) ts) ≡ true →
        IsOver n (fold known_after (known_after known t) ts)) →
        list_any (λ m. m == n) (cons_option (cond b (completes known t.packet.what size) None)
        (completed (known_after known t) ts)) ≡ true → IsOver n (fold known_after (known_after known t) ts)
    by_goes false goes later found = later found
    by_goes true goes later found = by_option (completes known t.packet.what size) refl found where
      after : known_after known t ≡ learned known t.packet.what size
      after = rw goes refl

      by_option : (o : Option ℕ) → completes known t.packet.what size ≡ o →
          list_any (λ m. m == n) (cons_option o (completed (known_after known t) ts)) ≡ true →
          IsOver n (fold known_after (known_after known t) ts)
      by_option None is found = later found
      by_option (Some m) is found = by_test (m == n) refl found where
        by_test : (b : Bool) → (m == n) ≡ b → (b || list_any (λ m. m == n) (completed (known_after known t) ts))
            ≡ true → IsOver n (fold known_after (known_after known t) ts)
        by_test false test found = later found
        by_test true test found =
            let same : m ≡ n = same_number m n test in
            let now : IsOver n (learned known t.packet.what size) = complete_now eager n known t.packet.what size
            (goes_here eager known t in_time.0 right.0 goes) (is ∙ ap (λ (k : ℕ). Some k) same) in
            complete_to_end eager n (known_after known t) ts in_time.1 right.1
            (subst (λ (k : Known). IsOver n k) (sym after) now)

-- no packet carries more of a complete message
pub none_after_complete : (eager n : ℕ) (known : Known) (ts : List Taken) → InTime ts → StreamIsRight eager known ts →
    IsOver n known → eager_bytes n known ts ≡ []
none_after_complete eager n known [] in_time right was = refl
none_after_complete eager n known (t ∷ ts) in_time right was =
    let none : taken_bytes n known t ≡ [] = by_goes t.continued refl in
    ap (λ (xs : List ℕ). xs ++ eager_bytes n (known_after known t) ts) none ∙ none_after_complete eager n
    (known_after known t) ts in_time.1 right.1 (complete_after eager n known t in_time.0 right.0 was)
  where
    by_goes : (b : Bool) → t.continued ≡ b → cond b (bytes_in n known t.packet.what t.packet.payload) [] ≡ []
    by_goes false goes = refl
    by_goes true goes = no_more_bytes eager n known t.packet.what t.packet.payload
        (goes_here eager known t in_time.0 right.0 goes) was

completed-append : (known : Known) (ts more : List Taken) → completed known (ts ++ more) ≡ completed known ts ++
    completed (fold known_after known ts) more
completed-append known [] more = refl
completed-append known (t ∷ ts) more = by_option
    (cond t.continued (completes known t.packet.what (length t.packet.payload)) None)
    (completed-append (known_after known t) ts more) where
      by_option : (o : Option ℕ) → completed (known_after known t) (ts ++ more) ≡ completed (known_after known t) ts ++
          completed (fold known_after (known_after known t) ts) more →
          cons_option o (completed (known_after known t) (ts ++ more)) ≡ cons_option o
          (completed (known_after known t) ts) ++ completed (fold known_after (known_after known t) ts) more
      by_option None same = same
      by_option (Some n) same = ap (λ (ns : List ℕ). n ∷ ns) same

pub eager_bytes-append : (n : ℕ) (known : Known) (ts more : List Taken) → eager_bytes n known (ts ++ more)
    ≡ eager_bytes n known ts ++ eager_bytes n (fold known_after known ts) more
eager_bytes-append n known [] more = refl
eager_bytes-append n known (t ∷ ts) more =
    ap (λ (xs : List ℕ). taken_bytes n known t ++ xs) (eager_bytes-append n (known_after known t) ts more)
    ∙ sym (append_assoc (taken_bytes n known t) (eager_bytes n (known_after known t) ts)
    (eager_bytes n (fold known_after (known_after known t) ts) more))

right_parts : (eager : ℕ) (known : Known) (ts more : List Taken) → StreamIsRight eager known (ts ++ more) →
    StreamIsRight eager known ts × StreamIsRight eager (fold known_after known ts) more
right_parts eager known [] more right = (tt, right)
right_parts eager known (t ∷ ts) more right = let rest = right_parts eager (known_after known t) ts more right.1 in
    ((right.0, rest.0), rest.1)

-- the packets up to a complete message carry all its bytes: it was completed, and not by later ones
pub eager_so_far : (eager n : ℕ) (ts more : List Taken) → InTime (ts ++ more) → StreamIsRight eager nothing_known
    (ts ++ more) → list_any (λ m. m == n) (completed nothing_known (ts ++ more)) ≡ true →
    list_any (λ m. m == n) (completed (known_by ts) more) ≡ false →
    eager_bytes n nothing_known ts ≡ eager_bytes n nothing_known (ts ++ more)
eager_so_far eager n ts more in_time right found later =
    let parts = right_parts eager nothing_known ts more right in
    let times = all_split (λ (t : Taken). t.packet.stamp < WORN_STAMP) ts more in_time in
    let here : list_any (λ m. m == n) (completed nothing_known ts) ≡ true =
    sym (or_false _) ∙ ap (λ (b : Bool). list_any (λ m. m == n) (completed nothing_known ts) || b) (sym later)
    ∙ sym (ap (λ (ns : List ℕ). list_any (λ m. m == n) ns) (completed-append nothing_known ts more)
    ∙ list_any-append (λ (m : ℕ). m == n) (completed nothing_known ts) (completed (known_by ts) more)) ∙ found in
    let complete = completed_is_complete eager n nothing_known ts times.0 parts.0 here in
    sym (eager_bytes-append n nothing_known ts more ∙ ap (λ (xs : List ℕ). eager_bytes n nothing_known ts ++ xs)
    (none_after_complete eager n (known_by ts) more times.1 parts.1 complete)
    ∙ append-nil (eager_bytes n nothing_known ts))
