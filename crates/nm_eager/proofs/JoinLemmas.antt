-- The packets of a cut, joined, give the body.
use Rattle.std.proofs.Common.{◌≡◌, ℕ, ◌+◌, ◌-◌, ◌*◌, ◌<◌, ◌≤◌, ◌==◌, true, ◌&&◌, nat_lt}
use Rattle.std.proofs.Common.{nat_le, min, List, [], ◌∷◌, ◌++◌, length, map, take, drop}
use Rattle.std.proofs.Common.{refl, arith, zero, suc, length-drop}
use Rattle.std.proofs.Common.{sym, ap, ◌∙◌, append_assoc, filter}
use Rattle.std.specs.List.{range_with_len, sum_by, prefix_len}
use Rattle.std.proofs.lemmas.Bool.{and_from}
use Rattle.std.proofs.lemmas.Bool.Decides.{nat_tests}
use Rattle.std.proofs.lemmas.List.{append-nil, map-append, take_all, length-take}
use Rattle.std.proofs.lemmas.List.Sums.{sum_by-append}
use Rattle.std.proofs.Math.Seq.{take-add}
use Rattle.nm_types.specs.declared.limits.TheConstants.{MAX_PAYLOAD, MAX_TAG}
use Rattle.nm_types.specs.declared.packets.Packet.{Packet}
use Rattle.nm_types.specs.declared.packets.What.TheVariants as what
use Rattle.nm_types.specs.declared.messages.How.TheVariants as how
use Rattle.nm_history.specs.Sends.{Sent, envelope}
use Rattle.nm_history.specs.Outgoing.{Called, AreCalled, eager_packets, further_packets, part_at}
use Rattle.nm_eager.specs.Streams.{Incoming, Stream, lacking, missing, with_more, begun, after_all}
use Rattle.nm_eager.specs.Streams.{AllContinue, AreNumbered, goes_on, is_kept, bytes_ahead}
use Rattle.nm_eager.specs.Streams.{groups, messages}
use Rattle.nm_eager.proofs.MessageLemmas.{Lacks-below, map-lacks}
use Rattle.nm_types.proofs.NumberLemmas.{eq_true}

-- the packets that a message may need
abbrev pub kept : List Packet → List Packet
kept packets = filter (λ p. is_kept p.what) packets

-- a send's packet that goes on with its message
abbrev more_of : Sent → List ℕ → ℕ → Called
more_of s body k = record { stamp = s.stamp; what = what.More s.n; payload = part_at MAX_PAYLOAD body k }

-- the message of a send, of which so many parts came
abbrev so_far : Sent → List ℕ → ℕ → Incoming
so_far s body k = record { n = s.n; len = s.len; bytes = take (256 * k) body }

-- one part more
one_more : (s : Sent) (body : List ℕ) (k : ℕ) (ms : List Incoming) → AreNumbered 0 s.n ms
    → map (with_more s.n (part_at MAX_PAYLOAD body k)) (ms ++ so_far s body k ∷ [])
    ≡ ms ++ so_far s body (k + 1) ∷ []
one_more s body k ms r =
    let next : 256 * (k + 1) ≡ 256 * k + 256 = omega arith in
    rw (
      map-append (with_more s.n (part_at MAX_PAYLOAD body k)) ms (so_far s body k ∷ []),
      map-lacks s.n (part_at MAX_PAYLOAD body k) ms (Lacks-below s.n 0 s.n ms (omega arith) r),
      eq_true s.n s.n refl,
      next,
      take-add (256 * k) 256 body,
    ) refl

rest_joined : (from number count : ℕ) (s : Sent) (body : List ℕ) (ms : List Incoming) (k m : ℕ)
    (packets : List Packet) → AreNumbered 0 s.n ms → AreCalled from number
    (map (more_of s body) (range_with_len k m)) packets → after_all
    (record { count = count; messages = ms ++ so_far s body k ∷ [] }) packets
    ≡ record { count = count; messages = ms ++ so_far s body (k + m) ∷ [] }
rest_joined from number count s body ms k zero [] r called = let same : k + 0
    ≡ k = omega arith in rw same refl
rest_joined from number count s body ms k zero (p ∷ packets) r called = absurd called
rest_joined from number count s body ms k (suc m) [] r called = absurd called
rest_joined from number count s body ms k (suc m) (p ∷ packets) r called =
    let same : k + suc m ≡ k + 1 + m = omega arith in
    let later = rest_joined from (number + 1) count s body ms (k + 1) m packets r called.1 in
    rw (called.0.same, called.0.bytes, one_more s body k ms r, same) later

below : (a b : ℕ) → a < b → nat_lt a b ≡ true
below a b h = grind (arith, nat_tests)

within : (a b : ℕ) → a ≤ b → nat_le a b ≡ true
within a b h = grind (arith, nat_tests)

-- the tests of a packet that goes on
more_continues : (missing n count size : ℕ) → 0 < missing → n + 1 ≡ count → size ≡ min 256 missing
    → (nat_lt 0 missing && n + 1 == count && size == min 256 missing) ≡ true
more_continues missing n count size m c l = and_from _ _ (and_from _ _ (below 0 missing m)
    (eq_true (n + 1) count c)) (eq_true size (min 256 missing) l)

-- the tests of a packet that begins a message
head_continues : (missing len eager tag size : ℕ) → missing ≡ 0 → len ≤ eager → tag ≤ 32767
    → size ≡ min 256 len → (missing == 0 && nat_le len eager && nat_le tag 32767 && size == min 256 len)
    ≡ true
head_continues missing len eager tag size m l t z = and_from _ _
    (and_from _ _ (and_from _ _ (eq_true missing 0 m) (within len eager l)) (within tag 32767 t))
    (eq_true size (min 256 len) z)

-- what is missing of a message of which so many parts came
missing_so_far : (s : Sent) (body : List ℕ) (k : ℕ) (ms : List Incoming) → s.len ≡ length body
    → sum_by lacking ms ≡ 0 → sum_by lacking (ms ++ so_far s body k ∷ []) ≡ s.len - 256 * k
missing_so_far s body k ms l none = omega (
  arith,
  sum_by-append lacking ms (so_far s body k ∷ []),
  length-take (256 * k) body,
)

rest_continues : (eager from number count : ℕ) (s : Sent) (body : List ℕ) (ms : List Incoming) (k m : ℕ)
    (packets : List Packet) → s.len ≡ length body → s.n + 1 ≡ count → sum_by lacking ms ≡ 0
    → AreNumbered 0 s.n ms → (0 < m → 256 * (k + m) < s.len + 256)
    → AreCalled from number (map (more_of s body) (range_with_len k m)) packets
    → AllContinue eager (record { count = count; messages = ms ++ so_far s body k ∷ [] }) packets
rest_continues eager from number count s body ms k zero [] l c none r short called = tt
rest_continues eager from number count s body ms k zero (p ∷ packets) l c none r short called =
    absurd called
rest_continues eager from number count s body ms k (suc m) [] l c none r short called = absurd called
rest_continues eager from number count s body ms k (suc m) (p ∷ packets) l c none r short called =
    let lacks = missing_so_far s body k ms l none in
    let here = short (omega arith) in
    let part = length-take 256 (drop (256 * k) body) in
    let rest = length-drop (256 * k) body in
    let later = rest_continues eager from (number + 1) count s body ms (k + 1) m packets l c none r
    (λ _. omega arith) called.1 in
    rw (called.0.same, called.0.bytes, one_more s body k ms r)
    (more_continues _ s.n count _ (omega arith) c (omega arith), later)

-- all parts together are the body
parts_are_all : (s : Sent) (body : List ℕ) → s.len ≡ length body
    → take (256 * (1 + further_packets s.len)) body ≡ body
parts_are_all s body l = take_all _ _ (omega arith)

-- the packets that go on begin no message, and have the rest of the body
rest_grouped : (from number : ℕ) (s : Sent) (body : List ℕ) (k m : ℕ) (packets : List Packet)
    → AreCalled from number (map (more_of s body) (range_with_len k m)) packets
    → (groups (kept packets) ≡ [])
    × (take (256 * k) body ++ bytes_ahead (kept packets) ≡ take (256 * (k + m)) body)
rest_grouped from number s body k zero [] called =
    let same : k + 0 ≡ k = omega arith in
    (refl, rw (same, append-nil) refl)
rest_grouped from number s body k zero (p ∷ packets) called = absurd called
rest_grouped from number s body k (suc m) [] called = absurd called
rest_grouped from number s body k (suc m) (p ∷ packets) called =
    let later = rest_grouped from (number + 1) s body (k + 1) m packets called.1 in
    let ahead = bytes_ahead (kept packets) in
    let same : k + suc m ≡ k + 1 + m = omega arith in
    let next : 256 * (k + 1) ≡ 256 * k + 256 = omega arith in
    let one : 1 + prefix_len (λ q. goes_on q.what) (kept packets)
    ≡ suc (prefix_len (λ q. goes_on q.what) (kept packets)) = omega arith in
    let part : take (256 * (k + 1)) body ≡ take (256 * k) body ++ part_at MAX_PAYLOAD body k =
    rw (next, take-add (256 * k) 256 body) refl in
    let joined = sym (append_assoc (take (256 * k) body) (part_at MAX_PAYLOAD body k) ahead)
    ∙ ap (λ (l : List ℕ). l ++ ahead) (sym part) ∙ later.1 in
    rw (called.0.same, one, called.0.bytes, same) (later.0, joined)

pub cut_joined : (from number : ℕ) (s : Sent) (body : List ℕ) (packets : List Packet) (stream : Stream)
    → s.len ≡ length body → s.n ≡ stream.count → AreNumbered 0 stream.count stream.messages
    → AreCalled from number (eager_packets s body) packets → after_all stream packets
    ≡ begun stream s.len body
cut_joined from number s body [] stream l n r called = absurd called
cut_joined from number s body (p ∷ packets) stream l n r called =
    let rest = rest_joined from (number + 1) (stream.count + 1) s body stream.messages 1
    (further_packets s.len) packets (rw n r) called.1 in
    rw (called.0.same, called.0.bytes) (rw (n, parts_are_all s body l) at rest)

pub cut_continues : (eager from number : ℕ) (s : Sent) (body : List ℕ) (packets : List Packet)
    (stream : Stream) → s.len ≡ length body → s.n ≡ stream.count
    → AreNumbered 0 stream.count stream.messages → AreCalled from number (eager_packets s body) packets
    → s.len ≤ eager → s.tag ≤ MAX_TAG → missing stream ≡ 0 → AllContinue eager stream packets
cut_continues eager from number s body [] stream l n r called short tag none = absurd called
cut_continues eager from number s body (p ∷ packets) stream l n r called short tag none =
    let part = length-take 256 body in
    let later = rest_continues eager from (number + 1) (stream.count + 1) s body stream.messages 1
    (further_packets s.len) packets l (omega arith) none (rw n r) (λ some. omega arith) called.1 in
    rw (called.0.same, called.0.bytes) (
      head_continues _ s.len eager s.tag _ none short tag (omega arith),
      rw n at later,
    )

pub cut_grouped : (from number : ℕ) (s : Sent) (body : List ℕ) (packets : List Packet)
    → s.len ≡ length body → s.how ≡ how.Eager → AreCalled from number (eager_packets s body) packets
    → messages packets ≡ record { env = envelope from s; bytes = body } ∷ []
cut_grouped from number s body [] l h called = absurd called
cut_grouped from number s body (p ∷ packets) l h called =
    let rest = rest_grouped from (number + 1) s body 1 (further_packets s.len) packets called.1 in
    rw (called.0.same, called.0.sender, called.0.bytes, rest.0, h)
    (ap (λ (b : List ℕ). record {
      env = record { from = from; tag = s.tag; ctx = s.ctx; len = s.len; how = how.Eager };
      bytes = b;
    } ∷ []) (rest.1 ∙ parts_are_all s body l))
