-- Packet by packet the messages of a stream come together.
use Rattle.std.proofs.Common.{◌≡◌, ℕ, ◌+◌, ◌-◌, ◌==◌, Bool, true, false, cond, ◌&&◌}
use Rattle.std.proofs.Common.{List, [], ◌∷◌, ◌++◌, length, map}
use Rattle.std.proofs.Common.{ap, ◌∙◌, refl, arith, suc, append_assoc}
use Rattle.std.specs.List.{prefix_len}
use Rattle.std.proofs.lemmas.Bool.Decides.{nat_tests}
use Rattle.std.proofs.lemmas.List.{map-append, append-nil}
use Rattle.nm_types.specs.declared.packets.Packet.{Packet}
use Rattle.nm_types.specs.declared.packets.What.{What}
use Rattle.nm_types.specs.declared.packets.What.TheVariants as what
use Rattle.nm_eager.specs.Streams.{Incoming, Stream, goes_on, bytes_ahead, groups}
use Rattle.nm_eager.specs.Streams.{messages, with_more}
use Rattle.nm_eager.specs.Streams.{after_all, AllContinue, eager_from, stream_of, AreNumbered}
use Rattle.nm_eager.specs.Streams.{nothing_came}
use Rattle.nm_eager.proofs.MessageLemmas.{AreNumbered-push, AreNumbered-wider, Lacks-below}
use Rattle.nm_eager.proofs.MessageLemmas.{map-lacks}
use Rattle.nm_eager.proofs.JoinLemmas.{kept}
use Rattle.nm_types.proofs.NumberLemmas.{eq_true}

with_nothing : (n : ℕ) (ms : List Incoming) → map (with_more n []) ms ≡ ms
with_nothing n [] = refl
with_nothing n (m ∷ ms) =
    let same : with_more n [] m ≡ m = elim (m.n == n) as (λ b. cond b (record m { bytes = m.bytes ++ [] }) m
    ≡ m) [
      | true ↦ ap (λ (b : List ℕ). record { n = m.n; len = m.len; bytes = b }) (append-nil m.bytes)
      | false ↦ refl
    ] in
    rw (same, with_nothing n ms)

with_both : (n : ℕ) (first then' : List ℕ) (ms : List Incoming)
    → map (with_more n then') (map (with_more n first) ms) ≡ map (with_more n (first ++ then')) ms
with_both n first then' [] = refl
with_both n first then' (m ∷ ms) =
    let same : with_more n then' (with_more n first m) ≡ with_more n (first ++ then') m =
    (elim (m.n == n) as (λ b. (m.n == n) ≡ b → with_more n then' (with_more n first m)
    ≡ with_more n (first ++ then') m) [
      | true ↦ λ h. rw (h, h) (ap (λ (b : List ℕ). record { n = m.n; len = m.len; bytes = b })
          (append_assoc m.bytes first then'))
      | false ↦ λ h. rw (h, h) refl
    ]) refl in
    rw (same, with_both n first then' ms)

-- the numbers stay
AreNumbered-map : (n : ℕ) (bytes : List ℕ) (low high : ℕ) (ms : List Incoming) → AreNumbered low high ms
    → AreNumbered low high (map (with_more n bytes) ms)
AreNumbered-map n bytes low high [] r = r
AreNumbered-map n bytes low high (m ∷ ms) r =
    let same : (with_more n bytes m).n ≡ m.n = elim (m.n == n) as
    (λ b. (cond b (record m { bytes = m.bytes ++ bytes }) m).n ≡ m.n) [ true ↦ refl | false ↦ refl ] in
    rw same (r.0, AreNumbered-map n bytes (m.n + 1) high ms r.1)

middle : (a c : Bool) (x y : ℕ) → (a && (x == y) && c) ≡ true → x ≡ y
middle a c x y h = grind (arith, nat_tests)

-- what so many messages counted and these messages become by some packets
abbrev result : ℕ → List Incoming → List Packet → Stream
result count ms packets = record {
  count = count + length (groups (kept packets));
  messages = map (with_more (count - 1) (bytes_ahead (kept packets))) ms ++ eager_from count
      (groups (kept packets));
}

after_head : (count len : ℕ) (bytes ahead : List ℕ) (ms later : List Incoming) → AreNumbered 0 count ms
    → map (with_more (count + 1 - 1) ahead) (ms ++ record { n = count; len = len; bytes = bytes } ∷ []) ++
    later ≡ map (with_more (count - 1) []) ms ++ (record {
      n = count;
      len = len;
      bytes = bytes ++ ahead;
    } ∷ later)
after_head count len bytes ahead ms later r =
    let back : count + 1 - 1 ≡ count = omega arith in
    rw (
      back,
      map-append (with_more count ahead) ms (record { n = count; len = len; bytes = bytes } ∷ []),
      map-lacks count ahead ms (Lacks-below count 0 count ms (omega arith) r),
      with_nothing (count - 1) ms,
      eq_true count count refl,
    )
    (append_assoc ms (record { n = count; len = len; bytes = bytes ++ ahead } ∷ []) later)

after_ask : (count : ℕ) (ahead : List ℕ) (ms : List Incoming) → AreNumbered 0 count ms
    → map (with_more (count + 1 - 1) ahead) ms ≡ map (with_more (count - 1) []) ms
after_ask count ahead ms r =
    let back : count + 1 - 1 ≡ count = omega arith in
    rw (
      back,
      map-lacks count ahead ms (Lacks-below count 0 count ms (omega arith) r),
      with_nothing (count - 1) ms,
    )

same_stream : (a b : ℕ) (x y : List Incoming) → a ≡ b → x ≡ y
    → ◌≡◌ {A = Stream} (record { count = a; messages = x }) (record { count = b; messages = y })
same_stream a b x y p q = ap (λ (c : ℕ). let s : Stream = record { count = c; messages = x } in s) p
    ∙ ap (λ (ms : List Incoming). let s : Stream = record { count = b; messages = ms } in s) q

step : (eager count : ℕ) (ms : List Incoming) (p : Packet) (packets : List Packet)
    (later : (count' : ℕ) (ms' : List Incoming) → AreNumbered 0 count' ms'
    → AllContinue eager (record { count = count'; messages = ms' }) packets
    → after_all (record { count = count'; messages = ms' }) packets ≡ result count' ms' packets)
    (w : What) → p.what ≡ w → AreNumbered 0 count ms → AllContinue eager
    (record { count = count; messages = ms }) (p ∷ packets) → after_all
    (record { count = count; messages = ms }) (p ∷ packets) ≡ result count ms (p ∷ packets)
step eager count ms p packets later (what.Head tag ctx len) e r all =
    let all' = rw e at all in
    let m : Incoming = record { n = count; len = len; bytes = p.payload } in
    let ih = later (count + 1) (ms ++ m ∷ []) (AreNumbered-push 0 count (count + 1) ms m r (omega arith)
    (omega arith)) all'.1 in
    rw e (ih ∙ same_stream _ _ _ _ (omega arith) (after_head count len p.payload
    (bytes_ahead (kept packets)) ms (eager_from (count + 1) (groups (kept packets))) r))
step eager count ms p packets later (what.More n) e r all =
    let all' = rw e at all in
    let last = middle _ _ (n + 1) count all'.0 in
    let same : count - 1 ≡ n = omega arith in
    let one : 1 + prefix_len (λ q. goes_on q.what) (kept packets)
    ≡ suc (prefix_len (λ q. goes_on q.what) (kept packets)) = omega arith in
    let ih = rw same at (later count (map (with_more n p.payload) ms)
    (AreNumbered-map n p.payload 0 count ms r) all'.1) in
    rw (e, one, same) (ih
    ∙ same_stream _ _ _ _ refl (ap (λ (l : List Incoming). l ++ eager_from count (groups (kept packets)))
    (with_both n p.payload (bytes_ahead (kept packets)) ms)))
step eager count ms p packets later (what.Ask tag ctx len) e r all =
    let all' = rw e at all in
    let ih = later (count + 1) ms (AreNumbered-wider 0 0 count (count + 1) ms (omega arith) (omega arith) r)
    all'.1 in
    rw e (ih ∙ same_stream _ _ _ _ (omega arith) (ap (λ (l : List Incoming). l ++ eager_from (count + 1)
    (groups (kept packets))) (after_ask count (bytes_ahead (kept packets)) ms r)))
step eager count ms p packets later (what.Clear n) e r all = let all' = rw e at all in rw e
    (later count ms r all'.1)
step eager count ms p packets later (what.Withdraw n) e r all = let all' = rw e at all in rw e
    (later count ms r all'.1)
step eager count ms p packets later (what.Withdrawn n done) e r all = let all' = rw e at all in rw e
    (later count ms r all'.1)

joins : (eager count : ℕ) (ms : List Incoming) (packets : List Packet) → AreNumbered 0 count ms
    → AllContinue eager (record { count = count; messages = ms }) packets
    → after_all (record { count = count; messages = ms }) packets ≡ result count ms packets
joins eager count ms [] r all = rw (with_nothing (count - 1) ms, append-nil ms)
    (same_stream count (count + 0) ms ms (omega arith) refl)
joins eager count ms (p ∷ packets) r all = step eager count ms p packets
    (λ count' ms' r' all'. joins eager count' ms' packets r' all') p.what refl r all

pub messages_joined : (eager : ℕ) (packets : List Packet) → AllContinue eager nothing_came packets
    → after_all nothing_came packets ≡ stream_of (messages packets)
messages_joined eager packets all = joins eager 0 [] packets (omega arith) all
    ∙ same_stream _ _ _ _ (omega arith) refl
