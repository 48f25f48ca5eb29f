-- The packets of a sender's messages continue, where they are those that its history calls for.
use Rattle.std.proofs.Common.{◌≡◌, ℕ, zero, suc, ◌+◌, ◌-◌, ◌*◌, ◌<◌, ◌≤◌, ◌==◌, min, Bool, true, false, not, ◌&&◌}
use Rattle.std.proofs.Common.{◌||◌, cond, Option, Some, None, List, [], ◌∷◌, ◌++◌, length, map, drop, refl, sym, ◌∙◌}
use Rattle.std.proofs.Common.{ap, subst, arith}
use Rattle.std.specs.Prelude.{nat_lt}
use Rattle.std.specs.List.{AllZip, AllByRecursion, cons_option, list_any, range_with_len}
use Rattle.std.specs.Bool.{OnTrue}
use Rattle.std.proofs.lemmas.List.{length-take, length-drop}
use Rattle.std.proofs.lemmas.List.Folds.{list_any-append}
use Rattle.std.proofs.Math.Nat.{lt-mul-div-succ, mul-div-le}
use Rattle.nm_types.specs.declared.limits.TheConstants.{MAX_PAYLOAD, MAX_BODY, MAX_TAG}
use Rattle.nm_types.specs.declared.messages.How.{How}
use Rattle.nm_types.specs.declared.messages.How.TheVariants as how
use Rattle.nm_types.specs.declared.packets.What.{What}
use Rattle.nm_types.specs.declared.packets.What.TheVariants as what
use Rattle.nm_history.specs.declared.events.Event.{Event}
use Rattle.nm_history.specs.declared.events.Happened.{Happened}
use Rattle.nm_history.specs.declared.events.Happened.TheVariants.{Send, Recall, Withdraw, Post, Arrive, Match}
use Rattle.nm_history.specs.Sends.{Sent, sends, envelope, is_ask}
use Rattle.nm_history.specs.Happens.{happened, is_recall}
use Rattle.nm_history.specs.Outgoing.{Called, AreCalled, IsCalled, part_at, further_packets, bare, send_packets}
use Rattle.nm_history.specs.Outgoing.{eager_packets, packets_by, clear_packets, is_clear}
use Rattle.std.specs.Option.{option_map_or}
use Rattle.nm_history.specs.declared.plain.Pair.{Pair}
use Rattle.nm_history.specs.Matching.{matched_pairs, new_pair}
use Rattle.nm_channels.proofs.Streams.{Announced, announced_as, announced_by, announced, StreamIsRight, completes}
use Rattle.nm_channels.proofs.Streams.{completed, Announces, StreamGoes, SenderAt, eager_numbers}
use Rattle.nm_history.specs.Continues.{continues_stream, is_of_stream, WORN_STAMP}
use Rattle.nm_history.specs.Known.{Known, Taken, known_after, learned}
use Rattle.nm_history.proofs.Basic.{lt_true, le_true, at_true, or_false}
use Rattle.nm_history.proofs.Sent.{new_sends}
use Rattle.nm_types.proofs.NumberLemmas.{eq_true, same_number, eq_false}

-- no packet has a stamp past the last
abbrev pub InTime : List Taken → Type 0
InTime ts = AllByRecursion (λ t. t.packet.stamp < WORN_STAMP) ts

-- the packets are those called for
abbrev pub Carries : ℕ → ℕ → List Called → List Taken → Type 0
Carries i num called ts = AreCalled i num called (map (λ t. t.packet) ts)

-- one packet of the sender's own messages
one : (eager i num : ℕ) (known : Known) (c : Called) (t : Taken) (ts : List Taken) → is_of_stream c.what ≡ true →
    continues_stream eager known c.what (length c.payload) ≡ true →
    IsCalled i num c t.packet → t.packet.stamp < WORN_STAMP → StreamIsRight eager known (t ∷ ts) →
    (t.continued ≡ true) × StreamIsRight eager (learned known c.what (length c.payload)) ts
one eager i num known c t ts of_stream fits called in_time right =
    let test : (is_of_stream t.packet.what && nat_lt t.packet.stamp WORN_STAMP) ≡ true =
    rw (called.same, of_stream, lt_true t.packet.stamp WORN_STAMP in_time) refl in
    let goes : t.continued ≡ true = at_true _ test right.0 ∙ rw (called.same, called.bytes) fits in
    let then : known_after known t ≡ learned known c.what (length c.payload) = rw (goes, called.same, called.bytes)
    refl in
    (goes, subst (λ (k : Known). StreamIsRight eager k ts) then right.1)

on_true_of : (t : Taken) (b : Bool) → t.continued ≡ true → OnTrue b (t.continued ≡ true)
on_true_of t true g = g
on_true_of t false g = tt

-- what one packet more completes
completes_one : (i num : ℕ) (known : Known) (c : Called) (o : Option ℕ) (ns : List ℕ) (t : Taken) (ts : List Taken) →
    IsCalled i num c t.packet → t.continued ≡ true → completes known c.what (length c.payload) ≡ o →
    completed (learned known c.what (length c.payload)) ts ≡ ns → completed known (t ∷ ts) ≡ cons_option o ns
completes_one i num known c o ns t ts called goes ends rest = rw (goes, called.same, called.bytes, ends, rest) refl

-- a packet that announces nothing
announces_nothing : (i num : ℕ) (known : Known) (c : Called) (ss : List Sent) (o : Option ℕ) (ns : List ℕ) (t : Taken)
    (ts : List Taken) → IsCalled i num c t.packet → announced_as i t.packet.stamp c.what ≡ None →
    completes known c.what (length c.payload) ≡ o → t.continued ≡ true →
    StreamGoes i ss ns (learned known c.what (length c.payload)) ts → StreamGoes i ss (cons_option o ns) known (t ∷ ts)
announces_nothing i num known c ss o ns t ts called none ends goes rest =
    let no : announced_by t ≡ None = rw (goes, called.same, called.sender) none in (
      (on_true_of t (is_of_stream t.packet.what) goes, rest.0),
      subst (λ (o : Option Announced). AllZip
          (Announces i) ss (cons_option o (announced ts))) (sym no) rest.1,
      completes_one i num known c o ns t ts called
          goes ends rest.2,
    )

-- an answer, which may have been a stray
answers_pass : (i num : ℕ) (known : Known) (c : Called) (ss : List Sent) (ns : List ℕ) (t : Taken) (ts : List Taken) →
    IsCalled i num c t.packet → is_of_stream c.what ≡ false → StreamGoes i ss ns (known_after known t) ts →
    StreamGoes i ss ns known (t ∷ ts)
answers_pass i num known c ss ns t ts called other rest =
    let not_stream : is_of_stream t.packet.what ≡ false = rw called.same other in
    let no : announced_by t ≡ None = no_announcement t.continued t.packet.what not_stream in
    let nothing : cond t.continued (completes known t.packet.what (length t.packet.payload)) None ≡ None =
    no_completion t.continued t.packet.what (length t.packet.payload) not_stream in (
      ((subst (λ (b : Bool). OnTrue b (t.continued ≡ true)) (sym not_stream) tt), rest.0),
      subst (λ (o : Option Announced). AllZip (Announces i) ss (cons_option o (announced ts))) (sym no) rest.1,
      subst (λ (o : Option ℕ). cons_option o (completed (known_after known t) ts) ≡ ns) (sym nothing) rest.2,
    )
  where
    no_announcement : (b : Bool) (w : What) → is_of_stream w ≡ false →
        cond b (announced_as t.packet.from t.packet.stamp w) None ≡ None
    no_announcement false w h = refl
    no_announcement true (what.Clear n) h = refl
    no_announcement true (what.Withdrawn n done) h = refl
    no_announcement true w h = cc

    no_completion : (b : Bool) (w : What) (size : ℕ) → is_of_stream w ≡ false → cond b (completes known w size) None
        ≡ None
    no_completion false w size h = refl
    no_completion true (what.Clear n) size h = refl
    no_completion true (what.Withdrawn n done) size h = refl
    no_completion true w size h = cc

-- a packet that announces a message
announces_one : (i num : ℕ) (known : Known) (c : Called) (s : Sent) (ss : List Sent) (o : Option ℕ) (ns : List ℕ)
    (t : Taken) (ts : List Taken) → IsCalled i num c t.packet →
    announced_as i t.packet.stamp c.what ≡ Some (record { stamp = t.packet.stamp; env = envelope i s }) →
    completes known c.what (length c.payload) ≡ o → s.stamp ≤ t.packet.stamp → t.continued ≡ true →
    StreamGoes i ss ns (learned known c.what (length c.payload)) ts → StreamGoes i (s ∷ ss) (cons_option o ns) known
    (t ∷ ts)
announces_one i num known c s ss o ns t ts called some ends later goes rest =
    let yes : announced_by t ≡ Some (record { stamp = t.packet.stamp; env = envelope i s }) =
    rw (goes, called.same, called.sender) some in (
      (on_true_of t (is_of_stream t.packet.what) goes, rest.0),
      subst (λ (o : Option Announced). AllZip (Announces i)
          (s ∷ ss) (cons_option o (announced ts))) (sym yes) ((refl, later), rest.1),
      completes_one i num known c o ns t
          ts called goes ends rest.2,
    )

part_size : (s : Sent) (body : List ℕ) (k : ℕ) → length body ≡ s.len → length (part_at MAX_PAYLOAD body k)
    ≡ min MAX_PAYLOAD (s.len - MAX_PAYLOAD * k)
part_size s body k sized = rw (
  length-take MAX_PAYLOAD (drop (MAX_PAYLOAD * k) body),
  length-drop
      (MAX_PAYLOAD * k) body,
  sized,
) refl

-- what stands where no message is unfinished
pub record Between (count : ℕ) (withdrawn : List ℕ) (known : Known) : Type 0 where
  pub counted : known.count ≡ count
  pub finished : known.missing ≡ 0
  pub same : known.withdrawn ≡ withdrawn

-- what follows a message
abbrev Follows : ℕ → ℕ → ℕ → List ℕ → List Called → List Sent → List ℕ → Type 0
Follows eager i count withdrawn rest ss ns =
    (num : ℕ) (known : Known) (ts : List Taken) → Between count withdrawn known → Carries i num rest ts → InTime ts →
    StreamIsRight eager known ts → StreamGoes i ss ns known ts

-- the number of a message that is not over, and then others
abbrev over_after : ℕ → ℕ → List ℕ → List ℕ
over_after zero n ns = ns
over_after (suc m) n ns = n ∷ ns

-- the message that a packet ends, where so many are to follow
abbrev ends_with : ℕ → ℕ → Option ℕ
ends_with zero n = Some n
ends_with (suc m) n = None

over_step : (m n : ℕ) (ns : List ℕ) → cons_option (ends_with m n) (over_after m n ns) ≡ n ∷ ns
over_step zero n ns = refl
over_step (suc m) n ns = refl

-- a packet of a message ends it exactly where no more follow
ends_at : (m n lacks size : ℕ) → size ≡ min MAX_PAYLOAD lacks → lacks ≤ MAX_PAYLOAD * (1 + m) →
    (0 < m → MAX_PAYLOAD * m < lacks) → cond (lacks == size) (Some n) None ≡ ends_with m n
ends_at zero n lacks size is enough few = rw (eq_true lacks size (omega (arith, is, enough))) refl
ends_at (suc m) n lacks size is enough few = let more : MAX_PAYLOAD * suc m < lacks = few (omega arith) in
    rw (eq_false lacks size (omega (arith, is, more))) refl

mores : (eager i num : ℕ) (s : Sent) (body : List ℕ) (rest : List Called) (ss : List Sent) (ns : List ℕ) →
    length body ≡ s.len → (m k : ℕ) (known : Known) (ts : List Taken) →
    known.count ≡ s.n + 1 → known.missing ≡ s.len - MAX_PAYLOAD * k → s.len ≤ MAX_PAYLOAD * (k + m) →
    (0 < m → MAX_PAYLOAD * (k + m) < s.len + MAX_PAYLOAD) →
    Carries i num (map (λ k. record { stamp = s.stamp; what = what.More s.n; payload = part_at MAX_PAYLOAD body k })
    (range_with_len k m) ++ rest) ts → InTime ts → StreamIsRight eager known ts →
    Follows eager i (s.n + 1) known.withdrawn rest ss ns → StreamGoes i ss (over_after m s.n ns) known ts
mores eager i num s body rest ss ns sized zero k known ts counted lacks enough few called in_time right follows =
    follows num known ts (record { counted = counted; finished = omega (arith, lacks, enough); same = refl }) called
    in_time right
mores eager i num s body rest ss ns sized (suc m) k known [] counted lacks enough few called in_time right follows =
    absurd called
mores eager i num s body rest ss ns sized (suc m) k known (t ∷ ts) counted lacks enough few called in_time right
    follows =
    let c : Called = record { stamp = s.stamp; what = what.More s.n; payload = part_at MAX_PAYLOAD body k } in
    let size : length c.payload ≡ min MAX_PAYLOAD (s.len - MAX_PAYLOAD * k) = part_size s body k sized in
    let bound : MAX_PAYLOAD * (k + suc m) < s.len + MAX_PAYLOAD = few (omega arith) in
    let lack : 0 < known.missing = omega (arith, lacks, bound) in
    let fits : continues_stream eager known c.what (length c.payload) ≡ true =
    rw (
      lt_true 0 known.missing lack,
      eq_true (s.n + 1) known.count (sym counted),
      eq_true (length c.payload)
          (min MAX_PAYLOAD known.missing) (size ∙ ap (λ (x : ℕ). min MAX_PAYLOAD x) (sym lacks)),
    ) refl in
    let step = one eager i num known c t ts refl fits called.0 in_time.0 right in
    subst (λ (xs : List ℕ). StreamGoes i ss xs known (t ∷ ts)) (over_step m s.n ns)
    (announces_nothing i num known c ss (ends_with m s.n) (over_after m s.n ns) t ts called.0 refl
    (ends_at m s.n known.missing (length c.payload) (size ∙ ap (λ (x : ℕ). min MAX_PAYLOAD x) (sym lacks))
    (omega (arith, lacks, enough)) (λ some. omega (arith, lacks, bound))) step.0
    (mores eager i (num + 1) s body rest ss ns sized m (k + 1) (learned known c.what (length c.payload)) ts counted
    (omega (arith, lacks, size, bound)) (omega (arith, enough)) (λ some. omega (arith, bound)) called.1 in_time.1
    step.1 follows))

-- the packets of a send
send_goes : (eager i num count : ℕ) (s : Sent) (body : List ℕ) (rest : List Called) (ss : List Sent) (ns : List ℕ)
    (withdrawn : List ℕ) (known : Known) (ts : List Taken) →
    s.len ≤ cond (is_ask s.how) MAX_BODY eager → s.tag ≤ MAX_TAG → length body ≡ s.len → s.n ≡ count →
    Between count withdrawn known →
    Carries i num (send_packets s body ++ rest) ts → InTime ts → StreamIsRight eager known ts →
    Follows eager i (count + 1) withdrawn rest ss ns → StreamGoes i (s ∷ ss) (cond (not (is_ask s.how)) (s.n ∷ ns) ns)
    known ts
send_goes eager i num count s body rest ss ns withdrawn known ts short tagged sized numbered between called in_time
    right follows =
    by_how s.how ts refl short called in_time right
  where
    by_how : (h : How) (ts : List Taken) → s.how ≡ h → s.len ≤ cond (is_ask h) MAX_BODY eager →
        Carries i num (cond (is_ask h) (bare s.stamp (what.Ask s.tag s.ctx s.len) ∷ []) (eager_packets s body) ++
        rest) ts → InTime ts → StreamIsRight eager known ts →
        StreamGoes i (s ∷ ss) (cond (not (is_ask h)) (s.n ∷ ns) ns) known ts
    by_how h [] same short called in_time right = absurd_called h called where
      absurd_called : (h : How) →
          Carries i num (cond (is_ask h) (bare s.stamp (what.Ask s.tag s.ctx s.len) ∷ []) (eager_packets s body) ++
          rest) [] → StreamGoes i (s ∷ ss) (cond (not (is_ask h)) (s.n ∷ ns) ns) known []
      absurd_called how.Ask called = absurd called
      absurd_called how.Eager called = absurd called
    by_how how.Ask (t ∷ ts) same short called in_time right =
        let c : Called = bare s.stamp (what.Ask s.tag s.ctx s.len) in
        let fits : continues_stream eager known c.what (length c.payload) ≡ true =
        rw (eq_true known.missing 0 between.finished, le_true s.len MAX_BODY short, le_true s.tag MAX_TAG tagged)
        refl in
        let step = one eager i num known c t ts refl fits called.0 in_time.0 right in
        announces_one i num known c s ss None ns t ts called.0 (rw same refl) refl called.0.later step.0
        (follows (num + 1) (learned known c.what (length c.payload)) ts
        (record {
          counted = ap (λ (x : ℕ). x + 1) between.counted;
          finished = between.finished;
          same =
              between.same;
        }) called.1 in_time.1 step.1)
    by_how how.Eager (t ∷ ts) same short called in_time right =
        let c : Called = record {
          stamp = s.stamp;
          what = what.Head s.tag s.ctx s.len;
          payload =
              part_at MAX_PAYLOAD body 0;
        } in
        let size : length c.payload ≡ min MAX_PAYLOAD (s.len - MAX_PAYLOAD * 0) = part_size s body 0 sized in
        let fits : continues_stream eager known c.what (length c.payload) ≡ true =
        rw (
          eq_true known.missing 0 between.finished,
          le_true s.len eager short,
          le_true s.tag MAX_TAG tagged,
          eq_true
              (length c.payload) (min MAX_PAYLOAD s.len) (omega (arith, size)),
        ) refl in
        let step = one eager i num known c t ts refl fits called.0 in_time.0 right in
        let over = lt-mul-div-succ (s.len - 1) {b = MAX_PAYLOAD} (omega arith) in
        let under = mul-div-le (s.len - 1) MAX_PAYLOAD in
        let f : ℕ = further_packets s.len in
        let ends : completes known c.what (length c.payload) ≡ ends_with f s.n =
        ends_at f known.count s.len (length c.payload) (omega (arith, size)) (omega (arith, over))
        (λ some. omega (arith, under, some)) ∙ ap (λ (n : ℕ). ends_with f n) (between.counted ∙ sym numbered) in
        subst (λ (xs : List ℕ). StreamGoes i (s ∷ ss) xs known (t ∷ ts)) (over_step f s.n ns)
        (announces_one i num known c s ss (ends_with f s.n) (over_after f s.n ns) t ts called.0
        (rw same refl) ends called.0.later step.0
        (mores eager i (num + 1) s body rest ss ns sized (further_packets s.len) 1
        (learned known c.what (length c.payload)) ts
        (ap (λ (x : ℕ). x + 1) (between.counted ∙ sym numbered)) (omega (arith, size)) (omega (arith, over))
        (λ some. omega (arith, under, some)) called.1 in_time.1 step.1
        (subst (λ (n : ℕ). Follows eager i (n + 1) known.withdrawn rest ss ns) (sym numbered)
        (subst (λ (w : List ℕ). Follows eager i (count + 1) w rest ss ns) (sym between.same) follows))))

answer_keeps : (count size : ℕ) (withdrawn : List ℕ) (known : Known) (b : Bool) (w : What) → is_of_stream w ≡ false →
    Between count withdrawn known → Between count withdrawn (cond b (learned known w size) known)
answer_keeps count size withdrawn known false w other between = between
answer_keeps count size withdrawn known true (what.Clear n) other between =
    record { counted = between.counted; finished = between.finished; same = between.same }
answer_keeps count size withdrawn known true (what.Withdrawn n done) other between =
    record { counted = between.counted; finished = between.finished; same = between.same }
answer_keeps count size withdrawn known true w other between = cc

-- an answer
answer_goes : (eager i num count : ℕ) (c : Called) (rest : List Called) (ss : List Sent) (ns : List ℕ)
    (withdrawn : List ℕ) (known : Known) (ts : List Taken) → is_of_stream c.what ≡ false →
    Between count withdrawn known →
    Carries i num (c ∷ rest) ts → InTime ts → StreamIsRight eager known ts →
    Follows eager i count withdrawn rest ss ns → StreamGoes i ss ns known ts
answer_goes eager i num count c rest ss ns withdrawn known [] other between called in_time right follows = absurd called
answer_goes eager i num count c rest ss ns withdrawn known (t ∷ ts) other between called in_time right follows =
    answers_pass i num known c ss ns t ts called.0 other
    (follows (num + 1) (known_after known t) ts
    (answer_keeps count (length t.packet.payload) withdrawn known t.continued t.packet.what (rw called.0.same other)
    between) called.1 in_time.1 right.1)

numbers_of : (b : Bool) (s : Sent) (ns : List ℕ) → cond b (s.n ∷ ns) ns ≡ map (λ s. s.n) (cond b (s ∷ []) []) ++ ns
numbers_of true s ns = refl
numbers_of false s ns = refl

-- the withdrawals are the recalls
abbrev Agree : ℕ → List Event → List ℕ → Type 0
Agree j before withdrawn = (n : ℕ) → list_any (λ m. m == n) withdrawn ≡ happened (is_recall j n) before

pair_goes : (eager i j num count stamp : ℕ) (o : Option Pair) (rest : List Called) (ss : List Sent) (ns : List ℕ)
    (withdrawn : List ℕ) (known : Known) (ts : List Taken) → Between count withdrawn known →
    Carries i num (option_map_or (clear_packets j stamp) o [] ++ rest) ts → InTime ts → StreamIsRight eager known ts →
    Follows eager i count withdrawn rest ss ns → StreamGoes i ss ns known ts
pair_goes eager i j num count stamp None rest ss ns withdrawn known ts between called in_time right follows =
    follows num known ts between called in_time right
pair_goes eager i j num count stamp (Some pair) rest ss ns withdrawn known ts between called in_time right follows =
    by_test (is_clear j pair) called where
      by_test : (b : Bool) → Carries i num (cond b (bare stamp (what.Clear pair.arrival.n) ∷ []) [] ++ rest) ts →
          StreamGoes i ss ns known ts
      by_test true called = answer_goes eager i num count (bare stamp (what.Clear pair.arrival.n)) rest ss ns withdrawn
          known ts refl between called in_time right follows
      by_test false called = follows num known ts between called in_time right

pub event_goes : (eager i j num count stamp : ℕ) (bodies : Sent → List ℕ) (before : List Event) (w : Happened)
    (rest : List Called) (ss : List Sent) (ns : List ℕ) (withdrawn : List ℕ) (known : Known) (ts : List Taken) →
    SenderAt eager bodies before stamp w → count ≡ length (sends before j) → Between count withdrawn known →
    Agree j before withdrawn →
    Carries i num (packets_by bodies j before stamp w ++ rest) ts → InTime ts → StreamIsRight eager known ts →
    ((withdrawn' : List ℕ) →
    ((n : ℕ) → list_any (λ m. m == n) withdrawn' ≡ (happened (is_recall j n) before || is_recall j n w)) →
    Follows eager i (count + length (new_sends j stamp w)) withdrawn' rest ss ns) →
    StreamGoes i (new_sends j stamp w ++ ss) (eager_numbers (new_sends j stamp w) ++ ns) known ts
event_goes eager i j num count stamp bodies before (Send to n tag ctx len how line) rest ss ns withdrawn known ts may
    counted between agree called in_time right follows =
    by_to (to == j) refl called (follows withdrawn (λ n. agree n ∙ sym (or_false _)))
  where
    s : Sent
    s = record { stamp = stamp; to = to; n = n; tag = tag; ctx = ctx; len = len; how = how; line = line }

    by_to : (b : Bool) → (to == j) ≡ b → Carries i num (cond b (send_packets s (bodies s)) [] ++ rest) ts →
        Follows eager i (count + length (cond b (s ∷ []) [])) withdrawn rest ss ns →
        StreamGoes i (cond b (s ∷ []) [] ++ ss) (eager_numbers (cond b (s ∷ []) []) ++ ns) known ts
    by_to true test called follows =
        subst (λ (xs : List ℕ). StreamGoes i (s ∷ ss) xs known ts) (numbers_of (not (is_ask how)) s ns)
        (send_goes eager i num count s (bodies s) rest ss ns withdrawn known ts may.1.short may.1.tagged may.1.sized
        (may.0 ∙ ap (λ (k : ℕ). length (sends before k)) (same_number to j test) ∙ sym counted) between called in_time
        right follows)
    by_to false test called follows = follows num known ts
        (record { counted = omega (arith, between.counted); finished = between.finished; same = between.same }) called
        in_time right
event_goes eager i j num count stamp bodies before (Recall to n) rest ss ns withdrawn known ts may counted between
    agree called in_time right follows =
    by_to (to == j) refl ts called in_time right follows
  where
    by_to : (b : Bool) → (to == j) ≡ b →
        (ts : List Taken) → Carries i num (cond b (bare stamp (what.Withdraw n) ∷ []) [] ++ rest) ts → InTime ts →
        StreamIsRight eager known ts →
        ((withdrawn' : List ℕ) →
        ((m : ℕ) → list_any (λ x. x == m) withdrawn' ≡ (happened (is_recall j m) before || (b && n == m))) →
        Follows eager i (count + 0) withdrawn' rest ss ns) → StreamGoes i ss ns known ts
    by_to false test ts called in_time right follows = follows withdrawn (λ m. agree m ∙ sym (or_false _)) num known
        ts (record { counted = omega (arith, between.counted); finished = between.finished; same = between.same })
        called in_time right
    by_to true test [] called in_time right follows = absurd called
    by_to true test (t ∷ ts) called in_time right follows =
        let c : Called = bare stamp (what.Withdraw n) in
        let to_j : to ≡ j = same_number to j test in
        let sent : n < known.count =
        omega (arith, between.counted, counted, may.0, ap (λ (k : ℕ). length (sends before k)) to_j) in
        let first : list_any (λ m. m == n) known.withdrawn ≡ false =
        ap (λ (w : List ℕ). list_any (λ m. m == n) w) between.same ∙ agree n
        ∙ ap (λ (k : ℕ). happened (is_recall k n) before) (sym to_j) ∙ may.1 in
        let fits : continues_stream eager known c.what (length c.payload) ≡ true =
        rw (eq_true known.missing 0 between.finished, lt_true n known.count sent, first) refl in
        let step = one eager i num known c t ts refl fits called.0 in_time.0 right in
        announces_nothing i num known c ss None ns t ts called.0 refl refl step.0
        (follows (withdrawn ++ n ∷ []) (λ m. list_any-append (λ (x : ℕ). x == m) withdrawn (n ∷ [])
        ∙ ap (λ (b : Bool). b || ((n == m) || false)) (agree m)
        ∙ ap (λ (b : Bool). happened (is_recall j m) before || b) (or_false (n == m))) (num + 1)
        (learned known c.what (length c.payload)) ts
        (record {
          counted = omega (arith, between.counted);
          finished = between.finished;
          same =
              ap (λ (w : List ℕ). w ++ n ∷ []) between.same;
        }) called.1 in_time.1 step.1)
event_goes eager i j num count stamp bodies before (Withdraw from n done) rest ss ns withdrawn known ts may counted
    between agree called in_time right follows =
    by_from (from == j) called
  where
    later : Follows eager i count withdrawn rest ss ns
    later = subst (λ (k : ℕ). Follows eager i k withdrawn rest ss ns) (omega arith)
        (follows withdrawn (λ n. agree n ∙ sym (or_false _)))

    by_from : (b : Bool) → Carries i num (cond b (bare stamp (what.Withdrawn n done) ∷ []) [] ++ rest) ts →
        StreamGoes i ss ns known ts
    by_from true called = answer_goes eager i num count (bare stamp (what.Withdrawn n done)) rest ss ns withdrawn
        known ts refl between called in_time right later
    by_from false called = later num known ts between called in_time right
event_goes eager i j num count stamp bodies before (Post p line) rest ss ns withdrawn known ts may counted between
    agree called in_time right follows =
    pair_goes eager i j num count stamp (new_pair before (matched_pairs before) (Post p line)) rest ss ns withdrawn
    known ts between called in_time right
    (subst (λ (k : ℕ). Follows eager i k withdrawn rest ss ns) (omega arith)
    (follows withdrawn (λ n. agree n ∙ sym (or_false _))))
event_goes eager i j num count stamp bodies before (Arrive a) rest ss ns withdrawn known ts may counted between agree
    called in_time right follows =
    pair_goes eager i j num count stamp (new_pair before (matched_pairs before) (Arrive a)) rest ss ns withdrawn known
    ts between called in_time right
    (subst (λ (k : ℕ). Follows eager i k withdrawn rest ss ns) (omega arith)
    (follows withdrawn (λ n. agree n ∙ sym (or_false _))))
event_goes eager i j num count stamp bodies before (Match number from n cap line) rest ss ns withdrawn known ts may
    counted between agree called in_time right follows =
    pair_goes eager i j num count stamp (new_pair before (matched_pairs before) (Match number from n cap line)) rest
    ss ns withdrawn known ts between called in_time right
    (subst (λ (k : ℕ). Follows eager i k withdrawn rest ss ns) (omega arith)
    (follows withdrawn (λ n. agree n ∙ sym (or_false _))))
event_goes eager i j num count stamp bodies before w rest ss ns withdrawn known ts may counted between agree called
    in_time right follows =
    subst (λ (k : ℕ). Follows eager i k withdrawn rest ss ns) (omega arith)
    (follows withdrawn (λ n. agree n ∙ sym (or_false _))) num known ts between called in_time right
