-- The lines of a trace, event by event and then count by count.
use Rattle.std.proofs.Common.{◌≡◌, ℕ, zero, suc, ◌+◌, ◌<◌, ◌^◌, ◌==◌, true, false, ◌&&◌, Some, List, [], ◌∷◌, ◌++◌}
use Rattle.std.proofs.Common.{length, map, nat_le, refl, sym, ◌∙◌, ap, subst, arith, append_assoc}
use Rattle.std.specs.Prelude.{codes, decimal, flat_map, slice_get, take}
use Rattle.std.specs.List.{AllByRecursion, join_with_byte}
use Rattle.std.proofs.lemmas.Bool.{and_parts}
use Rattle.std.proofs.lemmas.Bool.Decides.{nat_tests}
use Rattle.std.proofs.lemmas.List.Concat.{flat_map-cons}
use Rattle.std.proofs.lemmas.List.Sums.{sum_by-cons}
use Rattle.std.proofs.lemmas.List.{get_or-append-add, length-append, length-map}
use Rattle.std.proofs.lemmas.Option.{get_or_from_slice_get, slice_get_read, slice_get_within}
use Rattle.nm_types.proofs.ListLemmas.{get_before, get_map}
use Rattle.nm_types.proofs.OptionLemmas.{no_some, same_some}
use Rattle.nm_types.specs.Sizes.{Sizes}
use Rattle.nm_types.specs.Text.{text_line}
use Rattle.nm_history.specs.declared.events.Event.{Event}
use Rattle.nm_history.specs.Quiescence.{Ended}
use Rattle.nm_report.specs.declared.accounts.RankAccount.{RankAccount}
use Rattle.nm_report.specs.declared.pairs.PairCount.{PairCount}
use Rattle.nm_report.specs.declared.records.RunRecord.{RunRecord}
use Rattle.nm_report.specs.Ends.{end_of_account, ends_of}
use Rattle.nm_report.specs.Events.{event_line, event_lines, event_words, pair_line}
use Rattle.nm_report.specs.Layout.{◌⧺◌, by_rank, from_rank}
use Rattle.nm_report.specs.Report.{answer_lines, cells_line, end_line}
use Rattle.nm_script.specs.Lines.{is_printable, lines_of}
use Rattle.nm_script.proofs.WordLemmas.{decimal_solid, joined_printable}
use Rattle.nm_trace.specs.Notes.{pair_words}
use Rattle.nm_trace.specs.Traces.{EndIn, EventIn, IsTraceOf, PairIn}
use Rattle.nm_breaks.specs.Lines.{event_text}
use Rattle.nm_breaks.specs.Places.{events_in}
use Rattle.nm_breaks.proofs.TextLemmas.{event_printable}

-- a printable line, and what stands behind its line feed
pub one_line : (words : List (List ℕ)) (rest : List ℕ) → is_printable (join_with_byte 32 words) ≡ true →
    lines_of (text_line words ++ rest) ≡ join_with_byte 32 words ∷ lines_of rest
one_line words rest plain =
    ap lines_of (append_assoc (join_with_byte 32 words) (10 ∷ []) rest) ∙ cut (join_with_byte 32 words) plain
  where
    no_feed : (b : ℕ) → (nat_le 32 b && nat_le b 126) ≡ true → (b == 10) ≡ false
    no_feed b h = grind (arith, nat_tests)

    cut : (xs : List ℕ) → is_printable xs ≡ true → lines_of (xs ++ 10 ∷ rest) ≡ xs ∷ lines_of rest
    cut [] plain = refl
    cut (b ∷ xs) plain =
        let parts = and_parts (nat_le 32 b && nat_le b 126) (is_printable xs) plain in
        rw (no_feed b parts.0) (rw (cut xs parts.1) refl)

-- the lines of a rank's events
event_lines_are : (rank : ℕ) (es : List Event) (rest : List ℕ) → rank < 2 ^ 64 → AllByRecursion EventIn es →
    lines_of (flat_map (event_line rank) es ++ rest) ≡ map (event_text rank) es ++ lines_of rest
event_lines_are rank [] rest few within = refl
event_lines_are rank (e ∷ es) rest few within =
    ap (λ (xs : List ℕ). lines_of (xs ++ rest)) (flat_map-cons (event_line rank) e es)
    ∙ ap lines_of (append_assoc (event_line rank e) (flat_map (event_line rank) es) rest)
    ∙ one_line (codes "@" ∷ decimal rank ∷ decimal e.stamp ∷ event_words e.what)
    (flat_map (event_line rank) es ++ rest) (event_printable rank e few within.0)
    ∙ ap (λ (ls : List (List ℕ)). event_text rank e ∷ ls) (event_lines_are rank es rest few within.1)

-- .. and of those of all ranks from one on
abbrev pub lines_from : ℕ → List RankAccount → List (List ℕ)
lines_from rank [] = []
lines_from rank (a ∷ accounts) = map (event_text rank) a.history.events ++ lines_from (rank + 1) accounts

lines_from_are : (rank : ℕ) (accounts : List RankAccount) (rest : List ℕ) → rank + length accounts < 2 ^ 64 →
    AllByRecursion EndIn (ends_of accounts) →
    lines_of (from_rank event_lines rank accounts ++ rest) ≡ lines_from rank accounts ++ lines_of rest
lines_from_are rank [] rest few within = refl
lines_from_are rank (a ∷ accounts) rest few within =
    let low : rank < 2 ^ 64 = omega (arith, few) in
    let less : (rank + 1) + length accounts < 2 ^ 64 = omega (arith, few) in
    ap lines_of (append_assoc (event_lines rank a) (from_rank event_lines (rank + 1) accounts) rest)
    ∙ event_lines_are rank a.history.events (from_rank event_lines (rank + 1) accounts ++ rest) low within.0.events
    ∙ ap (λ (ls : List (List ℕ)). map (event_text rank) a.history.events ++ ls)
    (lines_from_are (rank + 1) accounts rest less within.1)
    ∙ sym (append_assoc (map (event_text rank) a.history.events) (lines_from (rank + 1) accounts) (lines_of rest))

-- an item of the second of two lists
pub there_too : {X : Type 0} (xs ys : List X) (k : ℕ) (x : X) → slice_get ys k ≡ Some x →
    slice_get (xs ++ ys) (length xs + k) ≡ Some x
there_too xs ys k x here =
    let low : k < length ys = slice_get_within ys k x here in
    let long : length (xs ++ ys) ≡ length xs + length ys = length-append xs ys in
    slice_get_read (xs ++ ys) (length (xs ++ ys)) (length xs + k) x refl (omega (arith, low, long))
    (sym (get_or-append-add xs ys k x ∙ get_or_from_slice_get ys k x x here))

event_there : (rank : ℕ) (accounts : List RankAccount) (i k : ℕ) (a : Ended) (e : Event) (more : List (List ℕ)) →
    slice_get (ends_of accounts) i ≡ Some a → slice_get a.events k ≡ Some e →
    slice_get (lines_from rank accounts ++ more) (events_in (take i (ends_of accounts)) + k)
    ≡ Some (event_text (rank + i) e)
event_there rank [] i k a e more here there = absurd (no_some a here)
event_there rank (r ∷ accounts) zero k a e more here there =
    let own : slice_get r.history.events k ≡ Some e =
    subst (λ (x : Ended). slice_get x.events k ≡ Some e) (sym (same_some (end_of_account r) a here)) there in
    let at : events_in (take zero (ends_of (r ∷ accounts))) + k ≡ k = omega arith in
    let same : rank ≡ rank + zero = omega arith in
    ap (λ (n : ℕ). slice_get (lines_from rank (r ∷ accounts) ++ more) n) at
    ∙ get_before (lines_from rank (r ∷ accounts)) more k (event_text rank e)
    (get_before (map (event_text rank) r.history.events) (lines_from (rank + 1) accounts) k (event_text rank e)
    (get_map (event_text rank) r.history.events k e own))
    ∙ ap (λ (n : ℕ). Some (event_text n e)) same
event_there rank (r ∷ accounts) (suc i) k a e more here there =
    let texts = map (event_text rank) r.history.events in
    let sum : events_in (take (suc i) (ends_of (r ∷ accounts)))
    ≡ length r.history.events + events_in (take i (ends_of accounts)) =
    sum_by-cons (λ (e : Ended). length e.events) (end_of_account r) (take i (ends_of accounts)) in
    let long : length texts ≡ length r.history.events = length-map r.history.events (event_text rank) in
    let at : events_in (take (suc i) (ends_of (r ∷ accounts))) + k
    ≡ length texts + (events_in (take i (ends_of accounts)) + k) = omega (arith, sum, long) in
    let same : (rank + 1) + i ≡ rank + suc i = omega arith in
    ap (λ (n : ℕ). slice_get (lines_from rank (r ∷ accounts) ++ more) n) at
    ∙ ap (λ (ls : List (List ℕ)). slice_get ls (length texts + (events_in (take i (ends_of accounts)) + k)))
    (append_assoc texts (lines_from (rank + 1) accounts) more)
    ∙ there_too texts (lines_from (rank + 1) accounts ++ more) (events_in (take i (ends_of accounts)) + k)
    (event_text ((rank + 1) + i) e) (event_there (rank + 1) accounts i k a e more here there)
    ∙ ap (λ (n : ℕ). Some (event_text n e)) same

-- the lines of a trace are those of its events, and then the others
lines_are : (shape : Sizes) (bytes : List ℕ) (run : RunRecord) → IsTraceOf shape bytes run → shape.ranks < 2 ^ 64 →
    (rest : List ℕ) → rest ≡ by_rank answer_lines run.ranks ⧺ cells_line run.cells ⧺ end_line run.done →
    lines_of bytes ≡ lines_from 0 run.ranks ++ lines_of (flat_map pair_line run.pairs ++ rest)
lines_are shape bytes run trace few rest is =
    let pairs = flat_map pair_line run.pairs in
    let whole : length run.ranks ≡ shape.ranks = trace.whole in
    let less : 0 + length run.ranks < 2 ^ 64 = omega (arith, whole, few) in
    ap lines_of (trace.spelled
    ∙ ap (λ (xs : List ℕ). (by_rank event_lines run.ranks ++ pairs) ++ xs) (sym is)
    ∙ append_assoc (by_rank event_lines run.ranks) pairs rest)
    ∙ lines_from_are 0 run.ranks (pairs ++ rest) less trace.ends

-- the event of a rank at a place stands in the line of the trace that is counted for it
pub event_stands : (shape : Sizes) (bytes : List ℕ) (run : RunRecord) (i k : ℕ) (a : Ended) (e : Event) →
    IsTraceOf shape bytes run → shape.ranks < 2 ^ 64 →
    slice_get (ends_of run.ranks) i ≡ Some a → slice_get a.events k ≡ Some e →
    slice_get (lines_of bytes) (events_in (take i (ends_of run.ranks)) + k) ≡ Some (event_text i e)
event_stands shape bytes run i k a e trace few here there =
    let rest = by_rank answer_lines run.ranks ⧺ cells_line run.cells ⧺ end_line run.done in
    let pairs = flat_map pair_line run.pairs in
    let same : 0 + i ≡ i = omega arith in
    ap (λ (ls : List (List ℕ)). slice_get ls (events_in (take i (ends_of run.ranks)) + k))
    (lines_are shape bytes run trace few rest refl)
    ∙ event_there 0 run.ranks i k a e (lines_of (pairs ++ rest)) here there
    ∙ ap (λ (n : ℕ). Some (event_text n e)) same

-- a line for each event
pub many_from : (rank : ℕ) (accounts : List RankAccount) →
    length (lines_from rank accounts) ≡ events_in (ends_of accounts)
many_from rank [] = refl
many_from rank (a ∷ accounts) =
    let texts = map (event_text rank) a.history.events in
    let both : length (lines_from rank (a ∷ accounts)) ≡ length texts + length (lines_from (rank + 1) accounts) =
    length-append texts (lines_from (rank + 1) accounts) in
    let long : length texts ≡ length a.history.events = length-map a.history.events (event_text rank) in
    let sum : events_in (ends_of (a ∷ accounts)) ≡ length a.history.events + events_in (ends_of accounts) =
    sum_by-cons (λ (e : Ended). length e.events) (end_of_account a) (ends_of accounts) in
    let more = many_from (rank + 1) accounts in
    omega (arith, both, long, sum, more)

-- the line of a count of packets
abbrev pub pair_text : PairCount → List ℕ
pair_text pair = join_with_byte 32 (pair_words pair)

pair_printable : (pair : PairCount) → PairIn pair → is_printable (pair_text pair) ≡ true
pair_printable pair within =
    joined_printable (codes "pair") (decimal pair.from ∷ decimal pair.to ∷ decimal pair.packets ∷ []) (
      refl,
      (
        decimal_solid pair.from (omega (arith, within.0)),
        (
          decimal_solid pair.to (omega (arith, within.1)),
          (decimal_solid pair.packets (omega (arith, within.2)), tt),
        ),
      ),
    )

pair_lines_are : (pairs : List PairCount) (rest : List ℕ) → AllByRecursion PairIn pairs →
    lines_of (flat_map pair_line pairs ++ rest) ≡ map pair_text pairs ++ lines_of rest
pair_lines_are [] rest within = refl
pair_lines_are (pair ∷ pairs) rest within =
    ap (λ (xs : List ℕ). lines_of (xs ++ rest)) (flat_map-cons pair_line pair pairs)
    ∙ ap lines_of (append_assoc (pair_line pair) (flat_map pair_line pairs) rest)
    ∙ one_line (pair_words pair) (flat_map pair_line pairs ++ rest) (pair_printable pair within.0)
    ∙ ap (λ (ls : List (List ℕ)). pair_text pair ∷ ls) (pair_lines_are pairs rest within.1)

-- the lines of a trace are those of its events, then those of its counts, and then the others
pub all_lines : (shape : Sizes) (bytes : List ℕ) (run : RunRecord) → IsTraceOf shape bytes run →
    shape.ranks < 2 ^ 64 →
    (rest : List ℕ) × (lines_of bytes ≡ lines_from 0 run.ranks ++ (map pair_text run.pairs ++ lines_of rest))
all_lines shape bytes run trace few =
    let rest = by_rank answer_lines run.ranks ⧺ cells_line run.cells ⧺ end_line run.done in (
      rest,
      lines_are shape bytes run trace few rest refl
          ∙ ap (λ (ls : List (List ℕ)). lines_from 0 run.ranks ++ ls) (pair_lines_are run.pairs rest trace.pairs),
    )

-- a count of packets stands behind the events, in its place
pub count_stands : (shape : Sizes) (bytes : List ℕ) (run : RunRecord) (k : ℕ) (pair : PairCount) →
    IsTraceOf shape bytes run → shape.ranks < 2 ^ 64 → slice_get run.pairs k ≡ Some pair →
    slice_get (lines_of bytes) (events_in (ends_of run.ranks) + k) ≡ Some (join_with_byte 32 (pair_words pair))
count_stands shape bytes run k pair trace few here =
    let all = all_lines shape bytes run trace few in
    let texts = map pair_text run.pairs ++ lines_of all.0 in
    let events = lines_from 0 run.ranks in
    let many : length events ≡ events_in (ends_of run.ranks) = many_from 0 run.ranks in
    let place : events_in (ends_of run.ranks) + k ≡ length events + k = omega (arith, many) in
    ap (λ (n : ℕ). slice_get (lines_of bytes) n) place
    ∙ ap (λ (ls : List (List ℕ)). slice_get ls (length events + k)) all.1
    ∙ there_too events texts k (pair_text pair)
    (get_before (map pair_text run.pairs) (lines_of all.0) k (pair_text pair) (get_map pair_text run.pairs k pair here))
