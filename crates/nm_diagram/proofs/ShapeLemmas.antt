-- The lists of shapes, event by event.
use Rattle.std.proofs.Common.{◌≡◌, ℕ, ◌+◌, ◌≤◌, zero, suc, List, [], ◌∷◌, ◌++◌, Bool, true, false, cond, ◌&&◌, refl}
use Rattle.std.proofs.Common.{sym, ap, ◌∙◌, subst, arith, map, take, length, count_by, flat_map, nat_le, nat_lt}
use Rattle.std.proofs.Common.{Some, None}
use Rattle.std.specs.List.{filter, slice_get}
use Rattle.std.proofs.lemmas.Bool.{le-ltb, leb-true}
use Rattle.std.proofs.lemmas.List.{length-append}
use Rattle.std.proofs.lemmas.List.Sums.{sum_by-cons}
use Rattle.nm_history.specs.declared.events.Event.{Event}
use Rattle.nm_report.specs.declared.accounts.RankAccount.{RankAccount}
use Rattle.nm_diagram.specs.declared.frames.Span.{Span}
use Rattle.nm_diagram.specs.declared.anchors.Anchor.{Anchor}
use Rattle.nm_diagram.specs.declared.anchors.Anchor.TheVariants.{Send}
use Rattle.nm_diagram.specs.Anchors.{first_stamp, is_anchor, since}
use Rattle.nm_diagram.specs.Diagrams.{Mark, all_marks, from_lane, mark_of, marks_at, marks_of, sent_by}
use Rattle.nm_diagram.specs.Frames.{is_shown, shown_count, shown_of}
use Rattle.nm_diagram.specs.Joined.{Rise}
use Rattle.nm_diagram.specs.Labels.{labelled, labels_at}
use Rattle.nm_diagram.proofs.FrameLemmas.{hidden-later, never_both}

-- the marks of a rank are those of its events that are shown
next_mark : (span : Span) (rank : ℕ) (e : Event) (events : List Event) (b : Bool) →
    flat_map (marks_at span rank) events ≡ map (mark_of rank) (filter (is_shown span) events) →
    cond b (mark_of rank e ∷ []) [] ++ flat_map (marks_at span rank) events
    ≡ map (mark_of rank) (cond b (e ∷ filter (is_shown span) events) (filter (is_shown span) events))
next_mark span rank e events true same = ap (λ l. mark_of rank e ∷ l) same
next_mark span rank e events false same = same

pub marks-are : (span : Span) (rank : ℕ) (events : List Event) →
    flat_map (marks_at span rank) events ≡ map (mark_of rank) (filter (is_shown span) events)
marks-are span rank [] = refl
marks-are span rank (e ∷ events) = next_mark span rank e events (is_shown span e) (marks-are span rank events)

-- and so are its labels
next_label : (span : Span) (rank : ℕ) (e : Event) (events : List Event) (b : Bool) →
    flat_map (labels_at span rank) events ≡ map (labelled rank) (filter (is_shown span) events) →
    cond b (labelled rank e ∷ []) [] ++ flat_map (labels_at span rank) events
    ≡ map (labelled rank) (cond b (e ∷ filter (is_shown span) events) (filter (is_shown span) events))
next_label span rank e events true same = ap (λ l. labelled rank e ∷ l) same
next_label span rank e events false same = same

pub labels-are : (span : Span) (rank : ℕ) (events : List Event) →
    flat_map (labels_at span rank) events ≡ map (labelled rank) (filter (is_shown span) events)
labels-are span rank [] = refl
labels-are span rank (e ∷ events) = next_label span rank e events (is_shown span e) (labels-are span rank events)

-- they are as many
one_or_none : (mark : Mark) (b : Bool) (marks : List Mark) →
    length (cond b (mark ∷ []) [] ++ marks) ≡ cond b 1 0 + length marks
one_or_none mark true marks = grind arith
one_or_none mark false marks = grind arith

marks-count : (span : Span) (rank : ℕ) (events : List Event) →
    length (flat_map (marks_at span rank) events) ≡ count_by (is_shown span) events
marks-count span rank [] = refl
marks-count span rank (e ∷ events) =
    one_or_none (mark_of rank e) (is_shown span e) (flat_map (marks_at span rank) events)
    ∙ ap (λ n. cond (is_shown span e) 1 0 + n) (marks-count span rank events)
    ∙ sym (sum_by-cons (λ e. cond (is_shown span e) 1 0) e events)

lanes-count : (span : Span) (rank : ℕ) (ranks : List RankAccount) →
    length (from_lane (marks_of span) rank ranks) ≡ shown_count span ranks
lanes-count span rank [] = refl
lanes-count span rank (account ∷ accounts) =
    length-append (marks_of span rank account) (from_lane (marks_of span) (rank + 1) accounts)
    ∙ ap (λ n. n + length (from_lane (marks_of span) (rank + 1) accounts))
    (marks-count span rank account.history.events)
    ∙ ap (λ n. shown_of span account + n) (lanes-count span (rank + 1) accounts)
    ∙ sym (sum_by-cons (shown_of span) account accounts)

pub all_marks-count : (span : Span) (ranks : List RankAccount) → length (all_marks span ranks) ≡ shown_count span ranks
all_marks-count span ranks = lanes-count span 0 ranks

-- stamps that rise from one on rise from an earlier one on
pub Rise-weaken : (low high : ℕ) (stamps : List ℕ) → low ≤ high → Rise high stamps → Rise low stamps
Rise-weaken low high [] h rise = tt
Rise-weaken low high (stamp ∷ stamps) h rise = (omega (arith, h, rise.0), rise.1)

-- where those of the events do, so do those of the marks
next_rises : (low : ℕ) (mark : Mark) (b : Bool) (marks : List Mark) → low ≤ mark.stamp →
    Rise (suc mark.stamp) (map (λ m. m.stamp) marks) →
    Rise low (map (λ m. m.stamp) (cond b (mark ∷ []) [] ++ marks))
next_rises low mark true marks h rise = (h, rise)
next_rises low mark false marks h rise =
    Rise-weaken low (suc mark.stamp) (map (λ m. m.stamp) marks) (omega (arith, h)) rise

pub marks-rise : (span : Span) (rank low : ℕ) (events : List Event) → Rise low (map (λ e. e.stamp) events) →
    Rise low (map (λ m. m.stamp) (flat_map (marks_at span rank) events))
marks-rise span rank low [] rise = tt
marks-rise span rank low (e ∷ events) rise =
    next_rises low (mark_of rank e) (is_shown span e) (flat_map (marks_at span rank) events) rise.0
    (marks-rise span rank (suc e.stamp) events rise.1)

-- what is at the end or above it is not shown
not_shown : (span : Span) (low : ℕ) (e : Event) → span.end ≤ low → low ≤ e.stamp → is_shown span e ≡ false
not_shown span low e h above =
    ap (λ b. nat_le span.first e.stamp && b) (le-ltb e.stamp span.end (omega (arith, h, above)))
    ∙ never_both (nat_le span.first e.stamp)

none_counted : (span : Span) (low : ℕ) (events : List Event) → span.end ≤ low → Rise low (map (λ e. e.stamp) events) →
    count_by (is_shown span) events ≡ 0
none_counted span low [] h rise = refl
none_counted span low (e ∷ events) h rise =
    sum_by-cons (λ e. cond (is_shown span e) 1 0) e events
    ∙ ap (λ b. cond b 1 0 + count_by (is_shown span) events) (not_shown span low e h rise.0)
    ∙ ap (λ n. 0 + n) (none_counted span (suc e.stamp) events (omega (arith, h, rise.0)) rise.1)

none_found : (span : Span) (low : ℕ) (anchor : Anchor) (events : List Event) → span.end ≤ low →
    Rise low (map (λ e. e.stamp) events) → first_stamp span anchor events ≡ None
none_found span low anchor [] h rise = refl
none_found span low anchor (e ∷ events) h rise =
    ap (λ b. cond (b && is_anchor anchor e.what) (Some e.stamp) (first_stamp span anchor events))
    (not_shown span low e h rise.0)
    ∙ none_found span (suc e.stamp) anchor events (omega (arith, h, rise.0)) rise.1

-- so the first events that are shown are all that are
next_front : (span : Span) (anchor : Anchor) (e : Event) (events : List Event) (k : ℕ) (b : Bool) →
    is_shown span e ≡ b → span.first ≤ e.stamp → Rise (suc e.stamp) (map (λ e. e.stamp) events) →
    cond b 1 0 + count_by (is_shown span) events ≤ k →
    ((n : ℕ) → count_by (is_shown span) events ≤ n →
    first_stamp span anchor (take n events) ≡ first_stamp span anchor events) →
    first_stamp span anchor (take k (e ∷ events)) ≡ first_stamp span anchor (e ∷ events)
next_front span anchor e events zero true is from rise few rest = absurd (omega (arith, few))
next_front span anchor e events (suc k) true is from rise few rest =
    ap (λ o. cond (is_shown span e && is_anchor anchor e.what) (Some e.stamp) o) (rest k (omega (arith, few)))
next_front span anchor e events zero false is from rise few rest =
    let h = hidden-later span e from is in
    sym (none_found span e.stamp anchor (e ∷ events) h (omega arith, rise))
next_front span anchor e events (suc k) false is from rise few rest =
    let h = hidden-later span e from is in
    let none = none_counted span (suc e.stamp) events (omega (arith, h)) rise in
    ap (λ o. cond (is_shown span e && is_anchor anchor e.what) (Some e.stamp) o)
    (rest k (subst (λ n. n ≤ k) (sym none) (omega arith)))

front-first : (span : Span) (low : ℕ) (anchor : Anchor) (events : List Event) (k : ℕ) → span.first ≤ low →
    Rise low (map (λ e. e.stamp) events) → count_by (is_shown span) events ≤ k →
    first_stamp span anchor (take k events) ≡ first_stamp span anchor events
front-first span low anchor [] zero from rise few = refl
front-first span low anchor [] (suc k) from rise few = refl
front-first span low anchor (e ∷ events) k from rise few =
    next_front span anchor e events k (is_shown span e) refl (omega (arith, from, rise.0)) rise.1
    (subst (λ n. n ≤ k) (sum_by-cons (λ e. cond (is_shown span e) 1 0) e events) few)
    (λ n. front-first span (suc e.stamp) anchor events n (omega (arith, from, rise.0)) rise.1)

-- and none is before the first one that has the first stamp or a later one
not_since : (span : Span) (e : Event) → nat_le span.first e.stamp ≡ false → is_shown span e ≡ false
not_since span e is = ap (λ b. b && nat_lt e.stamp span.end) is

next_since : (span : Span) (anchor : Anchor) (e : Event) (events : List Event) (k : ℕ) (b : Bool) →
    nat_le span.first e.stamp ≡ b → Rise (suc e.stamp) (map (λ e. e.stamp) events) →
    count_by (is_shown span) (e ∷ events) ≤ k →
    (count_by (is_shown span) events ≤ k →
    first_stamp span anchor (take k (since span.first events)) ≡ first_stamp span anchor events) →
    first_stamp span anchor (take k (cond b (e ∷ events) (since span.first events)))
    ≡ first_stamp span anchor (e ∷ events)
next_since span anchor e events k true is rise few rest =
    front-first span e.stamp anchor (e ∷ events) k (leb-true span.first e.stamp is) (omega arith, rise) few
next_since span anchor e events k false is rise few rest =
    let same = sum_by-cons (λ e. cond (is_shown span e) 1 0) e events in
    rest (omega (arith, few, same))
    ∙ sym (ap (λ b. cond (b && is_anchor anchor e.what) (Some e.stamp) (first_stamp span anchor events))
    (not_since span e is))

pub since-first : (span : Span) (low : ℕ) (anchor : Anchor) (events : List Event) (k : ℕ) →
    Rise low (map (λ e. e.stamp) events) → count_by (is_shown span) events ≤ k →
    first_stamp span anchor (take k (since span.first events)) ≡ first_stamp span anchor events
since-first span low anchor [] zero rise few = refl
since-first span low anchor [] (suc k) rise few = refl
since-first span low anchor (e ∷ events) k rise few =
    next_since span anchor e events k (nat_le span.first e.stamp) refl rise.1 few
    (since-first span (suc e.stamp) anchor events k rise.1)

-- a rank shows no more events than all ranks do
shown_part : (span : Span) (ranks : List RankAccount) (i : ℕ) (account : RankAccount) →
    slice_get ranks i ≡ Some account → shown_of span account ≤ shown_count span ranks
shown_part span [] i account got = absurd cc
shown_part span (x ∷ ranks) zero account got =
    let same : x ≡ account = cc in
    subst (λ n. shown_of span account ≤ n) (sym (sum_by-cons (shown_of span) x ranks))
    (subst (λ y. shown_of span account ≤ shown_of span y + shown_count span ranks) (sym same) (omega arith))
shown_part span (x ∷ ranks) (suc i) account got =
    let rest = shown_part span ranks i account got in
    subst (λ n. shown_of span account ≤ n) (sym (sum_by-cons (shown_of span) x ranks)) (omega (arith, rest))

-- the send of a message is found wherever it is shown
pub sent_by-found : (span : Span) (from rank n sent : ℕ) (ranks : List RankAccount) (sender : RankAccount) →
    shown_count span ranks ≤ 20000 → slice_get ranks from ≡ Some sender →
    Rise 0 (map (λ e. e.stamp) sender.history.events) →
    first_stamp span (Send rank n) sender.history.events ≡ Some sent →
    sent_by span rank n (slice_get ranks from) ≡ Some sent
sent_by-found span from rank n sent ranks sender few got rise found =
    let part = shown_part span ranks from sender got in
    ap (λ o. sent_by span rank n o) got
    ∙ since-first span 0 (Send rank n) sender.history.events 20000 rise (omega (arith, few, part))
    ∙ found
