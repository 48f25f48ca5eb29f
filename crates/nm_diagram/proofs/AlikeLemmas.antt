-- Ranks that are alike have the same shapes.
use Rattle.std.proofs.Common.{◌≡◌, ℕ, ◌+◌, ◌-◌, ◌≤◌, ◌<◌, ◌⊎◌, zero, suc, List, [], ◌∷◌, ◌++◌, Bool, true, false}
use Rattle.std.proofs.Common.{◌&&◌, ◌||◌}
use Rattle.std.proofs.Common.{cond, refl, sym, ap, ◌∙◌, subst, arith, count_by, drop, flat_map, get_or, length, min}
use Rattle.std.proofs.Common.{replicate, sum_by, take, Option, None, nat_lt, ◌^◌}
use Rattle.std.specs.List.{AllByRecursion, filter, list_any, slice_get}
use Rattle.std.specs.Option.{is_some}
use Rattle.std.proofs.lemmas.Bool.{ltb-true, ltb-false}
use Rattle.std.proofs.lemmas.List.Sums.{sum_by-cons}
use Rattle.nm_history.specs.declared.events.Event.{Event}
use Rattle.nm_history.specs.declared.events.Happened.{Happened}
use Rattle.nm_history.specs.declared.events.Happened.TheVariants.{Arrive, Undone, Withdraw}
use Rattle.nm_history.specs.Matching.{matched_pairs}
use Rattle.nm_report.specs.declared.accounts.RankAccount.{RankAccount}
use Rattle.nm_diagram.specs.declared.frames.Span.{Span}
use Rattle.nm_diagram.specs.declared.anchors.Anchor.{Anchor}
use Rattle.nm_diagram.specs.declared.anchors.Anchor.TheVariants as anchor
use Rattle.nm_diagram.specs.declared.arrows.Arrow.{Arrow}
use Rattle.nm_diagram.specs.declared.frames.Frame.{Frame}
use Rattle.nm_diagram.specs.declared.frames.Part.{Part}
use Rattle.nm_diagram.specs.Alike.{AreAlike}
use Rattle.nm_diagram.specs.Anchors.{first_stamp, found_by, since}
use Rattle.nm_diagram.specs.Diagrams.{Lane, all_arrows, all_marks, arrow_from, arrow_of, arrows_at}
use Rattle.nm_diagram.specs.Diagrams.{arrows_of, from_lane, lanes_at, marks_at, sent_by}
use Rattle.nm_diagram.specs.Frames.{IsFrame, IsSilent, full_rows, is_later, is_shown, latest, latest_of_all}
use Rattle.nm_diagram.specs.Frames.{shown_count, up_to, with_rows}
use Rattle.nm_diagram.specs.Links.{all_links, links_among}
use Rattle.nm_diagram.specs.declared.signs.Sign.{Sign}
use Rattle.nm_diagram.specs.declared.returns.Return.{Return}
use Rattle.nm_diagram.specs.Labels.{all_labels, labels_at}
use Rattle.nm_diagram.specs.declared.rings.Ring.{Ring}
use Rattle.nm_diagram.specs.Left.{all_rings, are_few, has_left, rings_among, some_left}
use Rattle.nm_diagram.specs.Legend.{has_sign, is_told, is_used, legend_of}
use Rattle.nm_diagram.specs.Returns.{all_returns, return_from, return_of, returns_at, returns_of}
use Rattle.nm_diagram.specs.Signs.{all_signs, is_of_left, is_waits}

-- being alike goes both ways
alike-sym : (xs ys : List RankAccount) → AreAlike xs ys → AreAlike ys xs
alike-sym [] [] h = tt
alike-sym [] (y ∷ ys) h = h
alike-sym (x ∷ xs) [] h = h
alike-sym (x ∷ xs) (y ∷ ys) h = (sym h.0, sym h.1, alike-sym xs ys h.2)

-- what ranks have by their events is the same, where no event has nothing
silent_has : {X : Type 0} (g : ℕ → List Event → List X) → ((rank : ℕ) → g rank [] ≡ []) → (rank : ℕ)
    (ys : List RankAccount) → AllByRecursion IsSilent ys →
    from_lane (λ rank account. g rank account.history.events) rank ys ≡ []
silent_has g none rank [] h = refl
silent_has g none rank (y ∷ ys) h =
    ap (λ l. g rank l ++ from_lane (λ rank account. g rank account.history.events) (rank + 1) ys) h.0.0
    ∙ ap (λ l. l ++ from_lane (λ rank account. g rank account.history.events) (rank + 1) ys) (none rank)
    ∙ silent_has g none (rank + 1) ys h.1

alike_have : {X : Type 0} (g : ℕ → List Event → List X) → ((rank : ℕ) → g rank [] ≡ []) → (rank : ℕ)
    (xs ys : List RankAccount) → AreAlike xs ys →
    from_lane (λ rank account. g rank account.history.events) rank xs
    ≡ from_lane (λ rank account. g rank account.history.events) rank ys
alike_have g none rank [] ys h = sym (silent_has g none rank ys h)
alike_have g none rank (x ∷ xs) [] h = silent_has g none rank (x ∷ xs) h
alike_have g none rank (x ∷ xs) (y ∷ ys) h =
    ap (λ l. g rank l ++ from_lane (λ rank account. g rank account.history.events) (rank + 1) xs) h.0
    ∙ ap (λ l. g rank y.history.events ++ l) (alike_have g none (rank + 1) xs ys h.2)

-- and so are sums
silent_sum : (g : List Event → ℕ) → g [] ≡ 0 → (ys : List RankAccount) → AllByRecursion IsSilent ys →
    sum_by (λ account. g account.history.events) ys ≡ 0
silent_sum g none [] h = refl
silent_sum g none (y ∷ ys) h =
    sum_by-cons (λ account. g account.history.events) y ys
    ∙ ap (λ n. g y.history.events + n) (silent_sum g none ys h.1)
    ∙ ap (λ l. g l + 0) h.0.0
    ∙ ap (λ n. n + 0) none

alike_sum : (g : List Event → ℕ) → g [] ≡ 0 → (xs ys : List RankAccount) → AreAlike xs ys →
    sum_by (λ account. g account.history.events) xs ≡ sum_by (λ account. g account.history.events) ys
alike_sum g none [] ys h = sym (silent_sum g none ys h)
alike_sum g none (x ∷ xs) [] h = silent_sum g none (x ∷ xs) h
alike_sum g none (x ∷ xs) (y ∷ ys) h =
    sum_by-cons (λ account. g account.history.events) x xs
    ∙ ap (λ n. g x.history.events + n) (alike_sum g none xs ys h.2)
    ∙ ap (λ l. g l + sum_by (λ account. g account.history.events) ys) h.0
    ∙ sym (sum_by-cons (λ account. g account.history.events) y ys)

silent_latest : (span : Span) (found : ℕ) (ys : List RankAccount) → AllByRecursion IsSilent ys →
    latest_of_all span found ys ≡ found
silent_latest span found [] h = refl
silent_latest span found (y ∷ ys) h =
    ap (λ l. latest_of_all span (latest span found l) ys) h.0.0 ∙ silent_latest span found ys h.1

alike_latest : (span : Span) (found : ℕ) (xs ys : List RankAccount) → AreAlike xs ys →
    latest_of_all span found xs ≡ latest_of_all span found ys
alike_latest span found [] ys h = sym (silent_latest span found ys h)
alike_latest span found (x ∷ xs) [] h = silent_latest span found (x ∷ xs) h
alike_latest span found (x ∷ xs) (y ∷ ys) h =
    ap (λ l. latest_of_all span (latest span found l) xs) h.0 ∙ alike_latest span (latest span found y.history.events)
    xs
    ys h.2

-- and the rows that are full
silent_rows : (top : ℕ) (rows : List Bool) (ys : List RankAccount) → AllByRecursion IsSilent ys →
    full_rows top rows ys ≡ rows
silent_rows top rows [] h = refl
silent_rows top rows (y ∷ ys) h =
    ap (λ l. full_rows top (with_rows top rows l) ys) h.0.0 ∙ silent_rows top rows ys h.1

alike_rows : (top : ℕ) (rows : List Bool) (xs ys : List RankAccount) → AreAlike xs ys →
    full_rows top rows xs ≡ full_rows top rows ys
alike_rows top rows [] ys h = sym (silent_rows top rows ys h)
alike_rows top rows (x ∷ xs) [] h = silent_rows top rows (x ∷ xs) h
alike_rows top rows (x ∷ xs) (y ∷ ys) h =
    ap (λ l. full_rows top (with_rows top rows l) xs) h.0
    ∙ alike_rows top (with_rows top rows y.history.events) xs ys h.2

-- the send of a message is found in either
silent_sent : (span : Span) (rank n i : ℕ) (ys : List RankAccount) → AllByRecursion IsSilent ys →
    sent_by span rank n (slice_get ys i) ≡ None
silent_sent span rank n i [] h = refl
silent_sent span rank n zero (y ∷ ys) h =
    ap (λ l. first_stamp span (anchor.Send rank n) (take 20000 (since span.first l))) h.0.0
silent_sent span rank n (suc i) (y ∷ ys) h = silent_sent span rank n i ys h.1

alike_sent : (span : Span) (rank n i : ℕ) (xs ys : List RankAccount) → AreAlike xs ys →
    sent_by span rank n (slice_get xs i) ≡ sent_by span rank n (slice_get ys i)
alike_sent span rank n i [] ys h = sym (silent_sent span rank n i ys h)
alike_sent span rank n i (x ∷ xs) [] h = silent_sent span rank n i (x ∷ xs) h
alike_sent span rank n zero (x ∷ xs) (y ∷ ys) h =
    ap (λ l. first_stamp span (anchor.Send rank n) (take 20000 (since span.first l))) h.0
alike_sent span rank n (suc i) (x ∷ xs) (y ∷ ys) h = alike_sent span rank n i xs ys h.2

alike_arrow : (span : Span) (rank stamp : ℕ) (w : Happened) (xs ys : List RankAccount) → AreAlike xs ys →
    arrow_of span xs rank stamp w ≡ arrow_of span ys rank stamp w
alike_arrow span rank stamp (Arrive a) xs ys h =
    ap (λ o. arrow_from a.env.from rank stamp a.n a.env.how o) (alike_sent span rank a.n a.env.from xs ys h)
alike_arrow span rank stamp _ xs ys h = refl

same_map : {X : Type 0} (f g : Event → List X) → ((e : Event) → f e ≡ g e) →
    (events : List Event) → flat_map f events ≡ flat_map g events
same_map f g same [] = refl
same_map f g same (e ∷ events) = ap (λ l. l ++ flat_map f events) (same e)
    ∙ ap (λ l. g e ++ l) (same_map f g same events)

alike_arrows : (span : Span) (rank : ℕ) (xs ys : List RankAccount) → AreAlike xs ys →
    (first : ℕ) (zs : List RankAccount) →
    from_lane (arrows_of span xs) first zs ≡ from_lane (arrows_of span ys) first zs
alike_arrows span rank xs ys h first [] = refl
alike_arrows span rank xs ys h first (z ∷ zs) =
    ap (λ l. l ++ from_lane (arrows_of span xs) (first + 1) zs)
    (same_map (arrows_at span xs first) (arrows_at span ys first)
    (λ e. ap (λ (l : List Arrow). cond (is_shown span e) l []) (alike_arrow span first e.stamp e.what xs ys h))
    z.history.events)
    ∙ ap (λ l. arrows_of span ys first z ++ l) (alike_arrows span rank xs ys h (first + 1) zs)

-- and so are the ways of withdrawals
silent_found : (span : Span) (i : ℕ) (what : Anchor) (ys : List RankAccount) → AllByRecursion IsSilent ys →
    found_by span what (slice_get ys i) ≡ None
silent_found span i what [] h = refl
silent_found span zero what (y ∷ ys) h = ap (λ l. first_stamp span what (take 20000 (since span.first l))) h.0.0
silent_found span (suc i) what (y ∷ ys) h = silent_found span i what ys h.1

alike_found : (span : Span) (i : ℕ) (what : Anchor) (xs ys : List RankAccount) → AreAlike xs ys →
    found_by span what (slice_get xs i) ≡ found_by span what (slice_get ys i)
alike_found span i what [] ys h = sym (silent_found span i what ys h)
alike_found span i what (x ∷ xs) [] h = silent_found span i what (x ∷ xs) h
alike_found span zero what (x ∷ xs) (y ∷ ys) h = ap (λ l. first_stamp span what (take 20000 (since span.first l))) h.0
alike_found span (suc i) what (x ∷ xs) (y ∷ ys) h = alike_found span i what xs ys h.2

alike_return : (span : Span) (rank stamp : ℕ) (w : Happened) (xs ys : List RankAccount) → AreAlike xs ys →
    return_of span xs rank stamp w ≡ return_of span ys rank stamp w
alike_return span rank stamp (Withdraw from n done) xs ys h =
    ap (λ o. return_from from rank stamp n o) (alike_found span from (anchor.Recall rank n) xs ys h)
alike_return span rank stamp (Undone to n done) xs ys h =
    ap (λ o. return_from to rank stamp n o) (alike_found span to (anchor.Withdraw rank n) xs ys h)
alike_return span rank stamp _ xs ys h = refl

alike_returns : (span : Span) (xs ys : List RankAccount) → AreAlike xs ys → (first : ℕ) (zs : List RankAccount) →
    from_lane (returns_of span xs) first zs ≡ from_lane (returns_of span ys) first zs
alike_returns span xs ys h first [] = refl
alike_returns span xs ys h first (z ∷ zs) =
    ap (λ l. l ++ from_lane (returns_of span xs) (first + 1) zs)
    (same_map (returns_at span xs first) (returns_at span ys first)
    (λ e. ap (λ (l : List Return). cond (is_shown span e) l []) (alike_return span first e.stamp e.what xs ys h))
    z.history.events)
    ∙ ap (λ l. returns_of span ys first z ++ l) (alike_returns span xs ys h (first + 1) zs)

-- the lanes of the first ones, where both are as many
abbrev lane_by : ℕ → Option ℕ → List Lane
lane_by rank waits = record { rank = rank; waits = waits } ∷ []

pub alike_lanes : (chosen : List Bool) (k rank : ℕ) (xs ys : List RankAccount) → k ≤ length xs → k ≤ length ys →
    AreAlike xs ys → from_lane (lanes_at chosen) rank (take k xs) ≡ from_lane (lanes_at chosen) rank (take k ys)
alike_lanes chosen zero rank xs ys m n h = refl
alike_lanes chosen (suc k) rank [] ys m n h = absurd (omega (arith, m))
alike_lanes chosen (suc k) rank (x ∷ xs) [] m n h = absurd (omega (arith, n))
alike_lanes chosen (suc k) rank (x ∷ xs) (y ∷ ys) m n h =
    ap (λ w. cond (get_or chosen rank false) (lane_by rank w) []
    ++ from_lane (lanes_at chosen) (rank + 1) (take k xs)) h.1
    ∙ ap (λ l. lanes_at chosen rank y ++ l)
    (alike_lanes chosen k (rank + 1) xs ys (omega (arith, m)) (omega (arith, n)) h.2)

-- what is silent in one is in the other
alike_silent : (xs ys : List RankAccount) → AreAlike xs ys → AllByRecursion IsSilent xs → AllByRecursion IsSilent ys
alike_silent [] ys h silent = h
alike_silent (x ∷ xs) [] h silent = tt
alike_silent (x ∷ xs) (y ∷ ys) h silent =
    ((sym h.0 ∙ silent.0.0, sym h.1 ∙ silent.0.1), alike_silent xs ys h.2 silent.1)

silent_drop : (k : ℕ) (xs : List RankAccount) → AllByRecursion IsSilent xs → AllByRecursion IsSilent (drop k xs)
silent_drop zero xs h = h
silent_drop (suc k) [] h = tt
silent_drop (suc k) (x ∷ xs) h = silent_drop k xs h.1

alike_drop : (k : ℕ) (xs ys : List RankAccount) → AreAlike xs ys → AllByRecursion IsSilent (drop k xs) →
    AllByRecursion IsSilent (drop k ys)
alike_drop zero xs ys h silent = alike_silent xs ys h silent
alike_drop (suc k) [] ys h silent = silent_drop (suc k) ys h
alike_drop (suc k) (x ∷ xs) [] h silent = tt
alike_drop (suc k) (x ∷ xs) (y ∷ ys) h silent = alike_drop k xs ys h.2 silent

-- behind the end of one the other is silent
behind_end : (k : ℕ) (xs ys : List RankAccount) → AreAlike xs ys → length ys ≤ k → AllByRecursion IsSilent (drop k xs)
behind_end k xs [] h short = silent_drop k xs (alike_silent [] xs (alike-sym xs [] h) tt)
behind_end zero xs (y ∷ ys) h short = absurd (omega (arith, short))
behind_end (suc k) [] (y ∷ ys) h short = tt
behind_end (suc k) (x ∷ xs) (y ∷ ys) h short = behind_end k xs ys h.2 (omega (arith, short))

fits_too : (n m : ℕ) → (m < n → ⊥) → n ≤ m
fits_too n m never = by_test (nat_lt m n) refl where
  by_test : (b : Bool) → nat_lt m n ≡ b → n ≤ m
  by_test true is = absurd (never (ltb-true m n is))
  by_test false is = ltb-false m n is

pub alike-frame : (part : Part) (xs ys : List RankAccount) (frame : Frame) → part.lanes ≤ length ys → AreAlike xs ys →
    IsFrame part xs frame → IsFrame part ys frame
alike-frame part xs ys frame room h is =
    let end = frame.span.end in
    let counts : (span : Span) → shown_count span xs ≡ shown_count span ys = λ span. alike_sum
    (λ events. count_by (is_shown span) events) refl xs ys h in
    record {
      lanes = fits_too frame.lanes (length ys) (λ (more : length ys < frame.lanes).
          is.spoken (omega (arith, more, room)) (behind_end (frame.lanes - 1) xs ys h (omega (arith, more))));
      asked = is.asked;
      beyond = alike_drop frame.lanes xs ys h is.beyond;
      spoken = λ some silent. is.spoken some (alike_drop (frame.lanes - 1) ys xs (alike-sym xs ys h) silent);
      chosen = is.chosen;
      first = is.first;
      few = subst (λ n. n ≤ 20000) (counts (up_to part.span end)) is.few;
      most = subst (λ n. (end ≡ part.span.end) ⊎ ((end < part.span.end) × (20000 < n)))
          (counts (up_to part.span (end + 1)))
          is.most;
      bottom = is.bottom ∙ alike_latest (up_to part.span end) part.span.first xs ys h;
      left_out = is.left_out ∙ ap (λ n. min n (2 ^ 64 - 1))
          (alike_sum (λ events. count_by (is_later end) events) refl xs ys h);
      full = is.full ∙ alike_rows (part.span.first - 1) (replicate 1024 false) xs ys h;
    }

links_none : (span : Span) (rank : ℕ) → links_among span rank (take 4096 []) ≡ []
unfolding matched_pairs
links_none span rank = refl

-- a sign stands in both or in none
silent_any : (test : RankAccount → Bool) → ((x : RankAccount) → IsSilent x → test x ≡ false) →
    (ys : List RankAccount) → AllByRecursion IsSilent ys → list_any test ys ≡ false
silent_any test none [] h = refl
silent_any test none (y ∷ ys) h =
    ap (λ b. b || list_any test ys) (none y h.0) ∙ silent_any test none ys h.1

alike_any : (test : RankAccount → Bool) → ((x : RankAccount) → IsSilent x → test x ≡ false) →
    ((x y : RankAccount) → x.history.events ≡ y.history.events → x.waits ≡ y.waits → test x ≡ test y) →
    (xs ys : List RankAccount) → AreAlike xs ys → list_any test xs ≡ list_any test ys
alike_any test none same [] ys h = sym (silent_any test none ys h)
alike_any test none same (x ∷ xs) [] h = silent_any test none (x ∷ xs) h
alike_any test none same (x ∷ xs) (y ∷ ys) h =
    ap (λ b. b || list_any test xs) (same x y h.0 h.1)
    ∙ ap (λ b. test y || b) (alike_any test none same xs ys h.2)

never_both : (b : Bool) → (b && false || false) ≡ false
never_both true = refl
never_both false = refl

alike_used : (span : Span) (s : Sign) (xs ys : List RankAccount) → AreAlike xs ys →
    is_used span xs s ≡ is_used span ys s
alike_used span s xs ys h =
    ap (λ b. is_of_left s && b || list_any (has_sign span s) xs) (alike_any (has_left span) no_left same_left xs ys h)
    ∙ ap (λ b. is_of_left s && list_any (has_left span) ys || b) (alike_any (has_sign span s) none same xs ys h) where
      left : List Event → Bool
      left events = cond (are_few events) (some_left span events) false

      no_left : (x : RankAccount) → IsSilent x → has_left span x ≡ false
      no_left x h = ap left h.0

      same_left : (x y : RankAccount) → x.history.events ≡ y.history.events → x.waits ≡ y.waits →
          has_left span x ≡ has_left span y
      same_left x y events waits = ap left events

      by : List Event → Option ℕ → Bool
      by events waits = is_waits s && is_some waits || list_any (is_told span s) events

      none : (x : RankAccount) → IsSilent x → has_sign span s x ≡ false
      none x h = ap (λ l. by l x.waits) h.0 ∙ ap (λ w. by [] w) h.1 ∙ never_both (is_waits s)

      same : (x y : RankAccount) → x.history.events ≡ y.history.events → x.waits ≡ y.waits →
          has_sign span s x ≡ has_sign span s y
      same x y events waits = ap (λ l. by l x.waits) events ∙ ap (λ w. by y.history.events w) waits

same_filter : (f g : Sign → Bool) → ((s : Sign) → f s ≡ g s) → (signs : List Sign) → filter f signs ≡ filter g signs
same_filter f g same [] = refl
same_filter f g same (s ∷ signs) =
    ap (λ b. cond b (s ∷ filter f signs) (filter f signs)) (same s)
    ∙ ap (λ l. cond (g s) (s ∷ l) l) (same_filter f g same signs)

-- so the lists of their shapes are the same
pub legend-alike : (span : Span) (xs ys : List RankAccount) → AreAlike xs ys → legend_of span xs ≡ legend_of span ys
legend-alike span xs ys h = same_filter (is_used span xs) (is_used span ys) (λ s. alike_used span s xs ys h) all_signs

pub labels-alike : (span : Span) (xs ys : List RankAccount) → AreAlike xs ys → all_labels span xs ≡ all_labels span ys
labels-alike span xs ys h =
    alike_have (λ rank events. flat_map (labels_at span rank) events) (λ rank. refl) 0 xs ys h

pub links-alike : (span : Span) (xs ys : List RankAccount) → AreAlike xs ys → all_links span xs ≡ all_links span ys
links-alike span xs ys h =
    alike_have (λ rank events. links_among span rank (take 4096 events)) (links_none span) 0 xs ys h

pub marks-alike : (span : Span) (xs ys : List RankAccount) → AreAlike xs ys → all_marks span xs ≡ all_marks span ys
marks-alike span xs ys h = alike_have (λ rank events. flat_map (marks_at span rank) events) (λ rank. refl) 0 xs ys h

pub rings-alike : (span : Span) (xs ys : List RankAccount) → AreAlike xs ys → all_rings span xs ≡ all_rings span ys
rings-alike span xs ys h = alike_have rings (λ rank. refl) 0 xs ys h where
  rings : ℕ → List Event → List Ring
  rings rank events = cond (are_few events) (rings_among span rank events) []

pub arrows-alike : (span : Span) (xs ys : List RankAccount) → AreAlike xs ys → all_arrows span xs ≡ all_arrows span ys
arrows-alike span xs ys h =
    alike_arrows span 0 xs ys h 0 xs
    ∙ alike_have (λ rank events. flat_map (arrows_at span ys rank) events) (λ rank. refl) 0 xs ys h

pub returns-alike : (span : Span) (xs ys : List RankAccount) → AreAlike xs ys →
    all_returns span xs ≡ all_returns span ys
returns-alike span xs ys h =
    alike_returns span xs ys h 0 xs
    ∙ alike_have (λ rank events. flat_map (returns_at span ys rank) events) (λ rank. refl) 0 xs ys h
