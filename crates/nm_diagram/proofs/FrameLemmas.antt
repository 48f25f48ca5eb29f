-- What a frame shows.
use Rattle.std.proofs.Common.{◌≡◌, ℕ, ◌+◌, ◌-◌, ◌≤◌, ◌<◌, ◌⊎◌, inl, inr, zero, suc, List, [], ◌∷◌, Bool, true, false}
use Rattle.std.proofs.Common.{cond, ◌&&◌, refl, sym, ap, ◌∙◌, arith, count_by, drop, min, sum_by, nat_le, nat_lt, ◌^◌}
use Rattle.std.specs.List.{AllByRecursion}
use Rattle.std.proofs.lemmas.Bool.{and_parts, le-leb, leb-true, lt-ltb, ltb-true, ltb-false}
use Rattle.std.proofs.lemmas.List.Sums.{sum_by-cons}
use Rattle.nm_history.specs.declared.events.Event.{Event}
use Rattle.nm_report.specs.declared.accounts.RankAccount.{RankAccount}
use Rattle.nm_diagram.specs.declared.frames.Frame.{Frame}
use Rattle.nm_diagram.specs.declared.frames.Part.{Part}
use Rattle.nm_diagram.specs.declared.frames.Span.{Span}
use Rattle.nm_diagram.specs.Frames.{IsFrame, IsIn, IsSilent, is_shown, later_count, latest_of_all, shown_count, shown_of}
use Rattle.nm_diagram.specs.Frames.{up_to}

-- an event is shown exactly where its stamp is
pub shown-in : (span : Span) (e : Event) → is_shown span e ≡ true → IsIn span e.stamp
shown-in span e is =
    let parts = and_parts (nat_le span.first e.stamp) (nat_lt e.stamp span.end) is in
    (leb-true span.first e.stamp parts.0, ltb-true e.stamp span.end parts.1)

pub in-shown : (span : Span) (e : Event) → IsIn span e.stamp → is_shown span e ≡ true
in-shown span e at =
    ap (λ b. b && nat_lt e.stamp span.end) (le-leb span.first e.stamp at.0) ∙ lt-ltb e.stamp span.end at.1

-- and where it is not, though it is no earlier one, it is a later one
pub hidden-later : (span : Span) (e : Event) → span.first ≤ e.stamp → is_shown span e ≡ false → span.end ≤ e.stamp
hidden-later span e since is =
    ltb-false e.stamp span.end
    (sym (ap (λ b. b && nat_lt e.stamp span.end) (le-leb span.first e.stamp since)) ∙ is)

-- no event is shown where no stamp is
pub never_both : (b : Bool) → (b && false) ≡ false
never_both true = refl
never_both false = refl

not_below : (n : ℕ) → nat_lt n 0 ≡ false
not_below n = grind arith

abbrev below : ℕ → ℕ → Span
below first end = record { first = first; end = end }

none_shown : (first : ℕ) (events : List Event) → count_by (is_shown (below first 0)) events ≡ 0
none_shown first [] = refl
none_shown first (event ∷ events) =
    sum_by-cons (λ e. cond (is_shown (below first 0) e) 1 0) event events
    ∙ ap (λ n. cond (is_shown (below first 0) event) 1 0 + n) (none_shown first events)
    ∙ ap (λ b. cond (nat_le first event.stamp && b) 1 0 + 0) (not_below event.stamp)
    ∙ ap (λ b. cond b 1 0 + 0) (never_both (nat_le first event.stamp))

pub none_shown_at_all : (first : ℕ) (ranks : List RankAccount) → shown_count (below first 0) ranks ≡ 0
none_shown_at_all first [] = refl
none_shown_at_all first (account ∷ accounts) =
    sum_by-cons (shown_of (below first 0)) account accounts
    ∙ ap (λ n. shown_of (below first 0) account + n) (none_shown_at_all first accounts)
    ∙ ap (λ n. n + 0) (none_shown first account.history.events)

-- below a later stamp no fewer are shown
one_later : (stamp a b : ℕ) (x y : Bool) → a ≤ b → nat_lt stamp a ≡ x → nat_lt stamp b ≡ y → cond x 1 0 ≤ cond y 1 0
one_later stamp a b false y h is_x is_y = omega arith
one_later stamp a b true true h is_x is_y = omega arith
one_later stamp a b true false h is_x is_y =
    let below = ltb-true stamp a is_x in
    let above = ltb-false stamp b is_y in
    absurd (omega (arith, h, below, above))

one_since : (since x y : Bool) → cond x 1 0 ≤ cond y 1 0 → cond (since && x) 1 0 ≤ cond (since && y) 1 0
one_since true x y h = h
one_since false x y h = omega arith

count-later : (first a b : ℕ) (events : List Event) → a ≤ b →
    count_by (is_shown (below first a)) events ≤ count_by (is_shown (below first b)) events
count-later first a b [] h = omega arith
count-later first a b (e ∷ events) h =
    let head = one_since (nat_le first e.stamp) (nat_lt e.stamp a) (nat_lt e.stamp b)
    (one_later e.stamp a b (nat_lt e.stamp a) (nat_lt e.stamp b) h refl refl) in
    let others = count-later first a b events h in
    let here = sum_by-cons (λ e. cond (is_shown (below first a) e) 1 0) e events in
    let there = sum_by-cons (λ e. cond (is_shown (below first b) e) 1 0) e events in
    omega (arith, head, others, here, there)

shown-later : (first a b : ℕ) (ranks : List RankAccount) → a ≤ b →
    shown_count (below first a) ranks ≤ shown_count (below first b) ranks
shown-later first a b [] h = omega arith
shown-later first a b (account ∷ accounts) h =
    let head = count-later first a b account.history.events h in
    let others = shown-later first a b accounts h in
    let here = sum_by-cons (shown_of (below first a)) account accounts in
    let there = sum_by-cons (shown_of (below first b)) account accounts in
    omega (arith, head, others, here, there)

-- so a frame has one end
abbrev IsMost : Part → List RankAccount → Frame → Type 0
IsMost part ranks f =
    (f.span.end ≡ part.span.end)
    ⊎ ((f.span.end < part.span.end) × (20000 < shown_count (up_to part.span (f.span.end + 1)) ranks))

end_within : (part : Part) (ranks : List RankAccount) (f : Frame) → IsFrame part ranks f → f.span.end ≤ part.span.end
end_within part ranks f is = by_case is.most where
  by_case : IsMost part ranks f → f.span.end ≤ part.span.end
  by_case (inl same) = omega (arith, same)
  by_case (inr most) = let low = most.0 in omega (arith, low)

no_less : (part : Part) (ranks : List RankAccount) (f g : Frame) → IsFrame part ranks f → IsFrame part ranks g →
    f.span.end < g.span.end → ⊥
no_less part ranks f g is other less = by_case is.most where
  by_case : IsMost part ranks f → ⊥
  by_case (inl same) = let within = end_within part ranks g other in omega (arith, same, within, less)
  by_case (inr most) =
      let beyond = most.1 in
      let few = other.few in
      let later = shown-later part.span.first (f.span.end + 1) g.span.end ranks (omega (arith, less)) in
      omega (arith, beyond, few, later)

-- where neither is less, both are the same
same_by : (a b : ℕ) → (a < b → ⊥) → (b < a → ⊥) → a ≡ b
same_by a b less more = by_tests (nat_lt a b) (nat_lt b a) refl refl where
  by_tests : (x y : Bool) → nat_lt a b ≡ x → nat_lt b a ≡ y → a ≡ b
  by_tests true y is_x is_y = absurd (less (ltb-true a b is_x))
  by_tests false true is_x is_y = absurd (more (ltb-true b a is_y))
  by_tests false false is_x is_y =
      let h = ltb-false a b is_x in
      let k = ltb-false b a is_y in
      omega (arith, h, k)

-- and as many lanes as speak
drop-later : (a b : ℕ) (ranks : List RankAccount) → a ≤ b → AllByRecursion IsSilent (drop a ranks) →
    AllByRecursion IsSilent (drop b ranks)
drop-later zero zero ranks h silent = silent
drop-later zero (suc b) [] h silent = tt
drop-later zero (suc b) (x ∷ ranks) h silent = drop-later zero b ranks (omega arith) silent.1
drop-later (suc a) zero ranks h silent = absurd (omega (arith, h))
drop-later (suc a) (suc b) [] h silent = tt
drop-later (suc a) (suc b) (x ∷ ranks) h silent = drop-later a b ranks (omega (arith, h)) silent

no_fewer : (part : Part) (ranks : List RankAccount) (f g : Frame) → IsFrame part ranks f → IsFrame part ranks g →
    f.lanes < g.lanes → ⊥
no_fewer part ranks f g is other less =
    let asked = is.asked in
    other.spoken (omega (arith, less, asked)) (drop-later f.lanes (g.lanes - 1) ranks (omega (arith, less)) is.beyond)

abbrev frame_of : ℕ → List Bool → ℕ → ℕ → ℕ → ℕ → List Bool → Frame
frame_of lanes chosen first end bottom left_out full =
    record {
      lanes = lanes;
      chosen = chosen;
      span = record { first = first; end = end };
      bottom = bottom;
      left_out = left_out;
      full = full;
    }

same_frame : (f g : Frame) → f.lanes ≡ g.lanes → f.chosen ≡ g.chosen → f.span.first ≡ g.span.first →
    f.span.end ≡ g.span.end → f.bottom ≡ g.bottom → f.left_out ≡ g.left_out → f.full ≡ g.full → f ≡ g
same_frame f g lanes chosen firsts ends bottoms left rows =
    ap (λ l. frame_of l f.chosen f.span.first f.span.end f.bottom f.left_out f.full) lanes
    ∙ ap (λ c. frame_of g.lanes c f.span.first f.span.end f.bottom f.left_out f.full) chosen
    ∙ ap (λ s. frame_of g.lanes g.chosen s f.span.end f.bottom f.left_out f.full) firsts
    ∙ ap (λ e. frame_of g.lanes g.chosen g.span.first e f.bottom f.left_out f.full) ends
    ∙ ap (λ b. frame_of g.lanes g.chosen g.span.first g.span.end b f.left_out f.full) bottoms
    ∙ ap (λ o. frame_of g.lanes g.chosen g.span.first g.span.end g.bottom o f.full) left
    ∙ ap (λ r. frame_of g.lanes g.chosen g.span.first g.span.end g.bottom g.left_out r) rows

pub frame-same : (part : Part) (ranks : List RankAccount) (f g : Frame) → IsFrame part ranks f →
    IsFrame part ranks g → f ≡ g
frame-same part ranks f g is other =
    let lanes = same_by f.lanes g.lanes (no_fewer part ranks f g is other) (no_fewer part ranks g f other is) in
    let ends = same_by f.span.end g.span.end (no_less part ranks f g is other) (no_less part ranks g f other is) in
    let bottoms = is.bottom ∙ ap (λ e. latest_of_all (up_to part.span e) part.span.first ranks) ends
    ∙ sym other.bottom in
    let left = is.left_out ∙ ap (λ e. min (sum_by (later_count e) ranks) (2 ^ 64 - 1)) ends ∙ sym other.left_out in
    same_frame f g lanes (is.chosen ∙ sym other.chosen) (is.first ∙ sym other.first) ends bottoms left
    (is.full ∙ sym other.full)
