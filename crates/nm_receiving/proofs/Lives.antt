-- Receives that did not end, and the first of them.
use Rattle.std.specs.Prelude.{IsSome}
use Rattle.std.proofs.Common.{◌≡◌, ℕ, ◌+◌, ◌<◌, ◌≤◌, ◌^◌, Bool, true, false, not, ◌&&◌, nat_lt, min}
use Rattle.std.proofs.Common.{Option, Some, None, List}
use Rattle.std.proofs.Common.{length, get_or, refl, sym, ◌∙◌, ap, subst, arith, ◌⊎◌, inl, inr}
use Rattle.std.specs.List.{slice_get}
use Rattle.std.specs.Option.{option_map_or}
use Rattle.std.proofs.Math.ListN.{set}
use Rattle.std.proofs.lemmas.Bool.{and_parts, cases_eq, cases_lt, false≢true, lt-ltb, ltb-true, true≢false}
use Rattle.std.proofs.lemmas.List.{get_or-set_other, get_or-set_same, length-set, set-get_or}
use Rattle.std.proofs.lemmas.List.Folds.{position_or_len-set}
use Rattle.std.proofs.lemmas.List.Sums.{fails_before_first, passes_at_first, prefix_len-le-length}
use Rattle.std.proofs.lemmas.Option.{get_or_from_slice_get, slice_get_within}
use Rattle.nm_kept.specs.Entering.{kept_if}
use Rattle.nm_kept.specs.Keeping.{IsHeld, Keeping}
use Rattle.nm_kept.proofs.EntryLemmas.{kept_passes, kept_there}
use Rattle.nm_receiving.specs.declared.receipts.Receive.{Receive}
use Rattle.nm_receiving.specs.Receives.{ReceivesInvariant, first_live, goes, has_ended_at, is_live, live_at}
use Rattle.nm_receiving.specs.Steps.{has_cancelled, with_cancelled}
use Rattle.nm_types.proofs.ListLemmas.{get_some}
use Rattle.nm_types.proofs.OptionLemmas.{some_of}

-- what did not end
pub not_ended : (b : Bool) → not b ≡ true → b ≡ false
not_ended true is = absurd (false≢true is)
not_ended false is = refl

-- a receive that did not end is there
pub live_there : (rs : List Receive) (k : ℕ) → IsSome (live_at rs k) →
    (r : Receive) × (slice_get rs k ≡ Some r) × (r.ended ≡ false)
live_there rs k some =
    let x = some_of (live_at rs k) some in
    let was = kept_passes is_live (slice_get rs k) x.0 x.1 in
    (x.0, was.0, not_ended x.0.ended was.1)

-- none stands before the first that did not end
first_before : (rs : List Receive) (k : ℕ) (r : Receive) → slice_get rs k ≡ Some r → r.ended ≡ false →
    first_live rs ≤ k
first_before rs k r here live = by (cases_lt k (first_live rs))
  where
    by : (k < first_live rs) ⊎ (first_live rs ≤ k) → first_live rs ≤ k
    by (inl less) = absurd (true≢false (sym (ap not live)
        ∙ ap is_live (sym (get_or_from_slice_get rs k r r here)) ∙ fails_before_first is_live rs k r less))
    by (inr most) = most

first_within : (rs : List Receive) → first_live rs ≤ length rs
first_within rs = prefix_len-le-length (λ x. not (is_live x)) rs

-- so each of them is in memory
pub live_held : (kept : Keeping Receive) → ReceivesInvariant kept → (k : ℕ) → IsSome (live_at kept.items k) →
    IsHeld kept k
live_held kept keeps k some =
    let there = live_there kept.items k some in
    record {
      behind = omega (arith, first_before kept.items k there.0 there.1 there.2, keeps.first);
      within = slice_get_within kept.items k there.0 there.1;
    }

-- and where none is in memory, there is none
pub none_live : (kept : Keeping Receive) → ReceivesInvariant kept → (k : ℕ) → (IsHeld kept k → ⊥) →
    live_at kept.items k ≡ None
none_live kept keeps k gone = by (live_at kept.items k) refl
  where
    by : (o : Option Receive) → live_at kept.items k ≡ o → live_at kept.items k ≡ None
    by None is = is
    by (Some r) is = absurd (gone (live_held kept keeps k (subst (λ (o : Option Receive). IsSome o) (sym is) refl)))

-- one that did not end for another
pub first_same : (rs : List Receive) (k : ℕ) (r : Receive) → IsSome (live_at rs k) → r.ended ≡ false →
    first_live (set rs k r) ≡ first_live rs
first_same rs k r some live =
    let there = live_there rs k some in
    position_or_len-set is_live rs k r there.0
    (ap not live ∙ sym (ap is_live (get_or_from_slice_get rs k there.0 there.0 there.1) ∙ ap not there.2))

-- where one more ends, the first is no earlier
pub first_later : (rs : List Receive) (k : ℕ) (r : Receive) → r.ended ≡ true →
    first_live rs ≤ first_live (set rs k r)
first_later rs k r ended = by (cases_lt (first_live rs') (first_live rs))
  where
    rs' : List Receive
    rs' = set rs k r

    by : (first_live rs' < first_live rs) ⊎ (first_live rs ≤ first_live rs') → first_live rs ≤ first_live rs'
    by (inr most) = most
    by (inl less) = absurd (at (cases_eq (first_live rs') k))
      where
        within : first_live rs' < length rs
        within = omega (arith, less, first_within rs)

        passes : is_live (get_or rs' (first_live rs') r) ≡ true
        passes = passes_at_first is_live rs' r (omega (arith, within, length-set rs k r))

        at : (first_live rs' ≡ k) ⊎ (first_live rs' ≡ k → ⊥) → ⊥
        at (inl same) = true≢false (sym passes ∙ ap (λ (j : ℕ). is_live (get_or rs' j r)) same
            ∙ ap is_live (get_or-set_same rs k r r (subst (λ (j : ℕ). j < length rs) same within)) ∙ ap not ended)
        at (inr other) = true≢false (sym passes ∙ ap is_live (get_or-set_other rs k (first_live rs') r r other)
            ∙ fails_before_first is_live rs (first_live rs') r less)

-- one that ended was cancelled before, or is not there
pub cancelled_before : (rs : List Receive) (k : ℕ) → live_at rs k ≡ None →
    (has_ended_at rs k ≡ true → option_map_or (λ r. r.cancelled) (slice_get rs k) false ≡ true) →
    rs ≡ with_cancelled rs k
cancelled_before rs k none before = by (slice_get rs k) refl none before
  where
    as_it_was : (r : Receive) → slice_get rs k ≡ Some r → r.cancelled ≡ true → rs ≡ set rs k (has_cancelled r)
    as_it_was r here cancelled =
        sym (ap (λ (x : Receive). set rs k x)
        (ap (λ (b : Bool). let x : Receive = record r { cancelled = b } in x) (sym cancelled)
        ∙ sym (get_or_from_slice_get rs k r r here))
        ∙ set-get_or rs k r)

    by : (o : Option Receive) → slice_get rs k ≡ o → kept_if is_live o ≡ None
        → (option_map_or (λ r. r.ended) o false ≡ true → option_map_or (λ r. r.cancelled) o false ≡ true)
        → rs ≡ option_map_or (λ r. set rs k (has_cancelled r)) o rs
    by None here none' before' = refl
    by (Some r) here none' before' = at r.ended refl
      where
        at : (b : Bool) → r.ended ≡ b → rs ≡ set rs k (has_cancelled r)
        at true ended = as_it_was r here (before' ended)
        at false live = absurd (let made = kept_there is_live (Some r) r refl (ap not live) in
            let h : ⊥ = cc in h)

-- where the first in memory is not let go, it is the first that did not end, or too many were let go
pub first_stays : (rs : List Receive) (k : ℕ) → k ≤ min (first_live rs) (2 ^ 62) → k < length rs →
    goes rs k ≡ false → k ≡ min (first_live rs) (2 ^ 62)
first_stays rs k low within stays = by r.0.ended refl
  where
    r : (r : Receive) × (slice_get rs k ≡ Some r)
    r = get_some rs k within

    ended_is : has_ended_at rs k ≡ r.0.ended
    ended_is = ap (λ (o : Option Receive). option_map_or (λ r. r.ended) o false) r.1

    by : (b : Bool) → r.0.ended ≡ b → k ≡ min (first_live rs) (2 ^ 62)
    by false live = omega (arith, low, first_before rs k r.0 r.1 live)
    by true ended = past (cases_lt k (2 ^ 62))
      where
        past : (k < 2 ^ 62) ⊎ (2 ^ 62 ≤ k) → k ≡ min (first_live rs) (2 ^ 62)
        past (inl less) = absurd (true≢false (sym (lt-ltb k (2 ^ 62) less)
            ∙ sym (ap (λ (b : Bool). b && nat_lt k (2 ^ 62)) (ended_is ∙ ended)) ∙ stays))
        past (inr most) = omega (arith, low, most)

-- where it is let go, the first that did not end stands behind it
pub first_gone : (rs : List Receive) (k : ℕ) → k ≤ min (first_live rs) (2 ^ 62) → k < length rs →
    goes rs k ≡ true → k + 1 ≤ min (first_live rs) (2 ^ 62)
first_gone rs k low within gone = by (cases_eq k (first_live rs))
  where
    both : (has_ended_at rs k ≡ true) × (nat_lt k (2 ^ 62) ≡ true)
    both = and_parts (has_ended_at rs k) (nat_lt k (2 ^ 62)) gone

    r : (r : Receive) × (slice_get rs k ≡ Some r)
    r = get_some rs k within

    by : (k ≡ first_live rs) ⊎ (k ≡ first_live rs → ⊥) → k + 1 ≤ min (first_live rs) (2 ^ 62)
    by (inr other) = omega (arith, low, other, ltb-true k (2 ^ 62) both.1)
    by (inl same) = absurd (true≢false
        (sym (passes_at_first is_live rs r.0 (subst (λ (j : ℕ). j < length rs) same within))
        ∙ ap (λ (j : ℕ). is_live (get_or rs j r.0)) (sym same)
        ∙ ap is_live (get_or_from_slice_get rs k r.0 r.0 r.1)
        ∙ ap not (sym (ap (λ (o : Option Receive). option_map_or (λ r. r.ended) o false) r.1) ∙ both.0)))

-- where all were let go, none is left that did not end
pub first_none : (rs : List Receive) (k : ℕ) → k ≤ min (first_live rs) (2 ^ 62) → length rs ≤ k →
    k ≡ min (first_live rs) (2 ^ 62)
first_none rs k low past = omega (arith, low, past, first_within rs)
