-- How many messages at the front have left, or never will.
use Rattle.std.proofs.Common.{◌≡◌, ℕ, zero, suc, ◌+◌, ◌<◌, ◌≤◌, Bool, true, false, not, ◌&&◌, ◌||◌, cond, List, []}
use Rattle.std.proofs.Common.{◌∷◌, ◌++◌, length, nat_eq, Option, Some, None, refl, sym, ap, subst, ◌∙◌, arith}
use Rattle.std.proofs.Common.{true≢false, get_or}
use Rattle.std.specs.List.{slice_get}
use Rattle.std.specs.Map.{lookup}
use Rattle.std.proofs.Math.ListN.{set}
use Rattle.std.proofs.lemmas.List.Sums.{prefix_len-le-length, prefix_len_passes, prefix_len_stops}
use Rattle.std.proofs.lemmas.Option.{get_or_from_slice_get, slice_get_within}
use Rattle.nm_types.proofs.TruthLemmas.{and_right}
use Rattle.nm_types.specs.declared.messages.How.{How}
use Rattle.nm_types.specs.declared.messages.How.TheVariants.{Eager, Ask}
use Rattle.nm_history.specs.Sends.{is_ask}
use Rattle.nm_kept.specs.Keeping.{IsHeld, Keeping}
use Rattle.nm_sending.specs.declared.departures.Departure.{Departure}
use Rattle.nm_sending.specs.Departures.{fresh, passes, was_undone}
use Rattle.nm_sending.specs.Rows.{all_recalled, fate, gone, is_settled, is_withdrawn, stays, with_recalled}
use Rattle.nm_sending.proofs.RecalledLemmas.{answered-all, base-of, get-at, passes-first, passing, recalled-all}
use Rattle.nm_sending.proofs.RecalledLemmas.{recalled-at, unrecalled-at}

not_true : (b : Bool) → not b ≡ true → b ≡ false
not_true true h = absurd (true≢false (sym h))
not_true false h = refl

one_there : {x y : Departure} → Some x ≡ Some y → x ≡ y
one_there e = cc

-- one that has not left, and was not withdrawn, may leave
pub unsettled : (d : Departure) → d.out ≡ false → was_undone true d ≡ false → is_settled d ≡ false
unsettled d in' kept =
    ap (λ (o : Bool). o || (is_ask d.how && (d.recalled && was_undone true d))) in'
    ∙ ap (λ (u : Bool). is_ask d.how && (d.recalled && u)) kept
    ∙ nothing (is_ask d.how) d.recalled
  where
    nothing : (a r : Bool) → (a && (r && false)) ≡ false
    nothing true true = refl
    nothing true false = refl
    nothing false r = refl

-- and so may one that was just sent
pub fresh-stays : (how : How) (len : ℕ) → is_settled (with_recalled (fresh how len) None) ≡ false
fresh-stays Eager len = refl
fresh-stays Ask len = refl

module _ (ds : List Departure) (i : ℕ) (d : Departure) (there : slice_get ds i ≡ Some d) where
  -- one that may leave is not among those at the front that are settled
  pub stays-behind : is_settled d ≡ false → gone ds ≤ i
  stays-behind stays' =
      let settled : i < gone ds → ⊥ = λ lt. true≢false (sym (prefix_len_passes is_settled ds i d lt)
      ∙ ap is_settled (get_or_from_slice_get ds i d d there) ∙ stays') in
      omega (arith, settled)

  -- one that is settled, with none before it that may leave, is among them
  pub goes-on : is_settled d ≡ true → i ≤ gone ds → i + 1 ≤ gone ds
  goes-on settled low =
      let within = slice_get_within ds i d there in
      let stops : i ≡ gone ds → ⊥ = λ e. true≢false
      (sym settled ∙ sym (ap is_settled (get_or_from_slice_get ds i d d there))
      ∙ ap (λ k. is_settled (get_or ds k d)) e
      ∙ prefix_len_stops is_settled ds d (omega (arith, e, within))) in
      omega (arith, stops, low)

-- where nothing stands all are before it
none-there : (ds : List Departure) (i : ℕ) → slice_get ds i ≡ None → length ds ≤ i
none-there [] i h = omega arith
none-there (d ∷ ds) zero h = absurd cc
none-there (d ∷ ds) (suc i) h = let rest = none-there ds i h in omega (arith, rest)

-- before the end there is one
pub there-within : (ds : List Departure) (i : ℕ) → i < length ds → (d : Departure) × (slice_get ds i ≡ Some d)
there-within [] i lt = absurd (let no : ⊥ = omega (arith, lt) in no)
there-within (d ∷ ds) zero lt = (d, refl)
there-within (d ∷ ds) (suc i) lt = there-within ds i (omega (arith, lt))

-- no more are settled than there are
pub gone-few : (ds : List Departure) → gone ds ≤ length ds
gone-few ds = prefix_len-le-length is_settled ds

-- where none stands that is settled, those at the front are before it
pub stops-there : (ds : List Departure) (i : ℕ) → passes is_settled (slice_get ds i) ≡ false → gone ds ≤ i
stops-there ds i h = by_there (slice_get ds i) refl h where
  by_there : (o : Option Departure) → slice_get ds i ≡ o → passes is_settled o ≡ false → gone ds ≤ i
  by_there None there stays' =
      let past = none-there ds i there in
      omega (arith, past, gone-few ds)
  by_there (Some d) there stays' = stays-behind ds i d there stays'

-- where one is replaced by another that is settled if it was, no fewer are at the front
pub gone-set : (ds : List Departure) (n : ℕ) (d x : Departure) → slice_get ds n ≡ Some d
    → (is_settled d ≡ true → is_settled x ≡ true) → gone ds ≤ gone (set ds n x)
gone-set [] n d x there more = omega arith
gone-set (e ∷ ds) zero d x there more =
    by (is_settled e) (is_settled x) (λ h. more (ap is_settled (sym (one_there there)) ∙ h))
  where
    by : (b c : Bool) → (b ≡ true → c ≡ true) → cond b (1 + gone ds) 0 ≤ cond c (1 + gone ds) 0
    by true true is = omega arith
    by true false is = absurd (true≢false (sym (is refl)))
    by false true is = omega arith
    by false false is = omega arith
gone-set (e ∷ ds) (suc n) d x there more = by (is_settled e) (gone-set ds n d x there more) where
  by : (b : Bool) → gone ds ≤ gone (set ds n x) → cond b (1 + gone ds) 0 ≤ cond b (1 + gone (set ds n x)) 0
  by true le = omega (arith, le)
  by false le = omega arith

-- and where it is settled only then, as many
gone-same : (ds : List Departure) (n : ℕ) (d x : Departure) → slice_get ds n ≡ Some d
    → is_settled x ≡ is_settled d → gone (set ds n x) ≡ gone ds
gone-same [] n d x there same = refl
gone-same (e ∷ ds) zero d x there same =
    ap (λ b. cond b (1 + gone ds) 0) (same ∙ ap is_settled (sym (one_there there)))
gone-same (e ∷ ds) (suc n) d x there same = ap (λ k. cond (is_settled e) (1 + k) 0) (gone-same ds n d x there same)

-- where one more is sent as many are settled
pub gone-push : (ds : List Departure) (x : Departure) → is_settled x ≡ false → gone (ds ++ x ∷ []) ≡ gone ds
gone-push [] x stays' = ap (λ b. cond b 1 0) stays'
gone-push (d ∷ ds) x stays' = ap (λ k. cond (is_settled d) (1 + k) 0) (gone-push ds x stays')

-- memory holds a message that may leave
pub stays-held : (recalls : List (ℕ × Option Bool)) (sent : Keeping Departure) (n : ℕ)
    → sent.forgotten ≡ gone (all_recalled recalls 0 sent.items)
    → passes stays (slice_get (all_recalled recalls 0 sent.items) n) ≡ true → IsHeld sent n
stays-held recalls sent n first h =
    let p = passing stays (slice_get (all_recalled recalls 0 sent.items) n) h in
    let b = base-of recalls sent.items n p.0 p.1 in
    let low = stays-behind (all_recalled recalls 0 sent.items) n p.0 p.1 (not_true (is_settled p.0) p.2) in
    record {
      behind = omega (arith, first, low);
      within = slice_get_within sent.items n b.0 b.1;
    }

-- what is said of a message that was let go
pub gone-told : (recalls : List (ℕ × Option Bool)) (ds : List Departure) (n : ℕ) (b x : Departure)
    → slice_get ds n ≡ Some b → n < gone (all_recalled recalls 0 ds) → x ≡ record (fresh Eager 0) { out = true }
    → fate (with_recalled x (lookup (nat_eq n) recalls)) ≡ fate (with_recalled b (lookup (nat_eq n) recalls))
gone-told recalls ds n b x there low is =
    ap (λ (y : Departure). fate (with_recalled y (lookup (nat_eq n) recalls))) is
    ∙ ap (λ (o : Bool). record (fate seen) { out = o })
    (sym (left_or_withdrawn b.out (is_ask b.how) (is_withdrawn seen) settled))
  where
    seen : Departure
    seen = with_recalled b (lookup (nat_eq n) recalls)

    settled : is_settled seen ≡ true
    settled =
        ap is_settled (sym (get_or_from_slice_get (all_recalled recalls 0 ds) n seen seen (get-at recalls ds n b there)))
        ∙ prefix_len_passes is_settled (all_recalled recalls 0 ds) n seen low

    left_or_withdrawn : (o a w : Bool) → (o || (a && w)) ≡ true → (o || w) ≡ true
    left_or_withdrawn true a w h = refl
    left_or_withdrawn false true w h = h
    left_or_withdrawn false false w h = absurd (true≢false (sym h))

module _ (recalls new : List (ℕ × Option Bool)) (ds : List Departure) (n : ℕ) where
  -- where one is recalled as many are settled
  pub gone-recalled :
      ((q : ℕ) → lookup (nat_eq q) new ≡ cond (nat_eq n q) (Some None) (lookup (nat_eq q) recalls))
      → passes (λ d. not d.recalled) (slice_get (all_recalled recalls 0 ds) n) ≡ true
      → gone (all_recalled new 0 ds) ≡ gone (all_recalled recalls 0 ds)
  gone-recalled step h =
      let p = passing (λ d. not d.recalled) (slice_get (all_recalled recalls 0 ds) n) h in
      let b = base-of recalls ds n p.0 p.1 in
      let none = unrecalled-at recalls ds n h in
      let is : p.0 ≡ with_recalled b.0 None =
      b.2 ∙ ap (λ (r : Option (Option Bool)). with_recalled b.0 r) none in
      ap gone (recalled-all recalls ds n new None step refl none p.0 p.1)
      ∙ gone-same (all_recalled recalls 0 ds) n p.0 (record p.0 { recalled = true }) p.1
      (ap (λ (x : Departure). is_settled (record x { recalled = true })) is ∙ ap is_settled (sym is))

  -- and where a recall that had no answer is answered, no fewer
  pub gone-answered : (done : Bool)
      → ((q : ℕ) → lookup (nat_eq q) new ≡ cond (nat_eq n q) (Some (Some done)) (lookup (nat_eq q) recalls))
      → passes (λ d. d.recalled && not (was_undone true d)) (slice_get (all_recalled recalls 0 ds) n) ≡ true
      → gone (all_recalled recalls 0 ds) ≤ gone (all_recalled new 0 ds)
  gone-answered done step h =
      let p = passing (λ d. d.recalled && not (was_undone true d)) (slice_get (all_recalled recalls 0 ds) n) h in
      let d = p.0 in
      let known = recalled-at recalls ds n (passes-first (λ d. d.recalled) (λ d. not (was_undone true d))
      (slice_get (all_recalled recalls 0 ds) n) h) in
      let none = not_true (was_undone true d) (and_right d.recalled (not (was_undone true d)) p.2) in
      subst (λ (l : List Departure). gone (all_recalled recalls 0 ds) ≤ gone l)
      (sym (answered-all recalls ds n new (Some done) step known d p.1))
      (gone-set (all_recalled recalls 0 ds) n d (record d { undone = Some done }) p.1
      (λ settled. left (is_ask d.how) d.out d.recalled (was_undone true d)
      (is_withdrawn (record d { undone = Some done })) none settled))
    where
      left : (a o r u w : Bool) → u ≡ false → (o || (a && (r && u))) ≡ true → (o || (a && w)) ≡ true
      left a true r u w none h = refl
      left true false true u w none h = absurd (true≢false (sym h ∙ none))
      left true false false u w none h = absurd (true≢false (sym h))
      left false false r u w none h = absurd (true≢false (sym h))
