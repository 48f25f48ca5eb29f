-- What the closed table tells of the pieces.
use Rattle.std.proofs.Common.{◌≡◌, ℕ, zero, suc, ◌+◌, ◌-◌, ◌*◌, ◌<◌, List, [], ◌∷◌, ◌++◌, length}
use Rattle.std.proofs.Common.{map, Some, None, sym, refl, ap, ◌∙◌, subst, arith, length-append}
use Rattle.std.proofs.lemmas.List.{length-map}
use Rattle.std.specs.Prelude.{slice_index}
use mathlib.Core.Option as maybe
use lib.ListN.{get_elem?}
use Rattle.atomic_table.specs.Table.{State, Joins, Splits}
use Rattle.atomic_table.proofs.Lists.{set_else}
use Rattle.nm_chain.specs.declared.seats.views.View.{View}
use Rattle.nm_chain.specs.Spoken.{view, sealed, IsOf}
use Rattle.nm_chain.specs.Total.{total, sign}
use Rattle.nm_chain.specs.Window.{Any}
use Rattle.nm_chain.proofs.ListLemmas.{each_at}
use Rattle.nm_chain.proofs.SpokenLemmas.{spoken_joins, spoken_seals}
use Rattle.nm_chain.proofs.TotalLemmas.{total_along, total_rows, full_places}
use Rattle.nm_copyring.specs.declared.table.Entry.{Entry}
use Rattle.nm_copyring.specs.declared.port.RingPort.{RingPort}
use Rattle.nm_copyring.specs.Rule.{Load, rank_of, is_filling, emptying, lane, mark, place, Ring, Rule}
use Rattle.nm_copyring.specs.Plays.{unlooked}
use Rattle.nm_copyring.specs.Ports.{knows, sees}
use Rattle.nm_copyring.specs.AtClose.{Gathered, Prefixed, entry, pushed_in, pulled_in, not_pulled}
use Rattle.nm_copyring.proofs.ListLemmas.{joined}
use Rattle.nm_copyring.proofs.RingLemmas.{marked}

pub merged : (n id other : ℕ) (v w : View Entry)
    → Joins (Rule n) id v other w (view (w.entries ++ v.entries)) (view [])
merged n id other v w s R at ne there = record {
  ledger = R.ledger;
  spoken = spoken_joins rank_of R.ledger s.views R.spoken id other v w at ne
      (sym (set_else s.views id other (view (w.entries ++ v.entries)) ne) ∙ there);
  knows = R.knows;
  long = R.long;
  rings = R.rings;
  looks = R.looks;
}

pub sealed_off : (n id : ℕ) (v : View Entry) → Splits (Rule n) id v v (sealed v)
sealed_off n id v s R at = record {
  ledger = R.ledger;
  spoken = spoken_seals rank_of R.ledger s.views R.spoken id v (sealed v) at refl;
  knows = R.knows;
  long = R.long;
  rings = R.rings;
  looks = R.looks;
}

there : (es : List Entry) (k : ℕ) → k < length es → get_elem? es k ≡ maybe.some (entry es k)
there [] k h = absurd (omega arith)
there (x ∷ xs) zero h = refl
there (x ∷ xs) (suc k) h = there xs k (omega arith)

module _ (n : ℕ) (s : State Load (View Entry)) (R : Rule n s) (id : ℕ) (es : List Entry)
    (at : get_elem? s.views id ≡ maybe.some (view es)) (g : Gathered n es) where
  is_ledger : (r : ℕ) → r < n → R.ledger r ≡ entry es r
  is_ledger r low = let h = there es r (let l = g.0 in omega arith) in
      let z = each_at (IsOf rank_of R.ledger R.spoken.seat_of id) es
      (R.spoken.each id (view es) at).0 r (entry es r) h in
      ap R.ledger (sym (g.1 r (entry es r) h)) ∙ z.1

  ring : (i j : ℕ) → i < n → j < n → Ring n s.words s.homes i j (entry es i) (entry es j)
  ring i j li lj = subst (λ e. Ring n s.words s.homes i j e (entry es j)) (is_ledger i li)
      (subst (λ e. Ring n s.words s.homes i j (R.ledger i) e) (is_ledger j lj) (R.rings i j li lj))

  pub prefixes : Prefixed n es
  prefixes i j li lj = let r = ring i j li lj in let few = r.places.few in
      let same = length-map r.waits Some in (
        r.waits,
        joined (pushed_in es i j) (pulled_in es i j) r.waits r.places.path,
        omega arith,
      )

  -- the full places of a pair
  of_pair : (i j : ℕ) → i < n → j < n → total 4 (λ k. sign (slice_index s.words (place n i j k)))
      ≡ length (pushed_in es i j) - length (pulled_in es i j)
  of_pair i j li lj = let r = ring i j li lj in let e = entry es i in let d = entry es j in
      let full = full_places 4 None mark Any (omega arith) marked
      (λ k. slice_index s.words (place n i j k)) (λ k. get_elem? s.homes (place n i j k))
      (map Some (pushed_in es i j)) (map Some (pulled_in es i j)) (map Some r.waits)
      (is_filling e.work j) (emptying d.work i) r.places in
      let same = length-map r.waits Some in
      let all = ap length (joined (pushed_in es i j) (pulled_in es i j) r.waits r.places.path)
      ∙ length-append (pulled_in es i j) r.waits in omega (arith, full, same, all)

  pub left_over : total (4 * (n * n)) (λ k. sign (slice_index s.words k)) ≡ not_pulled n es
  left_over = let f : ℕ → ℕ = λ k. sign (slice_index s.words k) in
      let turned : 4 * (n * n) ≡ n * n * 4 = omega arith in
      ap (λ m. total m f) turned ∙ total_rows (n * n) 4 f
      ∙ total_rows n n (λ m. total 4 (λ k. f (m * 4 + k)))
      ∙ total_along n (λ i. total n (λ j. total 4 (λ k. f ((i * n + j) * 4 + k))))
      (λ i. total n (λ j. length (pushed_in es i j) - length (pulled_in es i j)))
      (λ i li. total_along n (λ j. total 4 (λ k. f ((i * n + j) * 4 + k)))
      (λ j. length (pushed_in es i j) - length (pulled_in es i j))
      (λ j lj. total_along 4 (λ k. f ((i * n + j) * 4 + k))
      (λ k. sign (slice_index s.words (place n i j k)))
      (λ k lk. ap f (let e : (i * n + j) * 4 + k ≡ place n i j k = omega arith in e))
      ∙ of_pair i j li lj))

pub at_word : (ws : List ℕ) (i x : ℕ) → get_elem? ws i ≡ maybe.some x → slice_index ws i ≡ x
at_word [] i x e = absurd (maybe.some-ne-none x (sym e))
at_word (w ∷ ws) zero x e = maybe.some-injective w x e
at_word (w ∷ ws) (suc i) x e = at_word ws i x e

-- one more flag
pub one_more : (ws : List ℕ) (i x left new : ℕ) → get_elem? ws i ≡ maybe.some x
    → left ≡ total i (λ k. sign (slice_index ws k)) → new ≡ left + sign x
    → new ≡ total (i + 1) (λ k. sign (slice_index ws k))
one_more ws i x left new at was is = let next : suc i ≡ i + 1 = omega arith in
    is ∙ (λ t. was t + sign (sym (at_word ws i x at) t))
    ∙ ap (λ k. total k (λ j. sign (slice_index ws j))) next

-- the entry of a rank, whatever it found where it looked last
entry_unlooked : (es : List Entry) (r : ℕ) → entry (map unlooked es) r ≡ unlooked (entry es r)
entry_unlooked [] r = refl
entry_unlooked (e ∷ es) zero = refl
entry_unlooked (e ∷ es) (suc r) = entry_unlooked es r

-- what is left is the same
pub left_unlooked : (n : ℕ) (es : List Entry) → not_pulled n (map unlooked es) ≡ not_pulled n es
left_unlooked n es = λ k. total n (λ i. total n
    (λ j. length (lane (entry_unlooked es i k) j).pushed - length (lane (entry_unlooked es j k) i).pulled))

pub prefix_unlooked : (n : ℕ) (es : List Entry) → Prefixed n es → Prefixed n (map unlooked es)
prefix_unlooked n es holds i j li lj =
    let was = holds i j li lj in (
      was.0,
      ap (λ (e : Entry). (lane e j).pushed) (entry_unlooked es i) ∙ was.1
          ∙ ap (λ (e : Entry). (lane e i).pulled ++ was.0) (sym (entry_unlooked es j)),
      was.2,
    )

-- what the ports knew is what they saw, whatever they found where they looked last
pub known_seen : (ports : List RingPort) → map unlooked (map sees ports) ≡ map knows ports
known_seen [] = refl
known_seen (p ∷ ports) = ap (λ es. knows p ∷ es) (known_seen ports)
