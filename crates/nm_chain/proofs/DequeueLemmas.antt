-- What each kind of step of a consumer does to the words, the slots and the world.
use Rattle.std.proofs.Common.{◌≡◌, ◌≢◌, ℕ, suc, ◌+◌, ◌*◌, ◌<◌, ◌≤◌, List, [], ◌∷◌, ◌++◌, length}
use Rattle.std.proofs.Common.{set, sym, refl, ap, ◌∙◌, inl, subst, arith, length-set}
use Rattle.std.proofs.Common.{get_or-set_same, get_or-set_other, append_assoc, append-nil}
use mathlib.Core.Option as maybe
use mathlib.Core.Logic.{dite}
use native.Mathlib.Decide.{ℕ_discrete, dec_le}
use Rattle.atomic_table.proofs.Lists.{set_here, set_else}
use Rattle.nm_chain.proofs.UpdateLemmas.{update_here, update_else}
use Rattle.nm_chain.specs.Update.{update}
use Rattle.nm_chain.specs.Chain.{Item, IsIn, Has, IsChain}
use Rattle.nm_chain.specs.Chain.{held, queued}
use Rattle.nm_chain.proofs.ChainLemmas.{next_is, chain_elsewhere}
use Rattle.nm_chain.proofs.ChainLemmas.{head_cleared, first_cell, first_taken}
use Rattle.nm_chain.proofs.ChainLemmas.{tail_dropped}
use Rattle.nm_chain.specs.declared.table.table.Heads.{Heads}
use Rattle.nm_chain.specs.Rule.{Load, Chain, World, put_to, from}
use Rattle.nm_chain.specs.Rule.{fetched, loads, head, tail, link, HasHome, Suits}
use Rattle.nm_chain.specs.Rule.{Fits, QueueHolds, QueuesHold}
use Rattle.nm_chain.proofs.QueueLemmas.{from_append, below_yes, below_no, in_one, moved, handed_same}
use Rattle.nm_chain.proofs.QueueLemmas.{has_fit, head_fits, rests, spared, was_in, apart_in, cells_but}
use Rattle.nm_chain.proofs.QueueLemmas.{low_in}

module _ {A : Type 0} (n each : ℕ) (w : World A) (words : List ℕ) (homes : List (maybe.Option (Load A)))
    (l : QueuesHold n each w words homes) where
  abbrev pub with_heads : ℕ → Heads → World A
  with_heads q e = record w { heads = update w.heads q e }

  -- a consumer notes what it loaded from the head
  pub loaded_head : (q : ℕ) → q < 2 * n
      → QueuesHold n each (with_heads q
      (record { shadow = (w.heads q).shadow; seen = head n words q })) words homes
  loaded_head q few = let e : Heads = record { shadow = (w.heads q).shadow; seen = head n words q } in
      let w' = with_heads q e in record {
        long = l.long;
        slots = l.slots;
        queues = λ k few'. rests n each w w' words words homes homes k (l.queues k few') refl refl
            (dite (ℕ_discrete k q) (λ u. ap (λ (z : Heads). z.shadow) (update_here w.heads q e k u)
            ∙ ap (λ j. (w.heads j).shadow) (sym u))
            (λ ne. ap (λ (z : Heads). z.shadow) (update_else w.heads q e k ne))) refl
            (λ d i. (refl, refl)) (λ d i. i) (λ d i. refl);
        seen = λ k few' some. dite (ℕ_discrete k q)
            (λ u. ap (head n words) u ∙ ap (λ (z : Heads). z.seen) (sym (update_here w.heads q e k u)))
            (λ ne. let same = ap (λ (z : Heads). z.seen) (update_else w.heads q e k ne) in
            l.seen k few' (subst (λ z. 0 < z) same some) ∙ sym same);
        cells = l.cells;
        paths = l.paths;
      }

  pub head_low : (q : ℕ) → q < 2 * n → head n words q ≤ n * each
  head_low q few = let h = l.queues q few in
      head_fits (n * each) w.place q (head n words q) (w.heads q).shadow (w.chain q) h.begins
      (λ c k. low_in n each w words homes l q c k few)

  -- a consumer clears the head that it loaded, whose cell is its shadow head from now on
  pub cleared_head : (q c : ℕ) → q < 2 * n → (w.heads q).seen ≡ suc c
      → QueuesHold n each (with_heads q (record { shadow = suc c; seen = 0 })) (set words q 0) homes
  cleared_head q c few loaded = let e : Heads = record { shadow = suc c; seen = 0 } in
      let w' = with_heads q e in let words' = set words q 0 in
      let is : head n words q ≡ suc c = l.seen q few (omega arith) ∙ loaded in
      let in_words : q < length words = let long = l.long in omega arith in record {
        long = length-set words q 0 ∙ l.long;
        slots = l.slots;
        queues = λ k few'. dite (ℕ_discrete k q)
            (λ u. subst (QueueHolds n each w' words' homes) (sym u)
            (moved (Fits n each homes q) w.place (link n words') q 0 (tail n words q) (suc c)
            (head n words' q) (tail n words' q) (w'.heads q).shadow (w.chain q) (w.chain q)
            (get_or-set_same words q 0 0 in_words)
            (get_or-set_other words q (2 * n + q) 0 0 (omega arith))
            (ap (λ (z : Heads). z.shadow) (update_here w.heads q e q refl)) refl
            (chain_elsewhere (Fits n each homes q) (Fits n each homes q) w.place
            (link n words) q 0 (tail n words q) (suc c) (w.chain q)
            (head_cleared (Fits n each homes q) w.place (link n words) q (head n words q)
            (tail n words q) (w.heads q).shadow (w.chain q) (l.queues q few) c is)
            w.place (link n words')
            (λ d i. (get_or-set_other words q (4 * n + d) 0 0 (omega arith), refl)) (λ d i. i)
            (λ x i f. f))))
            (λ ne. rests n each w w' words words' homes homes k (l.queues k few')
            (get_or-set_other words q k 0 0 ne)
            (get_or-set_other words q (2 * n + k) 0 0 (omega arith))
            (ap (λ (z : Heads). z.shadow) (update_else w.heads q e k ne)) refl
            (λ d i. (get_or-set_other words q (4 * n + d) 0 0 (omega arith), refl)) (λ d i. i)
            (λ d i. refl));
        seen = λ k few' some. dite (ℕ_discrete k q) (λ u. let z : (update w.heads q e k).seen ≡ 0 =
            ap (λ (y : Heads). y.seen) (update_here w.heads q e k u) in absurd (omega arith))
            (λ ne. let same = ap (λ (z : Heads). z.seen) (update_else w.heads q e k ne) in
            get_or-set_other words q k 0 0 ne ∙ l.seen k few' (subst (λ z. 0 < z) same some)
            ∙ sym same);
        cells = λ d low. handed_same n words words' homes homes d (w.place d) refl
            (get_or-set_other words q (4 * n + d) 0 0 (omega arith)) (l.cells d low);
        paths = l.paths;
      }

  -- the paths after the rank r took the first_cell load of the queue q
  paths_less : (r q : ℕ) (x : Item (Load A)) (xs : Chain A) → w.chain q ≡ x ∷ xs → (q < n → q ≡ r)
      → (i j : ℕ) → i < n → j < n
      → put_to j (w.put i) ≡ from i (update w.got r (w.got r ++ fetched n q x.load) j) ++ from i
      (loads (update w.chain q xs j))
  paths_less r q x xs is own i j li lj = let y = x.load in let old = l.paths i j li lj in
      let more = w.got r ++ fetched n q y in dite (ℕ_discrete j q)
      (λ ej. let low : q < n = omega arith in let jr : j ≡ r = ej ∙ own low in
      old ∙ ap (λ k. from i (w.got j) ++ from i (loads (w.chain k))) ej
      ∙ ap (λ u. from i (w.got j) ++ from i (loads u)) is ∙ ap (λ u. from i (w.got j) ++ u)
      (from_append i (y ∷ []) (loads xs))
      ∙ sym (append_assoc (from i (w.got j)) (from i (y ∷ [])) (from i (loads xs)))
      ∙ ap (λ u. u ++ from i (loads xs)) (sym (from_append i (w.got j) (y ∷ []))
      ∙ ap (λ k. from i (w.got k ++ y ∷ [])) jr ∙ ap (λ u. from i (w.got r ++ u))
      (sym (below_yes (dec_le (suc q) n) (y ∷ []) [] low))
      ∙ ap (from i) (sym (update_here w.got r more j jr)))
      ∙ ap (λ u. from i (update w.got r more j) ++ from i (loads u))
      (sym (update_here w.chain q xs j ej)))
      (λ nj. old ∙ ap (λ u. from i (w.got j) ++ from i (loads u))
      (sym (update_else w.chain q xs j nj))
      ∙ ap (λ u. from i u ++ from i (loads (update w.chain q xs j))) (dite (ℕ_discrete j r)
      (λ jr. let far : ¬ (suc q ≤ n) = λ low. nj (jr ∙ sym (own low)) in
      sym (append-nil (w.got j)) ∙ ap (λ k. w.got k ++ []) jr ∙ ap (λ u. w.got r ++ u)
      (sym (below_no (dec_le (suc q) n) (y ∷ []) [] far))
      ∙ sym (update_here w.got r more j jr))
      (λ nr. sym (update_else w.got r more j nr))))

  -- the rank r takes the first_cell cell of the queue q, whose chain is xs then
  abbrev pub after_take : ℕ → ℕ → Item (Load A) → Chain A → Heads → World A
  after_take r q x xs e = record w {
    place = update w.place x.cell (held r);
    chain =
        update w.chain q xs;
    heads = update w.heads q e;
    got =
        update w.got r (w.got r ++ fetched n q x.load);
  }

  took : (r q tl : ℕ) (x : Item (Load A)) (xs xs' : Chain A) (e : Heads) (words' : List ℕ) → q < 2 * n
      → w.chain q ≡ x ∷ xs → (q < n → q ≡ r) → e.seen ≡ 0 → length words' ≡ length words
      → w.place x.cell ≡ queued q → x.cell < n * each → xs' ≡ xs
      → ((k : ℕ) → k < 2 * n → head n words' k ≡ head n words k)
      → ((k : ℕ) → k < 2 * n → k ≢ q → tail n words' k ≡ tail n words k)
      → tail n words' q ≡ tl → ((d : ℕ) → link n words' d ≡ link n words d)
      → IsChain (Fits n each (set homes x.cell maybe.none) q) (update w.place x.cell (held r))
      (link n words) q (head n words q) tl e.shadow xs'
      → QueuesHold n each (after_take r q x xs' e) words' (set homes x.cell maybe.none)
  took r q tl x xs xs' e words' few is own none_seen long at low shrunk heads tails last links
      chained = let homes' = set homes x.cell maybe.none in let w' = after_take r q x xs' e in
      let in_homes : x.cell < length homes = let sl = l.slots in omega arith in record {
        long = long ∙ l.long;
        slots = length-set homes x.cell maybe.none ∙ l.slots;
        queues = λ k few'. dite (ℕ_discrete k q)
            (λ u. subst (QueueHolds n each w' words' homes') (sym u)
            (moved (Fits n each homes' q) w'.place (link n words') q (head n words q) tl e.shadow
            (head n words' q) (tail n words' q) (w'.heads q).shadow xs' (w'.chain q)
            (heads q few) last (ap (λ (z : Heads). z.shadow) (update_here w.heads q e q refl))
            (update_here w.chain q xs' q refl)
            (chain_elsewhere (Fits n each homes' q) (Fits n each homes' q) w'.place (link n words) q
            (head n words q) tl e.shadow xs' chained w'.place (link n words')
            (λ d i. (links d, refl)) (λ d i. i) (λ y i f. f))))
            (λ ne. let out : ¬ IsIn k (w.place x.cell) =
            λ i. ne (in_one k q (w.place x.cell) i (subst (IsIn q) (sym at) refl)) in
            rests n each w w' words words' homes homes' k (l.queues k few') (heads k few') (tails k few' ne)
            (ap (λ (z : Heads). z.shadow) (update_else w.heads q e k ne))
            (update_else w.chain q xs' k ne)
            (λ d i. (links d, spared n each w words homes l k x.cell (held r) out (λ z. z) d i))
            (was_in n each w words homes l k x.cell (held r) (λ z. z))
            (λ d i. set_else homes x.cell d maybe.none (apart_in n each w words homes l k x.cell out d i)));
        seen = λ k few' some. dite (ℕ_discrete k q) (λ u. let z : (update w.heads q e k).seen ≡ 0 =
            ap (λ (y : Heads). y.seen) (update_here w.heads q e k u) ∙ none_seen in absurd (omega arith))
            (λ ne. let same = ap (λ (z : Heads). z.seen) (update_else w.heads q e k ne) in
            heads k few' ∙ l.seen k few' (subst (λ z. 0 < z) same some) ∙ sym same);
        cells = cells_but n each w words homes l x.cell (held r) words' homes'
            (set_here homes x.cell maybe.none in_homes)
            (λ d ne. handed_same n words words' homes homes' d (w.place d)
            (set_else homes x.cell d maybe.none ne) (links d));
        paths = paths_less r q x xs' (is ∙ ap (λ ys. x ∷ ys) (sym shrunk)) own;
      }

  module _ (r q s : ℕ) (few : q < 2 * n) (own : q < n → q ≡ r)
      (shadow : (w.heads q).shadow ≡ suc s) where
    abbrev pub start : (x : Item (Load A)) × (ys : Chain A) × (w.chain q ≡ x ∷ ys) × (x.cell ≡ s)
        × (w.place s ≡ queued q) × (head n words q ≡ 0)
    start = first_cell (Fits n each homes q) w.place (link n words) q (head n words q)
        (tail n words q) (w.heads q).shadow (w.chain q) (l.queues q few) s shadow

    begun : IsChain (Fits n each homes q) w.place (link n words) q (head n words q)
        (tail n words q) (w.heads q).shadow (start.0 ∷ start.1)
    begun = moved (Fits n each homes q) w.place (link n words) q (head n words q) (tail n words q)
        (w.heads q).shadow (head n words q) (tail n words q) (w.heads q).shadow (w.chain q)
        (start.0 ∷ start.1) refl refl refl (sym start.2) (l.queues q few)

    keeps : (y : Item (Load A)) → y.cell ≢ start.0.cell → Fits n each homes q y
        → Fits n each (set homes start.0.cell maybe.none) q y
    keeps y ne f = (f.0, set_else homes start.0.cell y.cell maybe.none ne ∙ f.1, f.2)

    -- what the first_cell cell holds is at home
    pub at_home : HasHome homes start.0.cell start.0.load
    at_home = begun.each.0.1

    pub start_suits : Suits n each q start.0
    start_suits = begun.each.0.2

    pub start_low : start.0.cell < n * each
    start_low = begun.each.0.0

    pub next_low : (d : ℕ) → link n words s ≡ suc d → d < n * each
    next_low d leads = let t =
        next_is w.place q (link n words) start.0.cell d start.1 begun.linked.0
        (ap (link n words) start.3 ∙ leads) in
        subst (λ k. k < n * each) (sym t.3) (has_fit (Fits n each homes q) (λ c. c < n * each)
        (λ x f. f.0) start.1 begun.each.1 t.0.cell
        (subst (Has t.0.cell) (sym t.2) (inl refl)))

    -- the link of the first_cell cell leads to d
    pub passed : (d : ℕ) → link n words s ≡ suc d
        → QueuesHold n each (after_take r q start.0 start.1 (record { shadow = suc d; seen = 0 }))
        words (set homes start.0.cell maybe.none)
    passed d leads = took r q (tail n words q) start.0 start.1 start.1
        (record { shadow = suc d; seen = 0 }) words few start.2 own refl refl
        (ap w.place start.3 ∙ start.4) begun.each.0.0 refl (λ k f. refl) (λ k f ne. refl) refl
        (λ d. refl)
        (first_taken (Fits n each homes q) (Fits n each (set homes start.0.cell maybe.none) q)
        w.place (link n words) q (head n words q) (tail n words q)
        (w.heads q).shadow start.0 start.1 begun r start.5 keeps d
        (ap (link n words) start.3 ∙ leads))

    -- where the first_cell cell is the tail, it is alone
    pub sole : tail n words q ≡ suc s → w.chain q ≡ start.0 ∷ []
    sole last = start.2 ∙ ap (λ ys. start.0 ∷ ys)
        (tail_dropped (Fits n each homes q) (Fits n each (set homes start.0.cell maybe.none) q)
        w.place (link n words) q (head n words q) (tail n words q)
        (w.heads q).shadow start.0 start.1 begun r start.5 keeps (last ∙ ap suc (sym start.3))).1

    -- the first_cell cell is the tail, which becomes 0
    pub drained : tail n words q ≡ suc s
        → QueuesHold n each (after_take r q start.0 [] (record { shadow = 0; seen = 0 }))
        (set words (2 * n + q) 0) (set homes start.0.cell maybe.none)
    drained last = let words' = set words (2 * n + q) 0 in
        let in_words : 2 * n + q < length words = let long = l.long in omega arith in
        let t = tail_dropped (Fits n each homes q)
        (Fits n each (set homes start.0.cell maybe.none) q) w.place (link n words) q
        (head n words q) (tail n words q) (w.heads q).shadow start.0 start.1 begun r start.5
        keeps (last ∙ ap suc (sym start.3)) in
        took r q 0 start.0 start.1 [] (record { shadow = 0; seen = 0 }) words' few start.2 own
        refl (length-set words (2 * n + q) 0) (ap w.place start.3 ∙ start.4) begun.each.0.0
        (sym t.1)
        (λ k f. get_or-set_other words (2 * n + q) k 0 0 (omega arith))
        (λ k f ne. get_or-set_other words (2 * n + q) (2 * n + k) 0 0 (omega arith))
        (get_or-set_same words (2 * n + q) 0 0 in_words)
        (λ d. get_or-set_other words (2 * n + q) (4 * n + d) 0 0 (omega arith)) t.0
