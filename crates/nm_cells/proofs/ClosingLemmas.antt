-- What the closed table tells of its cells.
use Rattle.std.proofs.Common.{Bool, ◌≡◌, ◌≢◌, ℕ, zero, suc, ◌+◌, ◌*◌, ◌/◌, ◌<◌, ◌≤◌, List, [], ◌∷◌, ◌++◌}
use Rattle.std.proofs.Common.{map, length, Some, None, sym, refl, ap, ◌∙◌, inl, subst, ⊎_elim}
use Rattle.std.proofs.Common.{arith, lt_of_not-le, mul-le-mul_right, div-mul-le_self}
use mathlib.Core.Option as maybe
use mathlib.Core.Logic.{dite}
use native.Mathlib.Decide.{ℕ_discrete, dec_le}
use lib.ListN.{get_elem?}
use Rattle.atomic_table.specs.Table.{State, Joins, Splits}
use Rattle.atomic_table.proofs.Lists.{set_else}
use Rattle.nm_chain.specs.declared.seats.views.View.{View}
use Rattle.nm_chain.specs.Spoken.{view, sealed, Each as EachEntry, IsOf}
use Rattle.nm_chain.proofs.SpokenLemmas.{spoken_joins, spoken_seals}
use Rattle.nm_chain.specs.Chain.{Item, Has, Each, queued}
use Rattle.nm_chain.specs.Sequence.{Got}
use Rattle.nm_chain.specs.Sequence as turn
use Rattle.nm_chain.proofs.SequenceLemmas.{behind, each_has, has_left, has_right}
use Rattle.nm_types.specs.Sizes.{Sizes}
use Rattle.nm_chain.specs.declared.table.parcels.Parcel.{Parcel}
use Rattle.nm_chain.specs.declared.table.table.Hand.TheVariants.{Away}
use Rattle.nm_chain.specs.declared.table.table.Entry.{Entry}
use Rattle.nm_chain.specs.Rule.{Load, Chain, hand, rank_of, World, sender, number, from, loads}
use Rattle.nm_chain.specs.Rule.{sent_to, Fits, QueuesHold, AllInSequence, Rule, put_to}
use Rattle.nm_cells.specs.AtClose.{Gathered, Prefixed, AllCame, homed, home_count, vacant}
use Rattle.nm_cells.specs.AtClose.{vacant_at, Settled}
use Rattle.nm_chain.proofs.QueueLemmas.{pick_yes, pick_no}
use Rattle.nm_chain.proofs.CountingLemmas.{in_queue}

module _ {A : Type 0} {boxable : A → Bool} where
  pub merged : (key : Sizes) (id other : ℕ) (v w : View (Entry A))
      → Joins (Rule boxable key) id v other w (view (w.entries ++ v.entries)) (view [])
  merged key id other v w s R at ne there = record {
    ledger = R.ledger;
    world = R.world;
    spoken = spoken_joins rank_of R.ledger s.views R.spoken id other v w at ne
        (sym (set_else s.views id other (view (w.entries ++ v.entries)) ne) ∙ there);
    knows = R.knows;
    ranked = R.ranked;
    laid = R.laid;
    boxes = R.boxes;
    turns = R.turns;
    told = R.told;
  }

  pub sealed_off : (key : Sizes) (id : ℕ) (v : View (Entry A)) → Splits (Rule boxable key) id v v (sealed v)
  sealed_off key id v s R at = record {
    ledger = R.ledger;
    world = R.world;
    spoken = spoken_seals rank_of R.ledger s.views R.spoken id v (sealed v) at refl;
    knows = R.knows;
    ranked = R.ranked;
    laid = R.laid;
    boxes = R.boxes;
    turns = R.turns;
    told = R.told;
  }

module _ {A : Type 0} where
  -- an entry of a list of which all are so
  each_at : (P : Entry A → Type 0) (es : List (Entry A)) → EachEntry P es → (k : ℕ) (e : Entry A)
      → get_elem? es k ≡ maybe.some e → P e
  each_at P [] h k e at = absurd (maybe.some-ne-none e (sym at))
  each_at P (x ∷ xs) h zero e at = subst P (maybe.some-injective x e at) h.0
  each_at P (x ∷ xs) h (suc k) e at = each_at P xs h.1 k e at

  there : (es : List (Entry A)) (k : ℕ) → k < length es → (e : Entry A) × (get_elem? es k ≡ maybe.some e)
  there [] k h = absurd (omega arith)
  there (x ∷ xs) zero h = (x, refl)
  there (x ∷ xs) (suc k) h = there xs k (omega arith)

  fit_of : (F : Item (Load A) → Type 0) (xs : Chain A) → Each F xs → (c : ℕ) → Has c xs → (x : Item (Load A))
      × (c ≡ x.cell) × F x
  fit_of F [] e c h = absurd h
  fit_of F (x ∷ xs) e c h = ⊎_elim (λ s. (x, s, e.0)) (λ k. fit_of F xs e.1 c k) h

  first_from : (i : ℕ) (y : Load A) (ys : List (Load A)) → sender y ≡ suc i
      → from i (y ∷ ys) ≡ y ∷ from i ys
  first_from i y ys e = pick_yes (ℕ_discrete (sender y) (suc i)) (y ∷ from i ys) (from i ys) e

owner_low : (n each c : ℕ) → 0 < each → c < n * each → c / each < n
owner_low n each c some low =
    dite (dec_le n (c / each)) (λ far. let s : n * each ≤ c / each * each =
    mul-le-mul_right each far in let t = div-mul-le_self c each in
    absurd (omega arith)) lt_of_not-le

module _ {A : Type 0} (n each : ℕ) (some : 0 < each) (w : World A) (words : List ℕ)
    (homes : List (maybe.Option (Load A))) (l : QueuesHold n each w words homes)
    (t : AllInSequence n w) where
  -- where all that was sent came, nothing is left to receive
  abbrev Received : ℕ → Type 0
  Received j = (i : ℕ) → i < n → (k : ℕ) → k < sent_to j (w.put_box i) (w.put i)
      → Got (map number (from i (w.got_box j))) (map number (from i (w.got j))) k

  by_chain : (j : ℕ) → j < n → Received j → (xs : Chain A) → w.chain j ≡ xs
      → Each (Fits n each homes j) xs → w.chain j ≡ []
  by_chain j low all [] is f = is
  by_chain j low all (x ∷ xs) is f = let fx = f.0 in let y = x.load in let i : ℕ = x.cell / each in
      let from_i : sender y ≡ suc i = fx.2.0 low in let li = owner_low n each x.cell some fx.0 in
      let u = t i j li low in let d = u.numbered in let gb = map number (from i (w.got_box j)) in
      let bx = map number (w.waits i j) in let gc = map number (from i (w.got j)) in
      let ch = map number (from i (loads (w.chain j))) in
      let here : turn.Has (number y) ch =
      subst (λ zs. turn.Has (number y) (map number (from i (loads zs)))) (sym is)
      (subst (λ zs. turn.Has (number y) (map number zs))
      (sym (first_from i y (loads xs) from_i)) (inl refl)) in
      let small : number y < sent_to j (w.put_box i) (w.put i) =
      each_has (λ k. k < sent_to j (w.put_box i) (w.put i)) (gc ++ ch) d.cell_sent (number y)
      (has_right gc ch (number y) here) in
      absurd (⊎_elim (λ b. d.once (number y) (has_left gb bx (number y) b)
      (has_right gc ch (number y) here))
      (λ c. let z = behind gc ch (number y) (number y) d.cell_rises c here in absurd (omega arith))
      (all i li (number y) small))

  pub none_left : (j : ℕ) → j < n → Received j → w.chain j ≡ []
  none_left j low all = by_chain j low all (w.chain j) refl (l.queues j (omega arith)).each

-- the slot of a cell in a queue is empty exactly where the queue is its owner's free queue
module _ {A : Type 0} (n each : ℕ) (w : World A) (words : List ℕ) (homes : List (maybe.Option (Load A)))
    (l : QueuesHold n each w words homes) where
  pub slot_there : (c q : ℕ) → w.place c ≡ queued q → q < 2 * n → Has c (w.chain q) → (y : Load A)
      × (get_elem? homes c ≡ maybe.some (maybe.some y))
      × ((y ≡ None → homed n each c (w.place c) ≡ 1) × (y ≢ None → homed n each c (w.place c) ≡ 0))
  slot_there c q at few has = let f = fit_of (Fits n each homes q) (w.chain q)
      (l.queues q few).each c has in let x = f.0 in let same = f.1 in let fit = f.2 in (
        x.load,
        ap (get_elem? homes) same ∙ fit.1,
        (
          (λ none. dite (dec_le n q) (λ far. let own = (fit.2.1 far).1 in
              ap (homed n each c) at ∙ pick_yes (ℕ_discrete q (n + c / each)) 1 0
              (sym own ∙ ap (λ d. n + d / each) (sym same)))
              (λ near. let s = fit.2.0 (lt_of_not-le near) in let z : sender x.load ≡ 0 =
              ap sender none in absurd (omega arith))),
          (λ full. ap (homed n each c) at ∙ pick_no (ℕ_discrete q (n + c / each)) 1 0
              (λ e. full ((fit.2.1 (let z : q ≡ n + c / each = e in omega arith)).0))),
        ),
      )

module _ {A : Type 0} where
  -- how many of the first k slots are empty
  vacancy : (y : Load A) → vacant_at (maybe.some y) ≡ 1 → y ≡ None
  vacancy None e = refl
  vacancy (Some p) e = absurd (omega arith)

  vacant_of : (y : Load A) (h : ℕ) → (y ≡ None → h ≡ 1) → (y ≢ None → h ≡ 0)
      → vacant_at (maybe.some y) ≡ h
  vacant_of None h f g = sym (f refl)
  vacant_of (Some p) h f g = sym (g (λ e. some_none p e)) where
    some_none : (p : Parcel A) → Some p ≡ None → ⊥
    some_none p e = cc

module _ {A : Type 0} {boxable : A → Bool} (key : Sizes) (s : State (Load A) (View (Entry A)))
    (R : Rule boxable key s) (id : ℕ) (es : List (Entry A))
    (at : get_elem? s.views id ≡ maybe.some (view es)) (some : 0 < key.cells)
    (g : Gathered key.ranks key.cells es) where
  abbrev n : ℕ
  n = key.ranks

  abbrev m : ℕ
  m = key.cells

  is_ledger : (r : ℕ) (e : Entry A) → get_elem? es r ≡ maybe.some e → R.ledger r ≡ e
  is_ledger r e here = let z = each_at (IsOf rank_of R.ledger R.spoken.seat_of id) es
      (R.spoken.each id (view es) at).0 r e here in ap R.ledger (sym (g.1 r e here).0) ∙ z.1

  away : (r c : ℕ) → r < n → c < n * m → hand (R.ledger r) c ≡ Away
  away r c low few = let e = there es r (let l = g.0 in omega arith) in
      ap (λ x. hand x c) (is_ledger r e.0 e.1) ∙ (g.1 r e.0 e.1).1 c few

  in_queues : (c : ℕ) → c < n * m → (q : ℕ) × (R.world.place c ≡ queued q) × (q < 2 * n)
      × Has c (R.world.chain q)
  in_queues = in_queue n m some R.world s.words s.homes R.laid R.ledger R.knows R.ranked away

  pub prefixes : Prefixed n es
  prefixes i j e f li lj at_i at_j = let ki = R.knows i li in let kj = R.knows j lj in
      let ei = is_ledger i e at_i in let ej = is_ledger j f at_j in (
        (
          from_loads i j,
          ap (λ (x : Entry A). put_to j x.put) (sym ei) ∙ ap (put_to j) ki.put
              ∙ R.laid.paths i j li lj ∙ ap (λ u. from i u ++ from_loads i j)
              (sym kj.got ∙ ap (λ (x : Entry A). x.got) ej),
        ),
        (
          R.world.waits i j,
          ap (λ (x : Entry A). put_to j x.put_box) (sym ei) ∙ ap (put_to j) ki.put_box
              ∙ (R.boxes i j li lj).path ∙ ap (λ u. from i u ++ R.world.waits i j)
              (sym kj.got_box ∙ ap (λ (x : Entry A). x.got_box) ej),
        ),
      ) where
        from_loads : ℕ → ℕ → List (Load A)
        from_loads i j = from i (loads (R.world.chain j))

  module _ (items : List (Load A)) (kept : (k : ℕ) (y : Load A)
      → get_elem? s.homes k ≡ maybe.some (maybe.some y) → get_elem? items k ≡ maybe.some y) where
    counted : (k : ℕ) → k ≤ n * m → vacant items k ≡ home_count n m R.world.place k
    counted zero few = refl
    counted (suc k) few = let i = in_queues k (omega arith) in
        let t = slot_there n m R.world s.words s.homes R.laid k i.0 i.1 i.2 i.3 in
        let here : vacant_at (get_elem? items k) ≡ homed n m k (R.world.place k) =
        ap vacant_at (kept k t.0 t.1)
        ∙ vacant_of t.0 (homed n m k (R.world.place k)) t.2.0 t.2.1 in
        ap (λ u. u + vacant_at (get_elem? items k)) (counted k (omega arith))
        ∙ ap (λ u. home_count n m R.world.place k + u) here

    pub settled : (home : ℕ) → home ≡ vacant items (n * m) → Settled boxable key es home
    settled home is = (s, (R, is_ledger, in_queues, is ∙ counted (n * m) (omega arith)))

    received : AllCame n es → (j : ℕ) → j < n
        → Received n m some R.world s.words s.homes R.laid R.turns j
    received all j low i li k less = let e = there es i (let l = g.0 in omega arith) in
        let f = there es j (let l = g.0 in omega arith) in let ki = R.knows i li in
        let kj = R.knows j low in
        let puts : sent_to j e.0.put_box e.0.put ≡ sent_to j (R.world.put_box i) (R.world.put i) =
        ap (λ (x : Entry A). sent_to j x.put_box x.put) (sym (is_ledger i e.0 e.1))
        ∙ (λ u. sent_to j (ki.put_box u) (ki.put u)) in
        let got : Got (map number (from i f.0.got_box)) (map number (from i f.0.got)) k =
        all i j e.0 f.0 li low e.1 f.1 k (subst (λ u. k < u) (sym puts) less) in
        subst (λ (x : List (Load A) × List (Load A)). Got (map number (from i x.0))
        (map number (from i x.1)) k) (λ u. (kj.got_box u, kj.got u))
        (subst (λ (x : Entry A). Got (map number (from i x.got_box))
        (map number (from i x.got)) k) (sym (is_ledger j f.0 f.1)) got)

    all_home : AllCame n es → (k : ℕ) → k ≤ n * m → home_count n m R.world.place k ≡ k
    all_home all zero few = refl
    all_home all (suc k) few = let i = in_queues k (omega arith) in
        let before = all_home all k (omega arith) in
        let here : homed n m k (R.world.place k) ≡ 1 = dite (dec_le n i.0)
        (λ far. let f = fit_of (Fits n m s.homes i.0) (R.world.chain i.0)
        (R.laid.queues i.0 i.2).each k i.3 in
        ap (homed n m k) i.1 ∙ pick_yes (ℕ_discrete i.0 (n + k / m)) 1 0
        (sym (f.2.2.1 far).1 ∙ ap (λ d. n + d / m) (sym f.1)))
        (λ near. absurd (subst (Has k)
        (none_left n m some R.world s.words s.homes R.laid R.turns i.0 (lt_of_not-le near)
        (received all i.0 (lt_of_not-le near))) i.3)) in
        omega arith

    pub whole : AllCame n es → vacant items (n * m) ≡ n * m
    whole all = counted (n * m) (omega arith) ∙ all_home all (n * m) (omega arith)
