-- Each kind of step of a producer keeps the rule, whatever the other ranks did.
use Rattle.std.proofs.Common.{Bool, ◌≡◌, ◌≢◌, ℕ, suc, ◌+◌, ◌-◌, ◌*◌, ◌<◌, ◌≤◌, List, [], ◌∷◌, ◌++◌, None}
use Rattle.std.proofs.Common.{set, sym, refl, ap, ◌∙◌, subst, ⊎_elim, arith}
use Rattle.std.proofs.Common.{length-set, get_or-set_same, get_or-set_other}
use Rattle.std.proofs.lemmas.List.{set-get_or}
use Rattle.std.specs.Prelude.{slice_index}
use mathlib.Core.Option as maybe
use mathlib.Core.Logic.{dite}
use native.Mathlib.Decide.{ℕ_discrete}
use Rattle.atomic_table.specs.Table.{State, step, keeps, takes, gives, Allows}
use Rattle.nm_chain.specs.declared.seats.views.View.{View}
use Rattle.nm_chain.specs.Spoken.{view}
use Rattle.nm_chain.proofs.UpdateLemmas.{update_here, update_else}
use Rattle.nm_chain.specs.Chain.{Begins, item, IsIn, loose, held, ready, entering, queued}
use Rattle.nm_types.specs.Sizes.{Sizes}
use Rattle.nm_chain.specs.declared.table.table.Hand.{Hand}
use Rattle.nm_chain.specs.declared.table.table.Hand.TheVariants.{Away, Loose, Held, Ready, Entering}
use Rattle.nm_chain.specs.declared.table.table.Entry.{Entry}
use Rattle.nm_chain.specs.Rule.{Chain, Load, Place, hand, NotOf, Shows}
use Rattle.nm_chain.specs.Rule.{Agrees}
use Rattle.nm_chain.specs.Rule.{sender, number, sent_to, posted, tail, IsOut, Suits, Handed}
use Rattle.nm_chain.specs.Rule.{LooksHold, Rule}
use Rattle.nm_chain.specs.Plays as plays
use Rattle.nm_chain.proofs.QueueLemmas as queues
use Rattle.nm_chain.proofs.BoxLemmas as boxes
use Rattle.nm_chain.proofs.SeatLemmas.{below_put, knows_else, place_but, hands_but, own, own_told}
use Rattle.nm_chain.proofs.SeatLemmas.{ruled_by, one_hand}

module _ {A : Type 0} where
  -- what a rank that has a cell in its hand knows of the others
  not_of : (r t : ℕ) (p : Place A) (h : Hand A) → t ≢ r → plays.InHand h → Shows r p h → NotOf t p
  not_of r t p Away ne i s = absurd i
  not_of r t p Loose ne i s = absurd i
  not_of r t p Held ne i s = subst (NotOf t) (sym s) ne
  not_of r t p (Ready y) ne i s = subst (NotOf t) (sym s) ne
  not_of r t p (Entering q u) ne i s = absurd i

  not_in : (r q : ℕ) (p : Place A) (h : Hand A) → plays.InHand h → Shows r p h → ¬ IsIn q p
  not_in r q p Away i s k = absurd i
  not_in r q p Loose i s k = absurd i
  not_in r q p Held i s k = subst (IsIn q) s k
  not_in r q p (Ready y) i s k = subst (IsIn q) s k
  not_in r q p (Entering u t) i s k = absurd i

  is_out : (n r c : ℕ) (words : List ℕ) (homes : List (maybe.Option (Load A))) (p : Place A) (h : Hand A)
      → plays.InHand h → Shows r p h → Handed n words homes c p → IsOut homes c
  is_out n r c words homes p Away i s k = absurd i
  is_out n r c words homes p Loose i s k = absurd i
  is_out n r c words homes p Held i s k = subst (Handed n words homes c) s k
  is_out n r c words homes p (Ready y) i s k = (subst (Handed n words homes c) s k).0
  is_out n r c words homes p (Entering q t) i s k = absurd i

  -- the cell of a shadow head is in its queue
  shadow_in : (place : ℕ → Place A) (q hd c : ℕ) (xs : Chain A) → Begins place q hd (suc c) xs
      → place c ≡ queued q
  shadow_in place q hd c [] b = let z : suc c ≡ 0 = b.0 in absurd (omega arith)
  shadow_in place q hd c (x ∷ xs) b = ⊎_elim
      (λ t. let z : suc c ≡ suc x.cell = t.0 in let is : c ≡ x.cell = omega arith in
      ap place is ∙ t.2)
      (⊎_elim (λ t. let z : suc c ≡ 0 = t.0 in absurd (omega arith))
      (λ t. let z : suc c ≡ 0 = t.0 in absurd (omega arith))) b

module _ {A : Type 0} (boxable : A → Bool) (key : Sizes) (slots id : ℕ) (e : Entry A)
    (low : e.rank < key.ranks) (c : ℕ)
    (few : c < key.ranks * key.cells) where
  pick_kept : (hs : List (ℕ × Load A)) → hand e c ≡ Loose
      → Allows (Rule boxable key) slots id (view (e ∷ []), hs) (4 * key.ranks + c) (λ k. k)
      (plays.picked (step slots (4 * key.ranks + c) 0 0 maybe.none) (view (e ∷ []), hs))
  pick_kept hs mine s R long at small = let k = own key s R id e at low in let w = R.world in
      let i = 4 * key.ranks + c in let nothing : Load A = None in
      let shows : w.place c ≡ loose e.rank = subst (Shows e.rank (w.place c)) mine (k.hands c few) in
      let same : set s.words i (slice_index s.words i) ≡ s.words = set-get_or s.words i 0 in
      let is : (4 * key.ranks + c) - 4 * e.ranks ≡ c = let rs = k.ranks in omega arith in (
        view (plays.with_hand c Held e ∷ []),
        takes c nothing,
        subst (Handed key.ranks s.words s.homes c) shows (R.laid.cells c few),
        subst (λ ws. Rule boxable key record {
          words = ws;
          homes = set s.homes c maybe.none;
          views = set s.views id (view (plays.with_hand c Held e ∷ []));
        }) (sym same)
            (one_hand key s R id e at low c (held e.rank) Held s.words (set s.homes c maybe.none)
            (λ _ _. refl) few low
            refl (λ r ne. (subst (NotOf r) (sym shows) ne, ne))
            (queues.picked key.ranks key.cells w s.words s.homes R.laid e.rank c few
            (λ q k. subst (IsIn q) shows k))
            (boxes.keep_slot key.ranks key.cells w s.words s.homes R.boxes c maybe.none few)),
        (
          let rs = k.ranks in let named : i ≡ 4 * e.ranks + (i - 4 * e.ranks) = omega arith in named,
          ap (λ d. (view (plays.with_hand d Held e ∷ []), (d, nothing) ∷ hs)) (sym is),
        ),
      )

  clear_kept : (hs : List (ℕ × Load A)) → plays.InHand (hand e c)
      → Allows (Rule boxable key) slots id (view (e ∷ []), hs) (4 * key.ranks + c) (λ _. 0)
      (plays.cleared (step slots (4 * key.ranks + c) 0 0 maybe.none) (view (e ∷ []), hs))
  clear_kept hs inside s R long at small = let k = own key s R id e at low in
      let shows = k.hands c few in let y = plays.load_in c hs in let w = R.world in
      let is : (4 * key.ranks + c) - 4 * e.ranks ≡ c = let rs = k.ranks in omega arith in (
        view (plays.with_hand c (Ready y) e ∷ []),
        keeps,
        tt,
        one_hand key s R id e at low c (ready e.rank y) (Ready y)
            (set s.words (4 * key.ranks + c) 0) s.homes
            (λ q fits. get_or-set_other s.words (4 * key.ranks + c) (2 * key.ranks + q) 0 0
            (omega arith)) few low refl
            (λ r ne. (not_of e.rank r (w.place c) (hand e c) ne inside shows, ne))
            (queues.cleared key.ranks key.cells w s.words s.homes R.laid e.rank c y few
            (is_out key.ranks e.rank c s.words s.homes (w.place c) (hand e c) inside shows
            (R.laid.cells c few)) (λ q. not_in e.rank q (w.place c) (hand e c) inside shows))
            (boxes.keep_word key.ranks key.cells w s.words s.homes R.boxes (4 * key.ranks + c) 0
            (omega arith)),
        (
          let rs = k.ranks in let i = 4 * key.ranks + c in
              let named : i ≡ 4 * e.ranks + (i - 4 * e.ranks) = omega arith in named,
          ap (λ d. (view (plays.with_hand d (Ready (plays.load_in d hs)) e ∷ []), hs)) (sym is),
        ),
      )

  head_kept : (q : ℕ) (hs : List (ℕ × Load A)) → q < 2 * key.ranks → hand e c ≡ Entering q 0
      → Allows (Rule boxable key) slots id (view (e ∷ []), hs) q (λ _. suc c)
      (plays.finished (step slots q (suc c) 0 maybe.none) (view (e ∷ []), hs))
  head_kept q hs fits mine s R long at small = let k = own key s R id e at low in let w = R.world in
      let shows : w.place c ≡ entering e.rank q 0 =
      subst (Shows e.rank (w.place c)) mine (k.hands c few) in (
        view (plays.with_hand c Away e ∷ []),
        keeps,
        tt,
        one_hand key s R id e at low c (queued q) Away (set s.words q (suc c)) s.homes
            (λ p _. get_or-set_other s.words q (2 * key.ranks + p) (suc c) 0 (omega arith)) few tt tt
            (λ r ne. (subst (NotOf r) (sym shows) ne, tt))
            (queues.headed key.ranks key.cells w s.words s.homes R.laid e.rank c q fits few shows)
            (boxes.keep_word key.ranks key.cells w s.words s.homes R.boxes q (suc c) (omega arith)),
        (let is : c ≡ suc c - 1 = omega arith in (
          ap (plays.end_word e.ranks) (sym mine) ∙ ap (λ d. plays.end_word e.ranks (hand e d)) is,
          ap (λ d. (view (plays.with_hand d Away e ∷ []), hs)) is,
        )),
      )

  link_kept : (q p : ℕ) (hs : List (ℕ × Load A)) → q < 2 * key.ranks → hand e c ≡ Entering q (suc p)
      → Allows (Rule boxable key) slots id (view (e ∷ []), hs) (4 * key.ranks + p) (λ _. suc c)
      (plays.finished (step slots (4 * key.ranks + p) (suc c) 0 maybe.none) (view (e ∷ []), hs))
  link_kept q p hs fits mine s R long at small = let k = own key s R id e at low in
      let w = R.world in let shows : w.place c ≡ entering e.rank q (suc p) =
      subst (Shows e.rank (w.place c)) mine (k.hands c few) in (
        view (plays.with_hand c Away e ∷ []),
        keeps,
        tt,
        one_hand key s R id e at low c (queued q) Away (set s.words (4 * key.ranks + p) (suc c)) s.homes
            (λ t low. get_or-set_other s.words (4 * key.ranks + p) (2 * key.ranks + t) (suc c) 0
            (omega arith)) few tt tt (λ r ne. (subst (NotOf r) (sym shows) ne, tt))
            (queues.joined key.ranks key.cells w s.words s.homes R.laid e.rank c p q fits few shows)
            (boxes.keep_word key.ranks key.cells w s.words s.homes R.boxes (4 * key.ranks + p) (suc c)
            (let z = queues.found_low key.ranks key.cells w s.words s.homes R.laid e.rank c p q fits
            shows in omega arith)),
        (let is : c ≡ suc c - 1 = omega arith in (
          ap (λ u. 4 * u + p) (sym k.ranks) ∙ ap (plays.end_word e.ranks) (sym mine)
              ∙ ap (λ d. plays.end_word e.ranks (hand e d)) is,
          ap (λ d. (view (plays.with_hand d Away e ∷ []), hs)) is,
        )),
      )

  -- a tail that is now a cell of the rank's own hand is no shadow head
  swap_told : (s : State (Load A) (View (Entry A))) (R : Rule boxable key s) (q : ℕ) (y : Load A) → q < 2 * key.ranks
      → R.world.place c ≡ ready e.rank y → (r : ℕ) (g : Entry A) → r < key.ranks
      → Agrees key.ranks key.cells R.world r g → LooksHold key.ranks s.words r g
      → LooksHold key.ranks (set s.words (2 * key.ranks + q) (suc c)) r g
  swap_told s R q y fits shows r g low' k t = let n = key.ranks in
      let words' = set s.words (2 * n + q) (suc c) in
      let one : (p shadow : ℕ) → p < 2 * n → shadow ≡ (R.world.heads p).shadow
      → (0 < shadow) × (tail n s.words p ≢ shadow) → (0 < shadow) × (tail n words' p ≢ shadow) =
      λ p shadow few_p is o. (
        o.0,
        (λ z. dite (ℕ_discrete p q)
            (λ u. let long = R.laid.long in let at : 2 * n + p ≡ 2 * n + q = omega arith in
            let now : tail n words' p ≡ suc c = ap (λ j. slice_index words' j) at
            ∙ get_or-set_same s.words (2 * n + q) (suc c) 0 (omega arith) in
            let shade : (R.world.heads p).shadow ≡ suc c = sym is ∙ sym z ∙ now in
            let there = shadow_in R.world.place p (slice_index s.words p) c (R.world.chain p)
            (subst (λ j. Begins R.world.place p (slice_index s.words p) j (R.world.chain p)) shade
            (R.laid.queues p few_p).begins) in let no = sym shows ∙ there in cc)
            (λ ne. o.1 (sym (get_or-set_other s.words (2 * n + q) (2 * n + p) (suc c) 0 (omega arith))
            ∙ z))),
      ) in (
        (λ l. one r g.receive.shadow (omega arith) (ap (λ x. x.shadow) k.receive) (t.0 l)),
        (λ l. one (n + r) g.free.shadow (omega arith) (ap (λ x. x.shadow) k.free) (t.1 l)),
      )

  swap_kept : (q : ℕ) (y : Load A) (hs : List (ℕ × Load A)) → q < 2 * key.ranks → hand e c ≡ Ready y
      → Suits key.ranks key.cells q (item c y)
      → (q < key.ranks → (sender y ≡ suc e.rank) × (number y ≡ sent_to q e.put_box e.put))
      → Allows (Rule boxable key) slots id (view (e ∷ []), (c, y) ∷ hs) (2 * key.ranks + q) (λ _. suc c)
      (plays.swapped (step slots (2 * key.ranks + q) (suc c) 0 maybe.none) (
        view (e ∷ []),
        (c, y) ∷ hs,
      ))
  swap_kept q y hs fits mine suits from s R long at small = let k = own key s R id e at low in
      let w = R.world in let shows : w.place c ≡ ready e.rank y =
      subst (Shows e.rank (w.place c)) mine (k.hands c few) in
      let t = tail key.ranks s.words q in
      let w' = queues.after_swap key.ranks key.cells w s.words s.homes R.laid e.rank q c y in
      let p : Place A = entering e.rank q t in
      let f : Entry A = plays.with_put (posted key.ranks q y) (plays.with_hand c (Entering q t) e) in (
        view (f ∷ []),
        gives,
        tt,
        ruled_by key s R id e at low w' f (set s.words (2 * key.ranks + q) (suc c))
            (set s.homes c (maybe.some y)) (below_put key.ranks w.place c p low R.ranked)
            (queues.swapped key.ranks key.cells w s.words s.homes R.laid e.rank q c y fits few shows
            suits (λ l. (from l).0))
            (boxes.keep_both key.ranks key.cells w s.words s.homes R.boxes (2 * key.ranks + q) c
            (suc c) (maybe.some y) (omega arith) few)
            (boxes.turns_more key.ranks w R.turns e.rank q (item c y)
            (λ l. (
              (from l).0,
              (from l).1 ∙ ap (λ u. sent_to q u e.put) k.put_box
                  ∙ ap (sent_to q (w.put_box e.rank)) k.put,
            )) w' refl refl refl refl refl refl)
            record {
              rank = k.rank;
              ranks = k.ranks;
              per = k.per;
              long = length-set e.hands c (Entering q t) ∙ k.long;
              hands = hands_but key.ranks key.cells w e.rank c p (Entering q t) e k few refl;
              receive = k.receive;
              free = k.free;
              put = ap (λ xs. xs ++ posted key.ranks q y) k.put
                  ∙ sym (update_here w.put e.rank (w.put e.rank ++ posted key.ranks q y) e.rank
                  refl);
              got = k.got;
              put_box = k.put_box;
              got_box = k.got_box;
              outs = k.outs;
              ins = k.ins;
              filling = k.filling;
              emptying = k.emptying;
            }
            (λ r g _ ne o. knows_else key.ranks key.cells w w' r g o
            (place_but key.ranks key.cells w r c p (subst (NotOf r) (sym shows) ne) ne) refl
            refl (update_else w.put e.rank (w.put e.rank ++ posted key.ranks q y) r ne) refl
            refl refl refl (λ _. refl))
            (swap_told s R q y fits shows e.rank e low k (own_told key s R id e at low))
            (λ r g few' _ o t. swap_told s R q y fits shows r g few' o t),
        (
          let rs = k.ranks in let i = 2 * key.ranks + q in
              let named : i ≡ 2 * e.ranks + (i - 2 * e.ranks) = omega arith in named,
          let rs = k.ranks in let i = 2 * key.ranks + q in
              let fits' : (i - 2 * e.ranks) < 2 * e.ranks = omega arith in fits',
          subst (λ u. t ≤ u) (sym k.long)
              (queues.tail_low key.ranks key.cells w s.words s.homes R.laid q fits),
          let is : c ≡ suc c - 1 = omega arith in let rs = k.ranks in
              let at_q : q ≡ (2 * key.ranks + q) - 2 * e.ranks = omega arith in
              λ i. (
                view (plays.with_put (posted (sym rs i) (at_q i) y)
                    (plays.with_hand (is i) (Entering (at_q i) t) e) ∷ []),
                hs,
              ),
        ),
      )

-- the same for any seat that spoken_of for one rank, of a fabric of n ranks with m cells
module _ {A : Type 0} (boxable : A → Bool) (key : Sizes) (n each slots id : ℕ) (me : plays.Knowing A)
    (alone : plays.Alone me)
    (ranks : key.ranks ≡ n) (cells : key.cells ≡ each) (low : (plays.mine me).rank < n) (c : ℕ)
    (few : c < n * each) where
  low' : (plays.mine me).rank < key.ranks
  low' = rw ranks low

  few' : c < key.ranks * key.cells
  few' = rw (ranks, cells) few

  pub pick_allowed : hand (plays.mine me) c ≡ Loose
      → Allows (Rule boxable key) slots id me (4 * n + c) (λ k. k)
      (plays.picked (step slots (4 * n + c) 0 0 maybe.none) me)
  pick_allowed mine =
      subst (λ k. Allows (Rule boxable key) slots id me (4 * k + c) (λ j. j)
      (plays.picked (step slots (4 * k + c) 0 0 maybe.none) me)) ranks
      (subst (λ v. Allows (Rule boxable key) slots id (v, me.1) (4 * key.ranks + c) (λ k. k)
      (plays.picked (step slots (4 * key.ranks + c) 0 0 maybe.none) (v, me.1))) (sym alone)
      (pick_kept boxable key slots id (plays.mine me) low' c few' me.1 mine))

  pub clear_allowed : plays.InHand (hand (plays.mine me) c)
      → Allows (Rule boxable key) slots id me (4 * n + c) (λ _. 0)
      (plays.cleared (step slots (4 * n + c) 0 0 maybe.none) me)
  clear_allowed inside =
      subst (λ k. Allows (Rule boxable key) slots id me (4 * k + c) (λ _. 0)
      (plays.cleared (step slots (4 * k + c) 0 0 maybe.none) me)) ranks
      (subst (λ v. Allows (Rule boxable key) slots id (v, me.1) (4 * key.ranks + c) (λ _. 0)
      (plays.cleared (step slots (4 * key.ranks + c) 0 0 maybe.none) (v, me.1))) (sym alone)
      (clear_kept boxable key slots id (plays.mine me) low' c few' me.1 inside))

  -- the cell's number plus 1, as the program writes it
  pub head_allowed : (q : ℕ) → q < 2 * n → hand (plays.mine me) c ≡ Entering q 0
      → Allows (Rule boxable key) slots id me q (λ _. c + 1)
      (plays.finished (step slots q (c + 1) 0 maybe.none) me)
  head_allowed q fits mine =
      subst (λ k. Allows (Rule boxable key) slots id me q (λ _. k)
      (plays.finished (step slots q k 0 maybe.none) me)) (let e : suc c ≡ c + 1 = omega arith in e)
      (subst (λ v. Allows (Rule boxable key) slots id (v, me.1) q (λ _. suc c)
      (plays.finished (step slots q (suc c) 0 maybe.none) (v, me.1))) (sym alone)
      (head_kept boxable key slots id (plays.mine me) low' c few' q me.1 (rw ranks fits) mine))

  pub link_allowed : (q p : ℕ) → q < 2 * n → hand (plays.mine me) c ≡ Entering q (suc p)
      → Allows (Rule boxable key) slots id me (4 * n + p) (λ _. c + 1)
      (plays.finished (step slots (4 * n + p) (c + 1) 0 maybe.none) me)
  link_allowed q p fits mine =
      subst (λ k. Allows (Rule boxable key) slots id me (4 * k + p) (λ _. c + 1)
      (plays.finished (step slots (4 * k + p) (c + 1) 0 maybe.none) me)) ranks
      (subst (λ k. Allows (Rule boxable key) slots id me (4 * key.ranks + p) (λ _. k)
      (plays.finished (step slots (4 * key.ranks + p) k 0 maybe.none) me))
      (let e : suc c ≡ c + 1 = omega arith in e)
      (subst (λ v. Allows (Rule boxable key) slots id (v, me.1) (4 * key.ranks + p) (λ _. suc c)
      (plays.finished (step slots (4 * key.ranks + p) (suc c) 0 maybe.none) (v, me.1)))
      (sym alone)
      (link_kept boxable key slots id (plays.mine me) low' c few' q p me.1 (rw ranks fits) mine)))

  pub swap_allowed : (q : ℕ) (y : Load A) (hs : List (ℕ × Load A)) → me.1 ≡ (c, y) ∷ hs → q < 2 * n
      → hand (plays.mine me) c ≡ Ready y → Suits n each q (item c y)
      → (q < n → (sender y ≡ suc (plays.mine me).rank)
      × (number y ≡ sent_to q (plays.mine me).put_box (plays.mine me).put))
      → Allows (Rule boxable key) slots id me (2 * n + q) (λ _. c + 1)
      (plays.swapped (step slots (2 * n + q) (c + 1) 0 maybe.none) me)
  swap_allowed q y hs has fits mine suits from =
      subst (λ k. Allows (Rule boxable key) slots id me (2 * k + q) (λ _. c + 1)
      (plays.swapped (step slots (2 * k + q) (c + 1) 0 maybe.none) me)) ranks
      (subst (λ k. Allows (Rule boxable key) slots id me (2 * key.ranks + q) (λ _. k)
      (plays.swapped (step slots (2 * key.ranks + q) k 0 maybe.none) me))
      (let e : suc c ≡ c + 1 = omega arith in e)
      (let same : me ≡ (view (plays.mine me ∷ []), (c, y) ∷ hs) = λ i. (alone i, has i) in
      subst (λ m. Allows (Rule boxable key) slots id m (2 * key.ranks + q) (λ _. suc c)
      (plays.swapped (step slots (2 * key.ranks + q) (suc c) 0 maybe.none) m)) (sym same)
      (swap_kept boxable key slots id (plays.mine me) low' c few' q y hs (rw ranks fits) mine
      (subst (λ k. Suits k key.cells q (item c y)) (sym ranks)
      (subst (λ k. Suits n k q (item c y)) (sym cells) suits))
      (subst (λ k. q < k → (sender y ≡ suc (plays.mine me).rank)
      × (number y ≡ sent_to q (plays.mine me).put_box (plays.mine me).put)) (sym ranks) from))))
