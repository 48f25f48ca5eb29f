-- Each kind of step on a box's flag keeps the rule, whatever the other ranks did.
use Rattle.std.proofs.Common.{◌≡◌, ◌≢◌, ℕ, suc, ◌+◌, ◌-◌, ◌*◌, ◌%◌, ◌<◌, Bool, true, false, Option}
use Rattle.std.proofs.Common.{Some, None, List, [], ◌∷◌, length, set, sym, refl, ap, ◌∙◌}
use Rattle.std.proofs.Common.{subst, arith, get_or-set_same}
use Rattle.std.proofs.lemmas.List.{set-get_or}
use Rattle.std.specs.Prelude.{slice_index}
use mathlib.Core.Option as maybe
use mathlib.Core.Logic.{dite}
use native.Mathlib.Decide.{ℕ_discrete}
use lib.ListN.{get_elem?}
use Rattle.atomic_table.specs.Table.{State, step, keeps, takes, gives, Act, Allows, Valid}
use Rattle.atomic_table.specs.Table.{carried_after, stepped}
use Rattle.nm_chain.specs.declared.seats.views.View.{View}
use Rattle.nm_chain.specs.Spoken.{view}
use Rattle.nm_types.specs.Sizes.{Sizes}
use Rattle.nm_chain.specs.declared.table.table.Entry.{Entry}
use Rattle.nm_chain.specs.Rule.{IsShort}
use Rattle.nm_chain.specs.Rule.{Load, put_to, sender, from, number, sent_to}
use Rattle.nm_chain.specs.Rule.{box_slot, filling_of, emptying_of, Rule}
use Rattle.nm_chain.specs.NextBox.{BoxesApart}
use Rattle.nm_chain.specs.Plays as plays
use Rattle.nm_chain.proofs.SeatLemmas.{own, own_told, only}
use Rattle.nm_chain.proofs.BoxLemmas.{some_is}
use Rattle.nm_chain.proofs.BoxFillLemmas as fills
use Rattle.nm_chain.proofs.BoxEmptyLemmas as empties
use Rattle.nm_chain.proofs.BoxApartLemmas.{apart_after}

module _ {A : Type 0} where
  none_some : (y : Load A) → None ≡ Some y → ⊥
  none_some y e = cc

module _ {A : Type 0} (boxable : A → Bool) (key : Sizes) (slots id : ℕ) (e : Entry A)
    (low : e.rank < key.ranks) (peer : ℕ)
    (few : peer < key.ranks) where
  abbrev n : ℕ
  n = key.ranks

  abbrev m : ℕ
  m = key.cells

  -- the box that the rank fills next for the other, and the one that it empties next of the other
  abbrev out_slot : ℕ
  out_slot = fills.out_slot boxable key slots id e low peer few

  abbrev in_slot : ℕ
  in_slot = empties.in_slot boxable key slots id e low peer few

  abbrev here : List (ℕ × Load A) → plays.Knowing A
  here hs = (view (e ∷ []), hs)

  -- what a step of the seat owes
  abbrev Owed : State (Load A) (View (Entry A)) → ℕ → ℕ → List (ℕ × Load A) → ((plays.Knowing A) → Type 0)
      → Type 0
  Owed s i x hs then = (v : View (Entry A)) × (a : Act (Load A)) × Valid s.homes hs a
      × Rule boxable key (stepped s i x id hs v a) × then (v, carried_after hs a)

  loaded : (s : State (Load A) (View (Entry A))) (i : ℕ) (hs : List (maybe.Option (Load A)))
      (vs : List (View (Entry A))) → Rule boxable key record { words = s.words; homes = hs; views = vs }
      → Rule boxable key record { words = set s.words i (slice_index s.words i); homes = hs; views = vs }
  loaded s i hs vs R = subst (λ ws. Rule boxable key record { words = ws; homes = hs; views = vs })
      (sym (set-get_or s.words i 0)) R

  -- the words of their flags
  out_named : (s : State (Load A) (View (Entry A))) (R : Rule boxable key s)
      → get_elem? s.views id ≡ maybe.some (view (e ∷ []))
      → plays.IsFlag true peer e (4 * n + out_slot)
  out_named s R at = let k = own key s R id e at low in λ i. 4 * sym k.ranks i + box_slot
      (sym k.ranks i) (sym k.per i) e.rank peer (length (put_to peer e.put_box) % 4)

  in_named : (s : State (Load A) (View (Entry A))) (R : Rule boxable key s)
      → get_elem? s.views id ≡ maybe.some (view (e ∷ []))
      → plays.IsFlag false peer e (4 * n + in_slot)
  in_named s R at = let k = own key s R id e at low in λ i. 4 * sym k.ranks i + box_slot
      (sym k.ranks i) (sym k.per i) peer e.rank (length (from peer e.got_box) % 4)

  look_out_kept : (hs : List (ℕ × Load A)) → Allows (Rule boxable key) slots id (here hs) (4 * n + out_slot)
      (λ u. u) (plays.looked_out peer (step slots (4 * n + out_slot) 0 0 maybe.none) (here hs))
  look_out_kept hs s R long at small = let ke = own key s R id e at low in
      let i = 4 * n + out_slot in let found = slice_index s.words i in
      let c = (4 * n + out_slot) - 4 * e.ranks in
      let at_slot : c ≡ out_slot = (let rs = ke.ranks in omega arith) in
      dite (ℕ_discrete found 0)
      (λ zeroed. by_lid s R at c at_slot zeroed (filling_of e peer) refl)
      (λ some. (
        view (plays.with_box_full peer e ∷ []),
        keeps,
        tt,
        only key s R id e at low i (plays.with_box_full peer e)
            (fills.full_known boxable key slots id e low peer few s R at)
            (own_told key s R id e at low),
        (out_named s R at, ((λ z. absurd (some z)), (λ _. refl))),
      ))
    where
      now_filling : (s : State (Load A) (View (Entry A))) (R : Rule boxable key s)
          → get_elem? s.views id ≡ maybe.some (view (e ∷ []))
          → filling_of (plays.with_filling peer true e) peer ≡ true
      now_filling s R at = get_or-set_same e.filling peer true false
          (let o = (own key s R id e at low).outs in omega arith)

      by_lid : (s : State (Load A) (View (Entry A))) (R : Rule boxable key s)
          (at : get_elem? s.views id ≡ maybe.some (view (e ∷ []))) (c : ℕ) → c ≡ out_slot
          → slice_index s.words (4 * n + out_slot) ≡ 0 → (b : Bool) → filling_of e peer ≡ b
          → Owed s (4 * n + out_slot) (slice_index s.words (4 * n + out_slot)) hs
          (λ after. plays.IsFlag true peer e (4 * n + out_slot)
          × ((slice_index s.words (4 * n + out_slot) ≡ 0
          → (filling_of (plays.mine after) peer ≡ true)
          × (after ≡ (
            view (plays.with_filling peer true e ∷ []),
            plays.slots_to_fill (filling_of e peer) c hs,
          )) × BoxesApart (plays.mine after)) × (0 < slice_index s.words (4 * n + out_slot)
          → after ≡ (view (plays.with_box_full peer e ∷ []), hs))))
      by_lid s R at c at_slot zeroed true is = let f = plays.with_filling peer true e in
          let new = only key s R id e at low (4 * n + out_slot) f
          (fills.filling_shown boxable key slots id e low peer few s R at true R.world refl refl refl refl
          refl refl refl (sym ((own key s R id e at low).filling peer few) ∙ is) (λ l ne. refl))
          (own_told key s R id e at low) in (
            view (f ∷ []),
            keeps,
            tt,
            new,
            (
              out_named s R at,
              (
                (λ _. (
                  now_filling s R at,
                  ap (λ b. (view (f ∷ []), plays.slots_to_fill b c hs)) (sym is),
                  apart_after key (set s.words (4 * n + out_slot)
                      (slice_index s.words (4 * n + out_slot))) s.homes s.views id
                      (view (e ∷ [])) f low at new,
                )),
                (λ some. absurd (omega arith)),
              ),
            ),
          )
      by_lid s R at c at_slot zeroed false is = let f = plays.with_filling peer true e in
          let new = fills.open_ruled boxable key slots id e low peer few s R at is zeroed in (
            view (f ∷ []),
            takes out_slot None,
            fills.free_home boxable key slots id e low peer few s R at is zeroed,
            loaded s (4 * n + out_slot) (set s.homes out_slot maybe.none)
                (set s.views id (view (f ∷ []))) new,
            (
              out_named s R at,
              (
                (λ _. (
                  now_filling s R at,
                  (λ i. (view (f ∷ []), plays.slots_to_fill (sym is i) (sym at_slot i) hs)),
                  apart_after key s.words (set s.homes out_slot maybe.none) s.views id
                      (view (e ∷ [])) f low at new,
                )),
                (λ some. absurd (omega arith)),
              ),
            ),
          )

  look_in_kept : (a : ℕ) (hs : List (ℕ × Load A))
      → Allows (Rule boxable key) slots id (here hs) (4 * n + in_slot) (λ u. u)
      (plays.looked_in peer a (step slots (4 * n + in_slot) 0 0 maybe.none) (here hs))
  look_in_kept a hs s R long at small = let ke = own key s R id e at low in
      let i = 4 * n + in_slot in let found = slice_index s.words i in
      let c = (4 * n + in_slot) - 4 * e.ranks in
      let at_slot : c ≡ in_slot = (let rs = ke.ranks in omega arith) in
      dite (ℕ_discrete found (suc a))
      (λ hit. by_lid s R at c at_slot hit (emptying_of e peer) refl)
      (λ other. (
        view (plays.with_box_miss peer e ∷ []),
        keeps,
        tt,
        only key s R id e at low i (plays.with_box_miss peer e)
            (empties.miss_known boxable key slots id e low peer few s R at)
            (own_told key s R id e at low),
        (
          in_named s R at,
          (
            (λ z. absurd (other z)),
            (λ _. refl),
            (λ o. empties.overdue boxable key slots id e low peer few s R at a o (R.world.waits peer e.rank) refl),
          ),
        ),
      ))
    where
      taken_now : (s : State (Load A) (View (Entry A))) (R : Rule boxable key s)
          → get_elem? s.views id ≡ maybe.some (view (e ∷ [])) → (y : Load A)
          → emptying_of (plays.with_emptying peer (Some y) e) peer ≡ Some y
      taken_now s R at y = get_or-set_same e.emptying peer (Some y) None
          (let o = (own key s R id e at low).ins in omega arith)

      by_lid : (s : State (Load A) (View (Entry A))) (R : Rule boxable key s)
          (at : get_elem? s.views id ≡ maybe.some (view (e ∷ []))) (c : ℕ) → c ≡ in_slot
          → slice_index s.words (4 * n + in_slot) ≡ suc a → (x : Option (Load A))
          → emptying_of e peer ≡ x
          → Owed s (4 * n + in_slot) (slice_index s.words (4 * n + in_slot)) hs
          (λ after. plays.IsFlag false peer e (4 * n + in_slot)
          × ((slice_index s.words (4 * n + in_slot) ≡ suc a
          → plays.IsToEmpty peer a c (here hs) after)
          × (slice_index s.words (4 * n + in_slot) ≢ suc a
          → after ≡ (view (plays.with_box_miss peer e ∷ []), hs))
          × (plays.Overdue e peer a → slice_index s.words (4 * n + in_slot) ≡ suc a)))
      by_lid s R at c at_slot hit None is =
          let st = empties.in_starts boxable key slots id e low peer few s R at a hit in let y = st.0 in
          let f = plays.with_emptying peer (Some y) e in
          let now = taken_now s R at y in let load : plays.box_load peer f ≡ y =
          ap plays.taking now in
          let new = empties.begin_ruled boxable key slots id e low peer few s R at y st.1 is st.2 in (
            view (f ∷ []),
            takes in_slot y,
            empties.full_home boxable key slots id e low peer few s R at y st.1 is st.2,
            loaded s (4 * n + in_slot) (set s.homes in_slot maybe.none)
                (set s.views id (view (f ∷ []))) new,
            (
              in_named s R at,
              (
                (λ _. (
                  now ∙ ap Some (sym load),
                  ap number load ∙ st.3,
                  ap sender load ∙ st.4,
                  (λ i. (
                    view (plays.with_emptying peer (Some (sym load i)) e ∷ []),
                    plays.slots_to_empty (sym is i) (sym at_slot i) (sym load i) hs,
                  )),
                  apart_after key s.words (set s.homes in_slot maybe.none) s.views id
                      (view (e ∷ [])) f low at new,
                  (λ z now_some. absurd (none_some z (sym is ∙ now_some))),
                )),
                (λ other. absurd (other hit)),
                (λ _. hit),
              ),
            ),
          )
      by_lid s R at c at_slot hit (Some z) is =
          let first = empties.in_first boxable key slots id e low peer few s R at z is in
          let f = plays.with_emptying peer (Some z) e in
          let now = taken_now s R at z in let load : plays.box_load peer f ≡ z =
          ap plays.taking now in let same : suc (number z) ≡ suc a = sym first.2 ∙ hit in
          let new = only key s R id e at low (4 * n + in_slot) f
          (empties.emptying_shown boxable key slots id e low peer few s R at (Some z) R.world refl refl refl
          refl refl refl refl (sym ((own key s R id e at low).emptying peer few) ∙ is)
          (λ l ne. refl)) (own_told key s R id e at low) in (
            view (f ∷ []),
            keeps,
            tt,
            new,
            (
              in_named s R at,
              (
                (λ _. (
                  now ∙ ap Some (sym load),
                  ap number load ∙ (let t : number z ≡ a = omega arith in
                      t),
                  ap sender load ∙ first.3,
                  (λ i. (
                    view (plays.with_emptying peer (Some (sym load i)) e ∷ []),
                    plays.slots_to_empty (sym is i) c (sym load i) hs,
                  )),
                  apart_after key (set s.words (4 * n + in_slot)
                      (slice_index s.words (4 * n + in_slot))) s.homes s.views id
                      (view (e ∷ [])) f low at new,
                  (λ u was. sym (some_is z u (sym is ∙ was)) ∙ sym load),
                )),
                (λ other. absurd (other hit)),
                (λ _. hit),
              ),
            ),
          )

  fill_kept : (p : Load A) (hs : List (ℕ × Load A)) → filling_of e peer ≡ true → sender p ≡ suc e.rank
      → IsShort boxable p
      → number p ≡ sent_to peer e.put_box e.put
      → Allows (Rule boxable key) slots id (here ((out_slot, p) ∷ hs)) (4 * n + out_slot)
      (λ _. suc (number p))
      (plays.boxed peer (step slots (4 * n + out_slot) (suc (number p)) 0 maybe.none)
      (here ((out_slot, p) ∷ hs)))
  fill_kept p hs at_work from_here short is s R long at small = (
    view (plays.with_put_box ((peer, p) ∷ []) (plays.with_filling peer false e) ∷ []),
    gives,
    tt,
    fills.fill_ruled boxable key slots id e low peer few s R at p at_work from_here short is,
    (out_named s R at, refl),
  )

  empty_kept : (y : Load A) (hs : List (ℕ × Load A)) → emptying_of e peer ≡ Some y
      → plays.AllBelow e peer (number y)
      → Allows (Rule boxable key) slots id (here ((in_slot, None) ∷ hs)) (4 * n + in_slot) (λ _. 0)
      (plays.unboxed peer (step slots (4 * n + in_slot) 0 0 maybe.none)
      (here ((in_slot, None) ∷ hs)))
  empty_kept y hs at_work all s R long at small = (
    view (plays.with_got_box (y ∷ []) (plays.with_emptying peer None e) ∷ []),
    gives,
    tt,
    empties.empty_ruled boxable key slots id e low peer few s R at y at_work all,
    (
      in_named s R at,
      (
        ap (λ u. (
          view (plays.with_got_box (plays.taking u ∷ [])
              (plays.with_emptying peer None e) ∷ []),
          hs,
        )) (sym at_work),
        subst (λ u. ¬ plays.Came e peer (number (plays.taking u))) (sym at_work)
            (empties.not_come boxable key slots id e low peer few s R at y at_work),
      ),
    ),
  )

-- the same for any seat that speaks for one rank, of a fabric of n ranks with m cells each
module _ {A : Type 0} (boxable : A → Bool) (key : Sizes) (n each slots id : ℕ) (me : plays.Knowing A)
    (alone : plays.Alone me)
    (ranks : key.ranks ≡ n) (cells : key.cells ≡ each) (rank : ℕ)
    (named : (plays.mine me).rank ≡ rank) (low : rank < n) (peer : ℕ) (few : peer < n)
    (place word : ℕ) where
  own_low : (plays.mine me).rank < key.ranks
  own_low = rw (ranks, named) low

  peer_low : peer < key.ranks
  peer_low = rw ranks few

  out_here : place ≡ length (put_to peer (plays.mine me).put_box)
      → box_slot n each rank peer (place % 4) ≡ out_slot boxable key slots id
      (plays.mine me) own_low peer peer_low
  out_here at i = box_slot (sym ranks i) (sym cells i) (sym named i) peer (at i % 4)

  in_here : place ≡ length (from peer (plays.mine me).got_box)
      → box_slot n each peer rank (place % 4) ≡ in_slot boxable key slots id
      (plays.mine me) own_low peer peer_low
  in_here at i = box_slot (sym ranks i) (sym cells i) peer (sym named i) (at i % 4)

  out_word : place ≡ length (put_to peer (plays.mine me).put_box)
      → word ≡ 4 * n + box_slot n each rank peer (place % 4)
      → word ≡ 4 * key.ranks + out_slot boxable key slots id (plays.mine me) own_low peer peer_low
  out_word at is = is ∙ (λ i. 4 * sym ranks i + out_here at i)

  in_word : place ≡ length (from peer (plays.mine me).got_box)
      → word ≡ 4 * n + box_slot n each peer rank (place % 4)
      → word ≡ 4 * key.ranks + in_slot boxable key slots id (plays.mine me) own_low peer peer_low
  in_word at is = is ∙ (λ i. 4 * sym ranks i + in_here at i)

  pub look_out_allowed : place ≡ length (put_to peer (plays.mine me).put_box)
      → word ≡ 4 * n + box_slot n each rank peer (place % 4)
      → Allows (Rule boxable key) slots id me word (λ u. u)
      (plays.looked_out peer (step slots word 0 0 maybe.none) me)
  look_out_allowed at is = let there =
      4 * key.ranks + out_slot boxable key slots id (plays.mine me) own_low peer peer_low in
      subst (λ k. Allows (Rule boxable key) slots id me k (λ u. u)
      (plays.looked_out peer (step slots k 0 0 maybe.none) me)) (sym (out_word at is))
      (subst (λ v. Allows (Rule boxable key) slots id (v, me.1) there (λ u. u)
      (plays.looked_out peer (step slots there 0 0 maybe.none) (v, me.1))) (sym alone)
      (look_out_kept boxable key slots id (plays.mine me) own_low peer peer_low me.1))

  pub look_in_allowed : (a : ℕ) → place ≡ length (from peer (plays.mine me).got_box)
      → word ≡ 4 * n + box_slot n each peer rank (place % 4)
      → Allows (Rule boxable key) slots id me word (λ u. u)
      (plays.looked_in peer a (step slots word 0 0 maybe.none) me)
  look_in_allowed a at is = let there =
      4 * key.ranks + in_slot boxable key slots id (plays.mine me) own_low peer peer_low in
      subst (λ k. Allows (Rule boxable key) slots id me k (λ u. u)
      (plays.looked_in peer a (step slots k 0 0 maybe.none) me)) (sym (in_word at is))
      (subst (λ v. Allows (Rule boxable key) slots id (v, me.1) there (λ u. u)
      (plays.looked_in peer a (step slots there 0 0 maybe.none) (v, me.1))) (sym alone)
      (look_in_kept boxable key slots id (plays.mine me) own_low peer peer_low a me.1))

  pub fill_allowed : (p : Load A) (x : ℕ) (hs : List (ℕ × Load A))
      → me.1 ≡ (box_slot n each rank peer (place % 4), p) ∷ hs → x ≡ suc (number p)
      → place ≡ length (put_to peer (plays.mine me).put_box)
      → word ≡ 4 * n + box_slot n each rank peer (place % 4)
      → filling_of (plays.mine me) peer ≡ true → sender p ≡ suc rank → IsShort boxable p
      → number p ≡ sent_to peer (plays.mine me).put_box (plays.mine me).put
      → Allows (Rule boxable key) slots id me word (λ _. x)
      (plays.boxed peer (step slots word x 0 maybe.none) me)
  fill_allowed p x hs has value at is at_work from_here short next = let there =
      4 * key.ranks + out_slot boxable key slots id (plays.mine me) own_low peer peer_low in
      let same : me ≡ (
        view (plays.mine me ∷ []),
        (out_slot boxable key slots id (plays.mine me) own_low peer peer_low, p) ∷ hs,
      ) =
      λ i. (alone i, (has ∙ ap (λ c. (c, p) ∷ hs) (out_here at)) i) in
      subst (λ k. Allows (Rule boxable key) slots id me k (λ _. x)
      (plays.boxed peer (step slots k x 0 maybe.none) me)) (sym (out_word at is))
      (subst (λ y. Allows (Rule boxable key) slots id me there (λ _. y)
      (plays.boxed peer (step slots there y 0 maybe.none) me)) (sym value)
      (subst (λ m. Allows (Rule boxable key) slots id m there (λ _. suc (number p))
      (plays.boxed peer (step slots there (suc (number p)) 0 maybe.none) m)) (sym same)
      (fill_kept boxable key slots id (plays.mine me) own_low peer peer_low p hs at_work
      (from_here ∙ ap suc (sym named)) short next)))

  pub empty_allowed : (y : Load A) (hs : List (ℕ × Load A))
      → me.1 ≡ (box_slot n each peer rank (place % 4), None) ∷ hs
      → place ≡ length (from peer (plays.mine me).got_box)
      → word ≡ 4 * n + box_slot n each peer rank (place % 4)
      → emptying_of (plays.mine me) peer ≡ Some y → plays.AllBelow (plays.mine me) peer (number y)
      → Allows (Rule boxable key) slots id me word (λ _. 0)
      (plays.unboxed peer (step slots word 0 0 maybe.none) me)
  empty_allowed y hs has at is at_work all = let there =
      4 * key.ranks + in_slot boxable key slots id (plays.mine me) own_low peer peer_low in
      let same : me ≡ (
        view (plays.mine me ∷ []),
        (in_slot boxable key slots id (plays.mine me) own_low peer peer_low, None) ∷ hs,
      ) =
      λ i. (alone i, (has ∙ ap (λ c. (c, None) ∷ hs) (in_here at)) i) in
      subst (λ k. Allows (Rule boxable key) slots id me k (λ _. 0)
      (plays.unboxed peer (step slots k 0 0 maybe.none) me)) (sym (in_word at is))
      (subst (λ m. Allows (Rule boxable key) slots id m there (λ _. 0)
      (plays.unboxed peer (step slots there 0 0 maybe.none) m)) (sym same)
      (empty_kept boxable key slots id (plays.mine me) own_low peer peer_low y hs at_work all))
