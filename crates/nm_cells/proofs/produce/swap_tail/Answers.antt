use Rattle.std.proofs.Common.{◌≡◌, [], ◌∷◌, suc, ◌+◌, ◌-◌, ◌*◌, ◌<◌, None, length, sym, ap}
use Rattle.std.proofs.Common.{◌∙◌, ◌≤◌, refl, set, subst, arith, length-set, get_or-set_same}
use Rattle.std.specs.Prelude.{vec_capacity, slice_index_or, remove}
use Rattle.atomic_table.specs.Table.{rest}
use Rattle.nm_chain.specs.Chain.{item}
use Rattle.nm_chain.specs.Spoken.{view}
use Rattle.nm_chain.specs.Update.{update}
use Rattle.nm_chain.specs.declared.table.table.Hand.TheVariants.{Away, Entering}
use Rattle.nm_chain.specs.Rule.{Suits, sender, number, sent_to, posted}
use Rattle.nm_chain.specs.Plays.{mine, sole, with_hand, with_put, first_load}
use Rattle.nm_cells.specs.Ports.{knows, holding, rank_of_queue, posted_in}
use Rattle.nm_cells.specs.Ports.{HasRoomFor}
use Rattle.nm_cells.specs.Counted.{CountsFor, peer_in, all_unpassed}
use Rattle.nm_chain.proofs.ProducerLemmas.{swap_allowed}
use Rattle.nm_cells.proofs.PortLemmas.{CarriesFor, swapped_carries, swapped_holds, posted_is}
use Rattle.nm_cells.proofs.PortLemmas.{sent_counts, room_for, sent_taken, may_suits, may_low}
use Rattle.nm_cells.specs.AtWork.{HoldsBoxes}
use Rattle.nm_chain.specs.Plays.{Knowing}
use Rattle.nm_cells.proofs.BoxPortLemmas.{boxes_popped}
use Rattle.nm_cells.specs.LooseCells.{IsAmong, AreKept}
use Rattle.nm_cells.proofs.LooseLemmas.{kept_hand, kept_pop}
use Rattle.nm_cells.proofs.produce.swap_tail.Goals as goal

pub swap-found-requires : goal.swap-found-requires
swap-found-requires g c = let f = c.args.f.now in let old = c.args.port.now in
    let p = c.bring_cell.new.port in let z = f.sizes.0 in let v = c.bring_cell.ensures.seat.1 in
    let k = c.args.cell.number in let y = holding old k in
    let m = may_suits f old c.args.q k y c.requires.may in let q = c.number_of-queue.result in
    let is = c.number_of-queue.ensures.value in
    let few = c.number_of-queue.ensures.low in
    let low : 2 * f.ranks + q < f.board.shared.table_id.words = omega arith in
    let own = c.bring_cell.ensures.same.0 in
    let sends = subst (λ t. t < f.ranks → (sender y ≡ suc old.rank)
    × (number y ≡ sent_to t (knows old).put_box (knows old).put)) (sym is) m.1 in rw c.tail_word-word.ensures (
      c.bring_cell.ensures.seat.0 ∙ c.requires.owns.0,
      low,
      swap_allowed _ f.board.shared.key f.ranks f.each f.board.shared.table_id.slots p.seat.id
          p.seat.me p.alone f.shape.0 f.shape.1
          (subst (λ t. t < f.ranks) (sym own ∙ sym p.named) c.requires.owns.1) k
          c.requires.in_hand.0 q y (rest p.seat.me.1) c.bring_cell.ensures.front few
          (ap (λ u. slice_index_or (sole u.entries).hands k Away) v ∙ c.requires.ready)
          (subst (λ t. Suits f.ranks f.each t (item k y)) (sym is) m.0)
          (λ l. (
            (sends l).0 ∙ ap suc (sym own ∙ sym p.named),
            subst (λ u. number y ≡ sent_to q (sole u.entries).put_box (sole u.entries).put)
                (sym v) (sends l).1,
          )),
    )

pub count_put-requires : goal.count_put-requires
count_put-requires g c = let f = c.args.f.now in let old = c.args.port.now in
    let k = c.args.cell.number in
    subst (λ ps. HasRoomFor c.args.q ps.items) (sym c.bring_cell.ensures.same.1)
    (room_for f old c.args.q k (holding old k) c.requires.may c.requires.owns.2 old.counts)

pub invariant_of-port-clause-carries : goal.invariant_of-port-clause-carries
invariant_of-port-clause-carries g c = let p = c.bring_cell.new.port in
    let k = c.args.cell.number in let v = c.bring_cell.ensures.seat.1 in let e = knows p in
    let low = subst (λ n. k < n)
    (sym (ap (λ u. length (sole u.entries).hands) v ∙ c.requires.owns.4)) c.requires.in_hand.0
    in
    let one : (k + 1) - 1 ≡ k = omega arith in
    let q = c.tail_word-word.result - 2 * e.ranks in
    subst (λ l. CarriesFor c.swap-found.new.seat.me l (vec_capacity c.remove.new.self) p.hands)
    (sym c.remove.ensures.items)
    (subst (λ r. CarriesFor c.swap-found.new.seat.me (remove p.carried.items 0) r p.hands)
    (sym c.remove.ensures.capacity)
    (swapped_carries p.seat.me c.swap-found.new.seat.me p.carried.items
    (vec_capacity p.carried) p.hands p.carries k q c.swap-found.result
    (holding c.args.port.now k) (holding c.args.port.now k)
    (posted e.ranks q (first_load p.seat.me.1))
    (c.swap-found.ensures.2.3
    ∙ ap (λ d. (
      view (with_put (posted e.ranks q (first_load p.seat.me.1))
          (with_hand d (Entering q c.swap-found.result) e) ∷ []),
      rest p.seat.me.1,
    )) one)
    c.bring_cell.ensures.front low (ap (λ u. slice_index_or (sole u.entries).hands k Away) v
    ∙ c.requires.ready)))

pub invariant_of-port-clause-counts : goal.invariant_of-port-clause-counts
invariant_of-port-clause-counts g c = let f = c.args.f.now in let p = c.bring_cell.new.port in
    let k = c.args.cell.number in let v = c.bring_cell.ensures.seat.1 in let e = knows p in
    let q = c.tail_word-word.result - 2 * e.ranks in
    let y = holding c.args.port.now k in let same = ap (λ u. (sole u.entries).ranks) v
    ∙ c.requires.owns.2 in
    let low = may_low f c.args.port.now c.args.q k y c.requires.may in
    let is_word = c.tail_word-word.ensures in let at : q ≡ c.number_of-queue.result = omega arith in
    let posts : posted e.ranks q (first_load p.seat.me.1) ≡ posted_in c.args.q y =
    (λ i. posted (same i) ((at ∙ c.number_of-queue.ensures.value) i)
    (first_load (c.bring_cell.ensures.front i))) ∙ posted_is f.ranks c.args.q y low in
    subst (λ l. ∥ CountsFor (mine c.swap-found.new.seat.me) l p.held ∥₁) (sym c.count_put.ensures)
    (sent_counts p.seat.me c.swap-found.new.seat.me p.peers.items p.held c.args.q y ((k + 1) - 1)
    (Entering q c.swap-found.result) (rest p.seat.me.1)
    (c.swap-found.ensures.2.3
    ∙ ap (λ xs. (
      view (with_put xs
          (with_hand ((k + 1) - 1) (Entering q c.swap-found.result) e) ∷ []),
      rest p.seat.me.1,
    ))
    posts)
    (subst (λ n. rank_of_queue c.args.q < n) (sym same) low) p.counts)

pub returns-clause-given : goal.returns-clause-given
returns-clause-given g c = let p = c.bring_cell.new.port in let k = c.args.cell.number in
    let v = c.bring_cell.ensures.seat.1 in let e = knows p in
    let low = subst (λ n. k < n)
    (sym (ap (λ u. length (sole u.entries).hands) v ∙ c.requires.owns.4)) c.requires.in_hand.0
    in
    let one : (k + 1) - 1 ≡ k = omega arith in
    let q = c.tail_word-word.result - 2 * e.ranks in
    swapped_holds p.seat.me c.swap-found.new.seat.me p.carried.items
    (vec_capacity p.carried) p.hands p.carries k q c.swap-found.result
    (holding c.args.port.now k) (holding c.args.port.now k)
    (posted e.ranks q (first_load p.seat.me.1))
    (c.swap-found.ensures.2.3
    ∙ ap (λ d. (
      view (with_put (posted e.ranks q (first_load p.seat.me.1))
          (with_hand d (Entering q c.swap-found.result) e) ∷ []),
      rest p.seat.me.1,
    )) one)
    c.bring_cell.ensures.front low (ap (λ u. slice_index_or (sole u.entries).hands k Away) v
    ∙ c.requires.ready)
    ∙ ap (λ h. update h k None) c.bring_cell.ensures.holding

pub returns-clause-stays : goal.returns-clause-stays
returns-clause-stays g c = let f = c.args.f.now in let p = c.bring_cell.new.port in
    let v = c.bring_cell.ensures.seat.1 in let o = c.requires.owns in let e = knows p in
    let is = c.swap-found.ensures.2.3 in let same = c.bring_cell.ensures.same in
    let k = c.args.cell.number in let room = subst (λ ps. HasRoomFor c.args.q ps.items) (sym same.1)
    (room_for f c.args.port.now c.args.q k (holding c.args.port.now k) c.requires.may o.2
    c.args.port.now.counts) in let t = sent_taken c.args.q p.peers.items room in (
      (
        c.swap-found.ensures.0 ∙ c.bring_cell.ensures.seat.0 ∙ o.0,
        subst (λ r. r < f.ranks) (sym same.0) o.1,
        ap (λ m. (mine m).ranks) is ∙ ap (λ u. (sole u.entries).ranks) v ∙ o.2,
        ap (λ m. (mine m).each) is ∙ ap (λ u. (sole u.entries).each) v ∙ o.3,
        ap (λ m. length (mine m).hands) is ∙ length-set e.hands ((k + 1) - 1)
            (Entering (c.tail_word-word.result - 2 * e.ranks) c.swap-found.result)
            ∙ ap (λ u. length (sole u.entries).hands) v ∙ o.4,
        ap (λ m. length (mine m).filling) is ∙ ap (λ u. length (sole u.entries).filling) v ∙ o.5,
        ap (λ m. length (mine m).emptying) is ∙ ap (λ u. length (sole u.entries).emptying) v ∙ o.6,
      ),
      same.0,
      (
        (λ i j. (ap (λ l. (peer_in l j).taken) c.count_put.ensures ∙ t.0 j
            ∙ ap (λ ps. (peer_in ps.items j).taken) same.1) i),
        same.2,
        ap all_unpassed c.count_put.ensures ∙ t.1 ∙ ap (λ ps. all_unpassed ps.items) same.1,
      ),
      same.4,
    )

pub invariant_of-port-clause-boxes : goal.invariant_of-port-clause-boxes
invariant_of-port-clause-boxes g c = let p = c.bring_cell.new.port in let e = knows p in
    let k = c.args.cell.number in let o = c.requires.owns in
    let v = c.bring_cell.ensures.seat.1 in
    let low = subst (λ x. k < x)
    ((λ t. sym o.2 t * sym o.3 t) ∙ (λ t. (sole (sym v t).entries).ranks
    * (sole (sym v t).entries).each)) c.requires.in_hand.0 in
    subst (λ (m : Knowing _). HoldsBoxes (mine m) m.1) (sym c.swap-found.ensures.2.3)
    (boxes_popped e (rest p.seat.me.1) k (holding c.args.port.now k) low
    (subst (HoldsBoxes e) c.bring_cell.ensures.front p.boxes))

pub invariant_of-port-clause-kept : goal.invariant_of-port-clause-kept
invariant_of-port-clause-kept g c = let p = c.bring_cell.new.port in let e = knows p in
    let k = c.args.cell.number in let one : (k + 1) - 1 ≡ k = omega arith in
    let out : ¬ IsAmong p.loose k =
    subst (λ x. ¬ IsAmong x k) (sym c.bring_cell.ensures.same.4) c.requires.in_hand.3 in
    subst (λ (m : Knowing _). AreKept p.loose (mine m) m.1) (sym c.swap-found.ensures.2.3)
    (kept_hand p.loose e (rest p.seat.me.1)
    (kept_pop p.loose e (rest p.seat.me.1) k (holding c.args.port.now k) out
    (subst (AreKept p.loose e) c.bring_cell.ensures.front p.kept)) ((k + 1) - 1) _
    (subst (λ d. ¬ IsAmong p.loose d) (sym one) out))

pub returns-clause-pending : goal.returns-clause-pending
returns-clause-pending g c = let p = c.bring_cell.new.port in let o = c.requires.owns in
    let k = c.args.cell.number in let v = c.bring_cell.ensures.seat.1 in let e = knows p in
    let found = c.swap-found.result in let n = c.number_of-queue.result in
    let most = ap (λ u. length (sole u.entries).hands) v ∙ o.4 in
    let one : (k + 1) - 1 ≡ k = omega arith in
    let q = c.tail_word-word.result - 2 * e.ranks in
    let same = ap (λ u. (sole u.entries).ranks) v ∙ o.2 in
    let is_word = c.tail_word-word.ensures in let at : q ≡ n = omega arith in (
      refl,
      (
        c.requires.in_hand.0,
        c.number_of-queue.ensures.low,
        ap (λ m. slice_index_or (mine m).hands k Away) c.swap-found.ensures.2.3
            ∙ (λ i. slice_index_or (set e.hands (one i) (Entering (at i) found)) k Away)
            ∙ get_or-set_same e.hands k (Entering n found) Away
            (subst (λ m. k < m) (sym most) c.requires.in_hand.0),
        subst (λ m. found ≤ m) most c.swap-found.ensures.2.2,
      ),
    )

pub returns-clause-put : goal.returns-clause-put
returns-clause-put g c = let f = c.args.f.now in let p = c.bring_cell.new.port in
    let k = c.args.cell.number in let v = c.bring_cell.ensures.seat.1 in let e = knows p in
    let q = c.tail_word-word.result - 2 * e.ranks in
    let y = holding c.args.port.now k in let same = ap (λ u. (sole u.entries).ranks) v
    ∙ c.requires.owns.2 in
    let low = may_low f c.args.port.now c.args.q k y c.requires.may in
    let one : (k + 1) - 1 ≡ k = omega arith in
    let is_word = c.tail_word-word.ensures in let at : q ≡ c.number_of-queue.result = omega arith in
    let posts : posted e.ranks q (first_load p.seat.me.1) ≡ posted_in c.args.q y =
    (λ i. posted (same i) ((at ∙ c.number_of-queue.ensures.value) i)
    (first_load (c.bring_cell.ensures.front i))) ∙ posted_is f.ranks c.args.q y low in
    ap mine c.swap-found.ensures.2.3
    ∙ (λ i. with_put (posts i) (with_hand (one i)
    (Entering ((at ∙ c.number_of-queue.ensures.value) i) c.swap-found.result)
    (sole (v i).entries)))
