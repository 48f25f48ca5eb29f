use Rattle.std.proofs.Common.{◌≡◌, [], ◌∷◌, ◌+◌, ◌-◌, ◌*◌, ◌/◌, ◌<◌, None, sym, ap, ◌∙◌, subst, arith}
use Rattle.std.specs.Prelude.{vec_capacity}
use Rattle.nm_chain.specs.Spoken.{view}
use Rattle.nm_chain.specs.declared.table.table.Hand.TheVariants.{Held}
use Rattle.nm_chain.specs.Plays.{with_hand}
use Rattle.nm_chain.proofs.ProducerLemmas.{pick_allowed}
use Rattle.nm_cells.specs.Ports.{knows}
use Rattle.nm_cells.proofs.BeginLemmas.{picked_room, picked_carries, picked_boxes, picked_kept}
use Rattle.nm_cells.proofs.PortLemmas.{CarriesFor}
use Rattle.nm_cells.proofs.loose.pick_up.Goals as goal

pub load-requires : goal.load-requires
load-requires g c = let f = c.args.f.now in let p = c.args.port.now in
    let few = c.requires.low in let z = f.sizes.0 in
    let low : 4 * f.ranks + p.loose.end < f.board.shared.table_id.words = omega arith in rw c.link_word-word.ensures (
      c.requires.owns.0,
      low,
      pick_allowed _ f.board.shared.key f.ranks f.each f.board.shared.table_id.slots p.seat.id
          p.seat.me p.alone f.shape.0 f.shape.1
          (subst (λ k. k < f.ranks) (sym p.named) c.requires.owns.1) p.loose.end few
          c.requires.untouched,
    )

pub carry-requires : goal.carry-requires
carry-requires g c = let f = c.args.f.now in let p = c.args.port.now in let e = knows p in
    let k = p.loose.end in let rs = c.requires.owns.2 in
    let is_word = c.link_word-word.ensures in
    let at : c.link_word-word.result - 4 * e.ranks ≡ k = omega arith in
    let r = picked_room p.seat.me c.load.new.seat.me k
    (subst (λ n. k < n) (sym c.requires.owns.4) c.requires.low) c.requires.untouched
    (c.load.ensures.2.1 ∙ ap (λ d. (view (with_hand d Held e ∷ []), (d, None) ∷ p.seat.me.1)) at)
    p.carried.items (vec_capacity p.carried) p.hands p.carries in omega arith

pub invariant_of-port-clause-carries : goal.invariant_of-port-clause-carries
invariant_of-port-clause-carries g c = let f = c.args.f.now in let p = c.args.port.now in
    let e = knows p in let k = p.loose.end in let rs = c.requires.owns.2 in
    let is_word = c.link_word-word.ensures in
    let at : c.link_word-word.result - 4 * e.ranks ≡ k = omega arith in
    subst (λ l. CarriesFor c.load.new.seat.me l (vec_capacity c.carry.new.carried) p.hands)
    (sym c.carry.ensures.items)
    (picked_carries p.seat.me c.load.new.seat.me k
    (subst (λ n. k < n) (sym c.requires.owns.4) c.requires.low) c.requires.untouched
    (c.load.ensures.2.1 ∙ ap (λ d. (view (with_hand d Held e ∷ []), (d, None) ∷ p.seat.me.1)) at)
    p.carried.items (vec_capacity p.carried) p.hands p.carries
    (vec_capacity c.carry.new.carried) c.carry.ensures.capacity)

pub invariant_of-port-clause-boxes : goal.invariant_of-port-clause-boxes
invariant_of-port-clause-boxes g c = let f = c.args.f.now in let p = c.args.port.now in
    let e = knows p in let k = p.loose.end in let o = c.requires.owns in let rs = o.2 in
    let is_word = c.link_word-word.ensures in
    let at : c.link_word-word.result - 4 * e.ranks ≡ k = omega arith in
    picked_boxes p.seat.me c.load.new.seat.me k
    (subst (λ n. k < n) (sym o.4) c.requires.low) c.requires.untouched
    (c.load.ensures.2.1 ∙ ap (λ d. (view (with_hand d Held e ∷ []), (d, None) ∷ p.seat.me.1)) at)
    p.boxes (o.4 ∙ (λ t. sym o.2 t * sym o.3 t))

pub invariant_of-port-clause-kept : goal.invariant_of-port-clause-kept
invariant_of-port-clause-kept g c = let f = c.args.f.now in let p = c.args.port.now in
    let e = knows p in let k = p.loose.end in let o = c.requires.owns in let rs = o.2 in
    let is_word = c.link_word-word.ensures in
    let at : c.link_word-word.result - 4 * e.ranks ≡ k = omega arith in
    picked_kept p.seat.me c.load.new.seat.me k
    (subst (λ n. k < n) (sym o.4) c.requires.low) c.requires.untouched
    (c.load.ensures.2.1 ∙ ap (λ d. (view (with_hand d Held e ∷ []), (d, None) ∷ p.seat.me.1)) at)
    p.loose.first (ap (λ m. k / m) o.3 ∙ c.requires.own ∙ sym p.named) p.kept
