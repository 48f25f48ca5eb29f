use Rattle.std.proofs.Common.{◌∷◌, length, sym, ap, ◌∙◌, subst, arith}
use Rattle.std.proofs.lemmas.List.{length-map}
use Rattle.std.specs.Prelude.{slice_index, slice_index_or, vec_capacity}
use Rattle.atomic_table.specs.Table.{rest}
use Rattle.nm_chain.specs.Plays.{sole, load_in}
use Rattle.nm_cells.specs.Ports.{knows}
use Rattle.nm_cells.specs.AtWork.{HoldsBoxes}
use Rattle.nm_cells.specs.Carried.{Carries, held_in, times}
use Rattle.nm_cells.specs.Counted.{CountsFor}
use Rattle.nm_cells.proofs.HoldingLemmas.{turned_by, carries_turned, front_at, still_held}
use Rattle.nm_cells.proofs.HoldingLemmas.{found_at}
use Rattle.nm_cells.proofs.BoxPortLemmas.{boxes_turned}
use Rattle.nm_chain.specs.declared.table.table.Hand.TheVariants.{Away}
use Rattle.nm_cells.specs.LooseCells.{AreKept}
use Rattle.nm_cells.proofs.CarriedLemmas.{slots_one}
use Rattle.nm_cells.proofs.LooseLemmas.{kept_turned}
use Rattle.nm_cells.proofs.slots.bring_slot.Goals as goal

pub bring-requires-clause-there : goal.bring-requires-clause-there
bring-requires-clause-there g c = let p = c.args.port.now in
    found_at c.args.slot p.carried.items
    (ap (times c.args.slot) (sym p.carries.order) ∙ c.requires.once)

pub invariant_of-port-clause-carries : goal.invariant_of-port-clause-carries
invariant_of-port-clause-carries g c = let p = c.args.port.now in let e = knows p in
    let t = c.bring.ensures.turned in let new = c.bring.new.carried in
    subst (λ v. Carries c.bring.new.seat.me.1 (sole v.entries).hands (sole v.entries).filling
    (sole v.entries).emptying new.items (vec_capacity new) p.hands) (sym c.bring.ensures.seat.2)
    (subst (λ s. Carries s e.hands e.filling e.emptying new.items (vec_capacity new) p.hands)
    (sym t.3)
    (subst (λ l. Carries (turned_by t.0 p.seat.me.1) e.hands e.filling e.emptying l
    (vec_capacity new) p.hands) (sym t.4)
    (carries_turned p.seat.me.1 e.hands e.filling e.emptying p.carried.items
    (vec_capacity p.carried) p.hands p.carries t.0 (vec_capacity new) t.1 (let same =
    c.bring.ensures.capacity in omega arith))))

pub invariant_of-port-clause-boxes : goal.invariant_of-port-clause-boxes
invariant_of-port-clause-boxes g c = let p = c.args.port.now in let e = knows p in
    let t = c.bring.ensures.turned in
    let long = sym (length-map p.seat.me.1 (λ x. x.0)) ∙ ap length p.carries.order in
    let low = t.1 in
    subst (λ v. HoldsBoxes (sole v.entries) c.bring.new.seat.me.1) (sym c.bring.ensures.seat.2)
    (subst (HoldsBoxes e) (sym t.3) (boxes_turned e p.seat.me.1 p.boxes t.0 (omega arith)))

pub invariant_of-port-clause-counts : goal.invariant_of-port-clause-counts
invariant_of-port-clause-counts g c = let p = c.args.port.now in
    subst (λ v. ∥ CountsFor (sole v.entries) p.peers.items p.held ∥₁)
    (sym c.bring.ensures.seat.2) p.counts

pub returns-clause-front : goal.returns-clause-front
returns-clause-front g c = let p = c.args.port.now in let t = c.bring.ensures.turned in
    let long = sym (length-map p.seat.me.1 (λ x. x.0)) ∙ ap length p.carries.order in
    let low = t.1 in
    let f = front_at p.seat.me.1 t.0 c.args.slot (omega arith)
    (ap (λ l. slice_index l t.0) p.carries.order ∙ t.2) c.requires.once in
    let is = t.3 ∙ f.1 in
    is ∙ ap (λ l. (c.args.slot, load_in c.args.slot p.seat.me.1) ∷ l) (ap rest (sym is))

pub returns-clause-holding : goal.returns-clause-holding
returns-clause-holding g c = let p = c.args.port.now in let e = knows p in
    let t = c.bring.ensures.turned in
    ap (λ v. held_in (length (sole v.entries).hands) c.bring.new.seat.me.1) c.bring.ensures.seat.2
    ∙ ap (held_in (length e.hands)) t.3
    ∙ still_held p.seat.me.1 e.hands e.filling e.emptying p.carried.items
    (vec_capacity p.carried) p.hands p.carries t.0 t.1

pub invariant_of-port-clause-kept : goal.invariant_of-port-clause-kept
invariant_of-port-clause-kept g c = let p = c.args.port.now in let e = knows p in
    let t = c.bring.ensures.turned in
    let long = sym (length-map p.seat.me.1 (λ x. x.0)) ∙ ap length p.carries.order in
    let low = t.1 in
    subst (λ v. AreKept p.loose (sole v.entries) c.bring.new.seat.me.1)
    (sym c.bring.ensures.seat.2)
    (subst (AreKept p.loose e) (sym t.3)
    (kept_turned p.loose e p.seat.me.1 p.kept t.0 (omega arith)
    (λ d ld. let s = ap (times d) p.carries.order ∙ p.carries.cells d ld in
    let one = slots_one (slice_index_or e.hands d Away) in omega arith)))
