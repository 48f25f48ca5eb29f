use Rattle.std.proofs.Common.{◌<◌, sym, ap, ◌∙◌, subst, get_or-set_same}
use Rattle.nm_chain.specs.declared.table.table.Hand.TheVariants.{Away, Ready, Entering}
use Rattle.nm_chain.specs.Rule.{hand, sent_to}
use Rattle.nm_chain.specs.Plays.{with_hand}
use Rattle.nm_cells.specs.Ports.{knows, holding, queue_of}
use Rattle.nm_queue.proofs.MoveLemmas.{enqueued_by, may_still}
use Rattle.nm_queue.proofs.moves.enqueue.Goals as goal

pub swap_tail-pending-requires-clause-ready : goal.swap_tail-pending-requires-clause-ready
swap_tail-pending-requires-clause-ready g c = let p = c.args.port.now in
    let k = c.args.cell.number in let e = c.clear_link.ensures in
    let low = subst (λ n. k < n) (sym c.requires.owns.4) c.requires.in_hand.0 in
    ap (λ u. hand u k) e.ready
    ∙ get_or-set_same (knows p).hands k (Ready (holding p k)) Away low
    ∙ ap (λ h. Ready (h k)) (sym e.holding)

pub swap_tail-pending-requires-clause-may : goal.swap_tail-pending-requires-clause-may
swap_tail-pending-requires-clause-may g c = let e = c.clear_link.ensures in
    may_still c.args.f.now c.args.port.now c.clear_link.new.port c.args.q c.args.cell.number
    (holding c.args.port.now c.args.cell.number) _ e.stays.1
    (λ j. ap (λ u. sent_to j u.put_box u.put) e.ready)
    (ap (λ h. h c.args.cell.number) e.holding) c.requires.may

pub returns-then-is_first-clause-enqueued : goal.returns-then-is_first-clause-enqueued
returns-then-is_first-clause-enqueued g c = let k = c.args.cell.number in let a = c.clear_link.ensures in
    let b = c.swap_tail-pending.ensures in let d = c.store_head.ensures in let swapped = c.swap_tail-pending.new.port in
    let to = Entering (queue_of c.args.f.now.ranks c.args.q) c.swap_tail-pending.result.found in
    enqueued_by c.args.f.now c.args.q k to c.args.port.now c.clear_link.new.port swapped c.store_head.new.port
    a.stays a.ready a.holding a.hands b.stays b.put b.given b.hands d.stays (d.finished ∙ (λ i. with_hand (b.pending.0 i) Away (knows swapped)))
    d.holding d.hands

pub returns-else-is_first-clause-enqueued : goal.returns-else-is_first-clause-enqueued
returns-else-is_first-clause-enqueued g c = let k = c.args.cell.number in let a = c.clear_link.ensures in
    let b = c.swap_tail-pending.ensures in let d = c.store_link.ensures in let swapped = c.swap_tail-pending.new.port in
    let to = Entering (queue_of c.args.f.now.ranks c.args.q) c.swap_tail-pending.result.found in
    enqueued_by c.args.f.now c.args.q k to c.args.port.now c.clear_link.new.port swapped c.store_link.new.port
    a.stays a.ready a.holding a.hands b.stays b.put b.given b.hands d.stays (d.finished ∙ (λ i. with_hand (b.pending.0 i) Away (knows swapped)))
    d.holding d.hands
