use Rattle.std.proofs.Common.{◌<◌, sym, ap, ◌∙◌, subst, get_or-set_same}
use Rattle.nm_chain.specs.declared.table.table.Hand.TheVariants.{Away, Ready}
use Rattle.nm_chain.specs.Rule.{hand, sent_to}
use Rattle.nm_cells.specs.Ports.{knows, holding}
use Rattle.nm_queue.proofs.MoveLemmas.{may_still}
use Rattle.nm_rows.proofs.fabric.queues.half.Goals as goal

pub swap_tail-requires-clause-ready : goal.swap_tail-requires-clause-ready
swap_tail-requires-clause-ready g c = let p = c.args.port.now in
    let k = c.args.cell.number in let e = c.clear_link.ensures in
    let low = subst (λ n. k < n) (sym c.requires.owns.4) c.requires.in_hand.0 in
    ap (λ u. hand u k) e.ready
    ∙ get_or-set_same (knows p).hands k (Ready (holding p k)) Away low
    ∙ ap (λ h. Ready (h k)) (sym e.holding)

pub swap_tail-requires-clause-may : goal.swap_tail-requires-clause-may
swap_tail-requires-clause-may g c = let e = c.clear_link.ensures in
    may_still c.args.f.now c.args.port.now c.clear_link.new.port c.args.q c.args.cell.number
    (holding c.args.port.now c.args.cell.number) _ e.stays.1
    (λ j. ap (λ u. sent_to j u.put_box u.put) e.ready)
    (ap (λ h. h c.args.cell.number) e.holding) c.requires.may
