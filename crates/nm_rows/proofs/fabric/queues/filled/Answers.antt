use Rattle.std.proofs.Common.{rules, suc, Some, sym, refl, ap, ◌∙◌, subst}
use Rattle.nm_chain.proofs.UpdateLemmas.{update_here}
use Rattle.nm_chain.specs.Rule.{hand, sender, number, sent_to}
use Rattle.nm_chain.specs.Plays.{InHand}
use Rattle.nm_cells.specs.LooseCells.{IsAmong}
use Rattle.nm_cells.specs.Ports.{Takes, holding}
use Rattle.nm_rows.proofs.fabric.queues.filled.Goals as goal

pub returns-clause-some : goal.returns-clause-some
returns-clause-some g c = let f = c.args.f.now in let p = c.dequeue.new.port in
    let q = c.put_in.new.port in let k = c.in_ok-cell.cell.number in
    let took : Takes _ f c.args.port.now p c.in_ok-cell.cell = search rules in
    let still = c.put_in.ensures.stays in let rank = still.0.1 ∙ c.dequeue.ensures.owns.1 in
    let here = ap (λ h. h k) c.put_in.ensures.filled
    ∙ update_here (holding p) k (Some c.in_ok-next.next.value) k refl in
    let none = took.vacant refl in (
      (
        took.has.0,
        took.has.1,
        subst (λ e. InHand (hand e k)) (sym still.1) took.has.2,
        subst (λ x. ¬ IsAmong x k) (sym still.0.3) took.has.3,
      ),
      (
        c.requires.owns.1,
        sym took.has.1 ∙ none.1 ∙ sym rank,
        ap sender here ∙ ap suc (c.in_ok-next.ensures.0 ∙ c.rank-own.ensures ∙ sym rank),
        ap number here ∙ c.in_ok-next.ensures.1 ∙ c.sent.ensures
            ∙ sym (ap (λ e. sent_to c.args.to e.put_box e.put) (still.1 ∙ took.knows)),
      ),
      c.put_in.ensures.hands ∙ took.hands,
    )
