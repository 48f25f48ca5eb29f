use Rattle.std.proofs.Common.{suc, Some, sym, refl, ap, ◌∙◌, subst}
use Rattle.nm_chain.proofs.UpdateLemmas.{update_here}
use Rattle.nm_chain.specs.Rule.{hand, sender, number, sent_to}
use Rattle.nm_chain.specs.Plays.{InHand, mine}
use Rattle.nm_cells.specs.LooseCells.{IsAmong}
use Rattle.nm_cells.specs.Ports.{holding}
use Rattle.nm_rows.proofs.fabric.queues.filled_loose.Goals as goal

pub returns-clause-some : goal.returns-clause-some
returns-clause-some c = let f = c.args.f.now in let p = c.loose.new.self in
    let q = c.put_in.new.port in let k = c.in_ok-cell.cell.number in
    let free = c.in_ok-cell.ensures.some in let has = free.has f c.requires.owns.0 in
    let still = c.put_in.ensures.stays in let same = c.loose.ensures.same in
    let rank = still.0.1 ∙ same.1 in
    let here = ap (λ h. h k) c.put_in.ensures.filled
    ∙ update_here (holding p) k (Some c.in_ok-next.next.value) k refl in (
      (
        has.0,
        has.1,
        subst (λ e. InHand (hand e k)) (sym still.1) has.2,
        subst (λ x. ¬ IsAmong x k) (sym still.0.3) has.3,
      ),
      (
        c.requires.owns.1,
        sym has.1 ∙ free.own ∙ sym rank,
        ap sender here ∙ ap suc (c.in_ok-next.ensures.0 ∙ c.rank-own.ensures ∙ sym rank),
        ap number here ∙ c.in_ok-next.ensures.1 ∙ c.sent.ensures
            ∙ sym (ap (λ e. sent_to c.args.to e.put_box e.put)
            (still.1 ∙ ap (λ s. mine s.me) same.0)),
      ),
    )
