use Rattle.std.proofs.Common.{◌/◌, ◌<◌, length, sym, ap, ◌∙◌, subst, arith}
use Rattle.nm_chain.specs.Plays.{InHand}
use Rattle.nm_cells.specs.Ports.{knows}
use Rattle.nm_cells.proofs.HoldingLemmas.{held_here}
use Rattle.nm_cells.proofs.port.Port.loose.Goals as goal

pub invariant_of-self-clause-kept : goal.invariant_of-self-clause-kept
invariant_of-self-clause-kept g c = let p = c.args.self.now in λ d i. let low = i.0 in
    p.kept d (omega arith, i.1)

pub returns-clause-some : goal.returns-clause-some
returns-clause-some g c = let p = c.args.self.now in let e = knows p in
    let some = c.if-end-first.false in let k = p.kept p.loose.first (omega arith, some) in record {
      was = (omega arith, some);
      lowest = λ d i. i.0;
      own = c.from.ensures;
      has = λ f o. (
        subst (λ n. p.loose.first < n) o.4 k.0,
        c.from.ensures ∙ sym p.named ∙ sym k.3 ∙ ap (λ m. p.loose.first / m) o.3,
        subst InHand (sym k.1) tt,
        λ i. let z = i.0 in absurd (omega arith),
      );
      vacant = held_here (length e.hands) p.loose.first p.seat.me.1 k.0 ∙ k.2;
      others = λ d. (
        (λ i. let z = i.0 in ((omega arith, i.1), λ u. absurd (omega arith))),
        (λ i. let z = i.0.0 in let ne = i.1 in (omega arith, i.0.1)),
      );
    }
