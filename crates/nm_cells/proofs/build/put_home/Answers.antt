use Rattle.std.proofs.Common.{[], ◌+◌, ◌<◌, set, sym, ap, ◌∙◌, subst, get_or-set_same}
use Rattle.nm_chain.specs.declared.table.table.Hand.TheVariants.{Away, Ready, Entering}
use Rattle.nm_chain.specs.Rule.{hand}
use Rattle.nm_chain.specs.Plays.{with_hand, with_put}
use Rattle.nm_cells.specs.Ports.{knows, holding}
use Rattle.nm_cells.proofs.build.put_home.Goals as goal
use Rattle.nm_types.proofs.ListLemmas.{set_twice}

pub swap_tail-pending-requires-clause-ready : goal.swap_tail-pending-requires-clause-ready
swap_tail-pending-requires-clause-ready g c = let p = c.args.port.now in
    let k = c.args.cell.number in let e = c.clear_link.ensures in
    let low = subst (λ n. k < n) (sym c.requires.owns.4) c.requires.in_hand.0 in
    ap (λ u. hand u k) e.ready
    ∙ get_or-set_same (knows p).hands k (Ready (holding p k)) Away low
    ∙ ap (λ h. Ready (h k)) (sym e.holding)

pub swap_tail-pending-requires-clause-may : goal.swap_tail-pending-requires-clause-may
swap_tail-pending-requires-clause-may g c = let e = c.clear_link.ensures in (
  c.requires.owns.1,
  c.requires.own,
  ap (λ h. h c.args.cell.number) e.holding ∙ c.requires.vacant,
)

pub returns-then-is_first-clause-put : goal.returns-then-is_first-clause-put
returns-then-is_first-clause-put g c = let p = c.args.port.now in
    let k = c.args.cell.number in let a = c.clear_link.ensures in
    let b = c.swap_tail-pending.ensures in let d = c.store_head.ensures in
    let to = Entering (c.args.f.now.ranks + p.rank) c.swap_tail-pending.result.found in
    d.finished ∙ (λ i. with_hand (b.pending.0 i) Away (b.put i))
    ∙ (λ i. with_hand k Away (with_put [] (with_hand k to (a.ready i))))
    ∙ (λ i. with_put [] (record (knows p) {
      hands = (set_twice (set (knows p).hands k (Ready (holding p k))) k to Away
          ∙ set_twice (knows p).hands k (Ready (holding p k)) Away) i;
    }))

pub returns-clause-put : goal.returns-clause-put
returns-clause-put g c = let p = c.args.port.now in
    let k = c.args.cell.number in let a = c.clear_link.ensures in
    let b = c.swap_tail-pending.ensures in let d = c.store_link.ensures in
    let to = Entering (c.args.f.now.ranks + p.rank) c.swap_tail-pending.result.found in
    d.finished ∙ (λ i. with_hand (b.pending.0 i) Away (b.put i))
    ∙ (λ i. with_hand k Away (with_put [] (with_hand k to (a.ready i))))
    ∙ (λ i. with_put [] (record (knows p) {
      hands = (set_twice (set (knows p).hands k (Ready (holding p k))) k to Away
          ∙ set_twice (knows p).hands k (Ready (holding p k)) Away) i;
    }))
