use Rattle.std.proofs.Common.{◌≡◌, Option, Some, None, sym, subst}
use Rattle.std.proofs.Math.Logic.{∥∥₁_map}
use Rattle.nm_chain.specs.declared.table.parcels.Parcel.{Parcel}
use Rattle.nm_cells.specs.Ports.{knows}
use Rattle.nm_cells.specs.Counted.{CountsFor}
use Rattle.nm_cells.proofs.CountedLemmas.{packet_held}
use Rattle.nm_cells.proofs.port.Port.unhold.Goals as goal

nothing : {A : Type 0} (x : Parcel A) → None ≡ Some x → ⊥
nothing x e = cc

pub invariant_of-self-clause-counts : goal.invariant_of-self-clause-counts
invariant_of-self-clause-counts g c = let p = c.args.self.now in let e = knows p in
    let none : Option (Parcel _) = None in
    subst (λ h. ∥ CountsFor e p.peers.items h ∥₁) (sym c.take.ensures.empty) (∥∥₁_map p.counts
    (λ n. packet_held e.put e.got e.put_box e.got_box e.box_full e.box_miss e.filling e.emptying
    e.ranks p.peers.items p.held n none (λ x is. absurd (nothing x is))))
