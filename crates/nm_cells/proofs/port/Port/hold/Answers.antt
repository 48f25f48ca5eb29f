use Rattle.std.proofs.Common.{◌≡◌, Some, sym, subst}
use Rattle.std.proofs.Math.Logic.{∥∥₁_map}
use Rattle.nm_chain.specs.declared.table.parcels.Parcel.{Parcel}
use Rattle.nm_cells.specs.Counted.{CountsFor}
use Rattle.nm_cells.specs.Ports.{knows, IsUnpassed}
use Rattle.nm_cells.proofs.CountedLemmas.{packet_held}
use Rattle.nm_cells.proofs.port.Port.hold.Goals as goal

one : {A : Type 0} (x y : Parcel A) → Some x ≡ Some y → x ≡ y
one x y e = cc

pub invariant_of-self-clause-counts : goal.invariant_of-self-clause-counts
invariant_of-self-clause-counts g c = let p = c.args.self.now in let e = knows p in
    subst (λ h. ∥ CountsFor e p.peers.items h ∥₁) (sym c.fill.ensures) (∥∥₁_map p.counts
    (λ n. packet_held e.put e.got e.put_box e.got_box e.box_full e.box_miss e.filling e.emptying
    e.ranks p.peers.items p.held n (Some c.args.parcel.value)
    (λ x is. subst (λ u. IsUnpassed p u) (one c.args.parcel.value x is) c.requires.unpassed)))
