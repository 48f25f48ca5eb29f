-- A parcel that came by cell is passed on: what that does to what was passed on and what is left.
use Rattle.std.proofs.Common.{◌≡◌, ℕ, ◌+◌, ◌<◌, ap, ◌∙◌, sym, arith}
use Rattle.std.proofs.Math.Logic.{∥∥₁_elim}
use Rattle.std.proofs.Props.{props}
use Rattle.std.proofs.lemmas.List.Sums.{sum_by-set}
use mathlib.Core.Logic.{dite}
use native.Mathlib.Decide.{ℕ_discrete}
use Rattle.nm_chain.specs.declared.table.parcels.Parcel.{Parcel}
use Rattle.nm_chain.specs.Update.{update}
use Rattle.nm_chain.proofs.UpdateLemmas.{update_here, update_else}
use Rattle.nm_cells.specs.declared.tallies.Tally.{Tally}
use Rattle.nm_cells.specs.declared.port.Port.{Port}
use Rattle.nm_cells.specs.Counted.{new_tally, peer_in, with_peer, one_passed, all_unpassed}
use Rattle.nm_cells.specs.Ports.{knows, taken_by, unpassed_by, IsUnpassed}
use Rattle.nm_cells.proofs.CountedLemmas.{some_unpassed, peer_here, peer_else}
use Rattle.nm_cells.proofs.PortLemmas.{peer_low}

module _ {A : Type 0} (p : Port A) (x : Parcel A) (un : IsUnpassed p x) (next : x.seq ≡ taken_by p x.from) where
  -- its sender has one that isn't passed on
  pub one_left : 0 < (peer_in p.peers.items x.from).unpassed
  one_left = let e = knows p in ∥∥₁_elim p.counts (search props)
      (λ n. some_unpassed e.put e.got e.put_box e.got_box e.box_full e.box_miss e.filling
      e.emptying e.ranks p.peers.items p.held n x un next)

  pub passed_taken : (j : ℕ) → (peer_in (with_peer one_passed x.from p.peers.items) j).taken
      ≡ update (taken_by p) x.from (taken_by p x.from + 1) j
  passed_taken j = let i : ℕ = x.from in let peers = p.peers.items in
      let low = peer_low p i un.0 in dite (ℕ_discrete j i)
      (λ e. ap (λ k. (peer_in (with_peer one_passed i peers) k).taken) e
      ∙ ap (λ (u : Tally). u.taken) (peer_here one_passed i peers low)
      ∙ sym (update_here (taken_by p) i (taken_by p i + 1) j e))
      (λ ne. ap (λ (u : Tally). u.taken) (peer_else one_passed i j peers ne)
      ∙ sym (update_else (taken_by p) i (taken_by p i + 1) j ne))

  pub passed_unpassed : all_unpassed (with_peer one_passed x.from p.peers.items) + 1
      ≡ unpassed_by p
  passed_unpassed = let i : ℕ = x.from in let peers = p.peers.items in
      let s = sum_by-set (λ (u : Tally). u.unpassed) peers i (one_passed (peer_in peers i)) new_tally
      (peer_low p i un.0) in let left = one_left in omega arith
