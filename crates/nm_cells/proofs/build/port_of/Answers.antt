use Rattle.std.proofs.Common.{◌≡◌, Option, None, false, [], ◌∷◌, suc, ◌-◌, ◌*◌, ◌<◌}
use Rattle.std.proofs.Common.{◌∙◌, length, sym, refl, ap, subst, arith}
use Rattle.std.proofs.lemmas.List.{length-replicate}
use Rattle.std.specs.Prelude.{vec_capacity}
use Rattle.nm_chain.specs.Spoken.{view, first_of}
use Rattle.nm_chain.specs.Plays.{Knowing, mine}
use Rattle.nm_cells.specs.AtWork.{HoldsBoxes}
use Rattle.nm_cells.proofs.BoxPortLemmas.{boxes_new}
use Rattle.nm_chain.specs.declared.table.parcels.Parcel.{Parcel}
use Rattle.nm_cells.specs.Counted.{CountsFor, peer_in, all_unpassed}
use Rattle.nm_cells.proofs.CountedLemmas.{counts_new}
use Rattle.nm_chain.specs.Rule.{Load, hand, newcomer, beginner, beginners}
use Rattle.nm_cells.proofs.BeginLemmas.{begins_carries, begins_loose, begins_away}
use Rattle.nm_cells.proofs.BeginLemmas.{none_taken, none_unpassed}
use Rattle.nm_cells.proofs.PortLemmas.{CarriesFor}
use Rattle.nm_chain.proofs.OpeningLemmas.{parted, first_long}
use Rattle.nm_cells.proofs.build.port_of.Goals as goal

pub split_seat-seat-requires : goal.split_seat-seat-requires
split_seat-seat-requires g c = let f = c.args.f.now in let z = f.sizes.0 in
    let r = c.requires.table.1 in let n = f.ranks in let m = f.each in
    let some : 0 < f.board.shared.table_id.words = omega arith in (
      c.requires.table.0,
      some,
      parted f.board.shared.key c.args.rest.now.id c.args.rest.now.me.0
          (beginner n m c.args.rank) (beginners n m (suc c.args.rank) (n - suc c.args.rank))
          (ap (λ u. u.0) c.requires.lowest),
    )

pub invariant_of-result-clause-boxes : goal.invariant_of-result-clause-boxes
invariant_of-result-clause-boxes g c = let n = c.args.f.now.ranks in let m = c.args.f.now.each in
    let is = c.split_seat-seat.ensures.4 ∙ ap (λ u. (first_of u.0, [])) c.requires.lowest in
    subst (λ (k : Knowing _). HoldsBoxes (mine k) k.1) (sym is)
    (boxes_new _ n m c.args.rank c.requires.table.1)

pub invariant_of-result-clause-counts : goal.invariant_of-result-clause-counts
invariant_of-result-clause-counts g c = let n = c.args.f.now.ranks in
    let is = c.split_seat-seat.ensures.4 ∙ ap (λ u. (first_of u.0, [])) c.requires.lowest in
    let nobody : Option (Parcel _) = None in
    subst (λ h. ∥ CountsFor (mine c.split_seat-seat.result.me) c.in_ok-peers.peers.items h ∥₁)
    (sym c.empty.ensures)
    (subst (λ (k : Knowing _). ∥ CountsFor (mine k) c.in_ok-peers.peers.items nobody ∥₁) (sym is)
    (subst (λ l. ∥ CountsFor (newcomer n c.args.f.now.each c.args.rank) l nobody ∥₁)
    (sym c.in_ok-peers.ensures) ∣ counts_new _ n ∣₁))

pub invariant_of-result-clause-carries : goal.invariant_of-result-clause-carries
invariant_of-result-clause-carries g c = let n = c.args.f.now.ranks in let m = c.args.f.now.each in
    let is = c.split_seat-seat.ensures.4 ∙ ap (λ u. (first_of u.0, [])) c.requires.lowest in
    let few = c.args.f.now.small in let some = few.1 in let room = c.in_ok-carried.ensures in
    subst (λ (k : Knowing _). CarriesFor k c.in_ok-carried.carried.items
    (vec_capacity c.in_ok-carried.carried) m) (sym is)
    (subst (λ l. CarriesFor (view (beginner n m c.args.rank ∷ []), []) l
    (vec_capacity c.in_ok-carried.carried) m) (sym room.items)
    (begins_carries _ m c.args.rank some n (vec_capacity c.in_ok-carried.carried) c.requires.table.1
    (let fits = room.capacity in omega arith)))

pub returns-clause-port : goal.returns-clause-port
returns-clause-port g c = let n = c.args.f.now.ranks in let m = c.args.f.now.each in
    let r = c.args.rank in let some = c.args.f.now.small.1 in
    let nobody : Option (Load _) = None in
    let is = c.split_seat-seat.ensures.4 ∙ ap (λ u. (first_of u.0, [])) c.requires.lowest in (
      (
        (
          search,
          c.requires.table.1,
          ap (λ (k : Knowing _). (mine k).ranks) is,
          ap (λ (k : Knowing _). (mine k).each) is,
          ap (λ (k : Knowing _). length (mine k).hands) is ∙ first_long _ m r 0 (n * m),
          ap (λ (k : Knowing _). length (mine k).filling) is ∙ length-replicate n false,
          ap (λ (k : Knowing _). length (mine k).emptying) is ∙ length-replicate n (nobody),
        ),
        refl,
        subst (λ (k : Knowing _). mine k ≡ record (newcomer n m r) { hands = (mine k).hands }) (sym is)
            refl,
        (λ d low other. ap (λ (k : Knowing _). hand (mine k) d) is ∙ begins_away _ m r some n d low other),
        (λ d. ap (λ l. (peer_in l d).taken) c.in_ok-peers.ensures ∙ none_taken n d),
        c.empty.ensures,
        ap all_unpassed c.in_ok-peers.ensures ∙ none_unpassed n,
      ),
      refl,
      ap (λ k. k * m) c.from.ensures,
      ap (λ k. k * m) c.from.ensures,
    )

pub returns-clause-untouched : goal.returns-clause-untouched
returns-clause-untouched g c = let n = c.args.f.now.ranks in let m = c.args.f.now.each in
    let is = c.split_seat-seat.ensures.4 ∙ ap (λ u. (first_of u.0, [])) c.requires.lowest in
    λ d low own. ap (λ (k : Knowing _). hand (mine k) d) is
    ∙ begins_loose _ m c.args.rank c.args.f.now.small.1 n d low own
