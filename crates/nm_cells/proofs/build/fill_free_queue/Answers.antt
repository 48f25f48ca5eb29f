use Rattle.std.proofs.Common.{◌≡◌, [], ◌*◌, ◌<◌, replicate, inl, inr, ⊎_elim, sym, refl, ap, ◌∙◌, subst}
use Rattle.std.proofs.Common.{get_or-set_same, get_or-set_other}
use native.Mathlib.Decide.{ℕ_discrete}
use mathlib.Core.Logic.{dite}
use Rattle.nm_chain.specs.declared.table.table.Hand.TheVariants.{Away}
use Rattle.nm_chain.specs.Rule.{hand, newcomer}
use Rattle.nm_chain.specs.Plays.{mine, with_hand, with_put}
use Rattle.nm_cells.specs.Ports.{knows}
use Rattle.nm_cells.specs.Counted.{peer_in, all_unpassed}
use Rattle.nm_cells.specs.LooseCells.{IsAmong}
use Rattle.nm_cells.proofs.BeginLemmas.{fresh_then, empty_handed, all_away}
use Rattle.nm_cells.proofs.BoxCallLemmas.{brought_owns}
use Rattle.nm_cells.proofs.PortLemmas.{idle}
use Rattle.nm_cells.proofs.build.fill_free_queue.Goals as goal

pub loop-cell-preserved : goal.loop-cell-preserved
loop-cell-preserved g c = let f = c.args.f.now in let h = c.loop-cell.invariant in
    let p = c.loop-cell.port in let q = c.loose.new.self in let u = c.put_home.new.port in
    let free = c.in-Some.ensures.some in let same = c.loose.ensures.same in
    let e = c.put_home.ensures in let k = c.in-Some.cell.number in let r = c.args.port.now.rank in
    let knew : knows q ≡ knows p = ap (λ s. mine s.me) same.0 in
    let here = free.has f h.0.0 in
    let now : knows u ≡ with_put [] (with_hand k Away (knows p)) =
    e.put ∙ ap (λ y. with_put [] (with_hand k Away y)) knew in (
      fresh_then f p u r k Away h.0 e.stays.0 (e.stays.1 ∙ same.1) (sym here.1 ∙ free.own ∙ h.0.1)
          (now ∙ ap (λ y. with_put [] (with_hand k Away y)) h.0.2)
          (λ i. ap (λ g. g i) e.stays.2.0 ∙ ap (λ ps. (peer_in ps.items i).taken) same.3)
          (e.stays.2.1 ∙ same.4) (e.stays.2.2 ∙ ap (λ ps. all_unpassed ps.items) same.3),
      (λ d low. dite (ℕ_discrete d k)
          (λ s. inl (subst (λ j. hand (knows u) j ≡ Away) (sym s)
          (ap (λ y. hand y k) now ∙ get_or-set_same (knows p).hands k Away Away
          (subst (λ n. k < n) (sym h.0.0.4) here.0))))
          (λ ne. ⊎_elim (λ a. inl (ap (λ y. hand y d) now
          ∙ get_or-set_other (knows p).hands k d Away Away ne ∙ a))
          (λ i. inr (subst (λ x. IsAmong x d) (sym e.stays.3) ((free.others d).1 (i, ne))))
          (h.1 d low))),
    )

pub returns : goal.returns
returns g c = let f = c.args.f.now in let h = c.loop-cell.invariant in let p = c.loop-cell.port in
    let q = c.loose.new.self in let same = c.loose.ensures.same in
    let n = f.ranks in let m = f.each in let r = c.args.port.now.rank in
    let gone = c.in_default.ensures.none.0 refl in
    let knew : knows q ≡ knows p = ap (λ s. mine s.me) same.0 in
    let owns = brought_owns f p q (ap (λ s. s.table_id) same.0) (ap (λ s. s.me.0) same.0) same.1
    h.0.0 in
    let all : (knows q).hands ≡ replicate (n * m) Away =
    all_away (knows q).hands (n * m) owns.4 (λ d low. ap (λ y. hand y d) knew
    ∙ ⊎_elim (λ a. a) (λ i. absurd (gone d i)) (h.1 d low)) in
    let is : knows q ≡ newcomer n m r = knew ∙ h.0.2
    ∙ ap (λ hs. record (newcomer n m r) { hands = hs }) (sym (ap (λ y. y.hands) knew) ∙ all) in
    let none = empty_handed q n m r is in (
      owns,
      same.1 ∙ h.0.1,
      is,
      (idle q none).0,
      none,
      (λ i. ap (λ ps. (peer_in ps.items i).taken) same.3 ∙ h.0.4 i),
      same.4 ∙ h.0.5,
      ap (λ ps. all_unpassed ps.items) same.3 ∙ h.0.6,
      (λ d i. gone d (subst (λ x. IsAmong x d) c.in_default.ensures.left i)),
    )
