use Rattle.std.proofs.Common.{◌≡◌, suc, ◌+◌, ◌-◌, [], ◌∷◌, length, Some, sym, ap, ◌∙◌, subst}
use Rattle.std.proofs.Common.{⊎_elim, arith, length-append}
use Rattle.std.specs.Prelude.{slice_get}
use Rattle.nm_chain.specs.Spoken.{view}
use Rattle.nm_chain.specs.Rule.{beginners}
use Rattle.nm_cells.specs.Ports.{Begins}
use Rattle.nm_cells.proofs.build.ports_of.Goals as goal
use Rattle.nm_chain.proofs.ListLemmas.{get_snoc}

pub port_of-requires-clause-lowest : goal.port_of-requires-clause-lowest
port_of-requires-clause-lowest g c = let f = c.args.f.now in let r = c.loop-rank.rank in
    let t = c.loop-rank-test.true in let e : f.ranks - r ≡ suc (f.ranks - suc r) = omega arith in
    c.loop-rank.invariant.1 ∙ ap (λ k. (view (beginners f.ranks f.each r k), [])) e

pub loop-rank-preserved : goal.loop-rank-preserved
loop-rank-preserved g c = let f = c.args.f.now in let r = c.loop-rank.rank in
    let h = c.loop-rank.invariant in let p = c.in_ok-port.ensures in let e : suc r ≡ r + 1 =
    omega arith in let q = c.begin.new.port in
    let at_r = p.port.0.1 in (
      p.rest.0 ∙ h.0,
      p.rest.1 ∙ ap (λ k. (view (beginners f.ranks f.each k (f.ranks - k)), [])) e,
      ap length (c.in_ok-push.ensures.items) ∙ length-append c.loop-rank.ports.items (q ∷ [])
          ∙ ap (λ k. k + 1) h.2,
      λ k u at. ⊎_elim (λ t. h.3 k u t)
          (λ t. subst (λ v. Begins c.args.loose f v k) t.1
          (subst (Begins c.args.loose f q) (at_r ∙ sym (t.0 ∙ h.2)) c.begin.ensures))
          (get_snoc c.loop-rank.ports.items q k u
          (subst (λ l. slice_get l k ≡ Some u) c.in_ok-push.ensures.items at)),
    )
