use Rattle.std.proofs.Common.{◌≡◌, suc, ◌+◌, ◌-◌, [], ◌∷◌, length, Some, sym, ap, ◌∙◌, subst}
use Rattle.std.proofs.Common.{⊎_elim, arith, length-append}
use Rattle.std.specs.Prelude.{slice_get}
use Rattle.nm_chain.specs.Spoken.{view}
use Rattle.nm_copyring.specs.Rule.{newcomers}
use Rattle.nm_copyring.specs.Ports.{IsNew}
use Rattle.nm_chain.proofs.ListLemmas.{get_snoc}
use Rattle.nm_copyring.proofs.build.ports_of.Goals as goal

pub port_of-requires-clause-lowest : goal.port_of-requires-clause-lowest
port_of-requires-clause-lowest c = let n = c.args.r.now.ranks in let r = c.loop-rank.rank in
    let t = c.loop-rank-test.true in let e : n - r ≡ suc (n - suc r) = omega arith in
    c.loop-rank.invariant.1 ∙ ap (λ k. (view (newcomers n r k), [])) e

pub loop-rank-preserved : goal.loop-rank-preserved
loop-rank-preserved c = let f = c.args.r.now in let r = c.loop-rank.rank in
    let h = c.loop-rank.invariant in let p = c.in_ok-port.ensures in let e : suc r ≡ r + 1 =
    omega arith in (
      p.rest.0 ∙ h.0,
      p.rest.1 ∙ ap (λ k. (view (newcomers f.ranks k (f.ranks - k)), [])) e,
      ap length c.in_ok-push.ensures.items ∙ length-append c.loop-rank.ports.items
          (c.in_ok-port.port ∷ []) ∙ ap (λ k. k + 1) h.2,
      λ k q at. ⊎_elim (λ t. h.3 k q t)
          (λ t. subst (λ u. IsNew f u k) t.1
          (subst (IsNew f c.in_ok-port.port) (sym (t.0 ∙ h.2)) p.port))
          (get_snoc c.loop-rank.ports.items c.in_ok-port.port k q
          (subst (λ l. slice_get l k ≡ Some q) c.in_ok-push.ensures.items at)),
    )
