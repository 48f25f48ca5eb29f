use Rattle.std.proofs.Common.{◌≡◌, ◌<◌, ◌↔◌, ℕ, false, length, nat_lt, subst, arith}
use Rattle.std.proofs.lemmas.Bool.Decides.{nat_tests}
use Rattle.nm_rndv.specs.Grants.{AllWhole, Granting, count_unfinished, grants_from, seen}
use Rattle.nm_rndv.proofs.GrantLemmas.{none_counted}
use Rattle.nm_rndv.proofs.granting.Grants.is_any_due.Goals as goal

pub returns : goal.returns
returns c =
    let a = c.self.inside in
    let rows = (seen a.senders.items).grants in
    let counted = none_counted rows in
    subst (λ (v : Granting). (nat_lt 0 a.unfinished ≡ false) ↔ ((from : ℕ) → from < length v.grants →
    AllWhole (grants_from v from))) c.self.view_is (
      λ none. counted.0
          (let zero : count_unfinished rows ≡ 0 = grind (arith, nat_tests, none, c.self.invariant) in zero),
      λ whole. let zero = counted.1 whole in grind (arith, nat_tests, zero, c.self.invariant),
    )
