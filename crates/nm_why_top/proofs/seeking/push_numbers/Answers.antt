-- One number more.
use Rattle.std.proofs.Common.{◌≡◌, inl, inr, ℕ, ◌<◌, arith, subst}
use Rattle.std.proofs.lemmas.Bool.{cases_lt}
use Rattle.nm_search.specs.Lists.{Has}
use Rattle.nm_search.proofs.ListLemmas.{has_kept, has_push, keeps_all, keeps_push, keeps_then, more_only, only_all}
use Rattle.nm_search.proofs.ListLemmas.{only_then, only_weaker}
use Rattle.nm_why_top.proofs.seeking.push_numbers.Goals as goal

pub loop-k-init : goal.loop-k-init
loop-k-init c = record {
  kept = keeps_all c.args.ahead.now.items;
  only = only_all (λ (n : ℕ). n < c.args.to) c.args.ahead.now.items;
  all = λ n later low. absurd (omega (arith, later, low));
}

pub loop-k-preserved : goal.loop-k-preserved
loop-k-preserved c =
    let old = c.args.ahead.now.items in
    let before = c.loop-k.ahead.items in
    let now = c.push.new.self.items in
    let k = c.loop-k.k in
    let is = c.in_ok-push.ensures.items in
    let test = c.loop-k-test.true in
    record {
      kept = keeps_then old before now c.loop-k.invariant.kept (keeps_push before now k is);
      only =
          only_then (λ (n : ℕ). n < c.args.to) old before now c.loop-k.invariant.only
          (only_weaker (λ (n : ℕ). k ≡ n) (λ (n : ℕ). n < c.args.to) before now
          (λ n same. omega (arith, same, test)) (more_only before now k is));
      all = λ n later low. elim (cases_lt n k) [
        | inl less ↦ has_kept before now n (keeps_push before now k is) (c.loop-k.invariant.all n later less)
        | inr more ↦ subst (λ (m : ℕ). Has now m) (omega (arith, low, more)) (has_push before now k is)
      ];
    }

pub returns-clause-all : goal.returns-clause-all
returns-clause-all c = λ n later low.
    let end = c.loop-k-test.false in c.loop-k.invariant.all n later (omega (arith, low, end))
