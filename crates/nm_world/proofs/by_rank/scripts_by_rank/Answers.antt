-- One rank more.
use Rattle.std.proofs.Common.{◌≡◌, ℕ, suc, ◌+◌, ◌∷◌, [], List, Some, Vec, Global, length, length-append, sym}
use Rattle.std.proofs.Common.{ap, ◌∙◌, subst, arith}
use Rattle.std.specs.Prelude.{slice_get}
use Rattle.std.specs.Vec.Iter.{into_iter_items}
use Rattle.nm_process.specs.Places.{ArePlaces, ScriptedView}
use Rattle.nm_world.specs.ByRank.{AreScripts}
use Rattle.nm_world.proofs.ByRank.{at_rank, scripts_more}
use Rattle.nm_world.proofs.by_rank.scripts_by_rank.Goals as goal

pub loop-own-init : goal.loop-own-init
loop-own-init c =
    let e = c.in_ok-own-items.ensures in
    let all = c.in_ok-own-items.own-items.items in
    let same = c.into_iter-own-iterator.ensures.into_iter_gives.0 in
    let none = ap length c.new-scripts.ensures.items in
    let many = ap length same in
    let count = e.many in
    record {
      scripts = subst (λ (ss : List ScriptedView). AreScripts c.args.ranks c.args.lines.now 0 ss)
          (sym c.new-scripts.ensures.items) tt;
      many = omega (arith, none, many, count);
      places = λ i own at.
          let sum : i ≡ length c.new-scripts.result.items + i = omega (arith, none) in
          subst (λ (k : ℕ). ArePlaces c.args.lines.now k own.items) sum
          (at_rank c.args.lines.now all i own e.places
          (subst (λ (vs : List (Vec ℕ Global)). slice_get vs i ≡ Some own) same at));
    }

pub new-requires-clause-places : goal.new-requires-clause-places
new-requires-clause-places c =
    let own = c.in-Some.own in
    let len = c.len-me.ensures in
    let ok = c.loop-own.scripts.ok.0 in
    let here : length c.loop-own.scripts.items + 0 ≡ c.len-me.result = omega (arith, len, ok) in
    subst (λ (k : ℕ). ArePlaces c.args.lines.now k own.items) here
    (c.loop-own.invariant.places 0 own (ap (λ (vs : List (Vec ℕ Global)). slice_get vs 0) c.in-Some.ensures.steps.0))

pub loop-own-preserved : goal.loop-own-preserved
loop-own-preserved c =
    let i = c.loop-own.invariant in
    let scripts = c.loop-own.scripts.items in
    let rest = into_iter_items c.next.new.self in
    let own = c.in-Some.own in
    let split : into_iter_items c.loop-own.own-iterator ≡ own ∷ rest = c.in-Some.ensures.steps.0 in
    let one = ap length split in
    let many = i.many in
    let grown = c.in_ok-add.ensures in
    let len = c.len-me.ensures in
    let ok = c.loop-own.scripts.ok.0 in
    let place : c.len-me.result ≡ 0 + length scripts = omega (arith, len, ok) in
    let longer = ap length grown ∙ length-append scripts (c.new.result ∷ []) in
    record {
      scripts = subst (λ (ss : List ScriptedView). AreScripts c.args.ranks c.args.lines.now 0 ss) (sym grown)
          (scripts_more c.args.ranks c.args.lines.now 0 scripts c.new.result i.scripts c.new.ensures.of.0
          (c.new.ensures.of.1 ∙ place) c.new.ensures.of.2 c.new.ensures.of.3);
      many = omega (arith, longer, one, many);
      places = λ k x at. let sum : length scripts + suc k ≡ length c.add.new.list.items + k = omega (arith, longer) in
          subst (λ (n : ℕ). ArePlaces c.args.lines.now n x.items) sum (i.places (suc k) x
          (subst (λ (vs : List (Vec ℕ Global)). slice_get vs (suc k) ≡ Some x) (sym split) at));
    }
