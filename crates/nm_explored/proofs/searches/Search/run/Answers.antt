-- One state more is expanded.
use Rattle.std.proofs.Common.{ℕ, ◌<◌, List, length, ap, arith}
use Rattle.std.proofs.lemmas.Bool.{leb-true}
use Rattle.nm_explored.specs.Stores.{Store}
use Rattle.nm_explored.proofs.ExpandLemmas.{run_next}
use Rattle.nm_explored.proofs.StoreLemmas.{grows_then}
use Rattle.nm_explored.proofs.searches.Search.run.Goals as goal

pub loop-k-preserved : goal.loop-k-preserved
loop-k-preserved c =
    let many = ap (λ (xs : List (List ℕ)). length xs) c.as_slice.ensures in
    let inside = c.if-k-as_slice.false in
    let view = ap (λ (s : Store). length s.states) c.self.view_is in
    let below : c.loop-k.k < length c.loop-k.self.states = omega (arith, many, inside, view) in
    record {
      grows = grows_then c.args.self.now c.loop-k.self c.expand.new.self c.loop-k.invariant.grows
          c.in_ok-expand.ensures.grows;
      all = λ few short made. run_next c.args.of.eager c.args.of.ranks c.args.of.lines.now c.loop-k.self
          c.expand.new.self c.loop-k.k c.in_ok-expand.ensures.grows below (c.loop-k.invariant.all few short made)
          (c.in_ok-expand.ensures.expanded few (c.loop-k.invariant.made few short made));
      made = λ few short made. c.in_ok-expand.ensures.made few short below (c.loop-k.invariant.made few short made);
      back = λ few short made back. c.in_ok-expand.ensures.back few short below (c.loop-k.invariant.made few short made)
          (c.loop-k.invariant.back few short made back);
    }

pub returns-then-k-as_slice-clause-all : goal.returns-then-k-as_slice-clause-all
returns-then-k-as_slice-clause-all c few short made all k ids low here =
    let many = ap (λ (xs : List (List ℕ)). length xs) c.as_slice.ensures in
    let past = c.if-k-as_slice.true in
    let view = ap (λ (s : Store). length s.states) c.self.view_is in
    let below : k < c.loop-k.k = omega (arith, many, past, view, low) in
    c.loop-k.invariant.all few short made k ids below here

pub returns-clause-all : goal.returns-clause-all
returns-clause-all c few short made all k ids low here =
    let many = ap (λ (xs : List (List ℕ)). length xs) c.as_slice-2.ensures in
    let past = c.loop-k-test.false in
    let view = ap (λ (s : Store). length s.states) c.self-2.view_is in
    let most = leb-true (length c.as_slice-2.result.now) c.args.limit all in
    let below : k < c.loop-k.k = omega (arith, many, past, view, low, most) in
    c.loop-k.invariant.all few short made k ids below here
