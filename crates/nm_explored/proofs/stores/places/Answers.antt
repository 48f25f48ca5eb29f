-- One number more, and all of them.
use Rattle.std.proofs.Common.{◌≡◌, ℕ, ◌+◌, ◌∷◌, [], ◌++◌, List, sym, ◌∙◌, ap, arith}
use Rattle.std.specs.List.{range_with_len}
use Rattle.nm_explored.proofs.PackLemmas.{places_next}
use Rattle.nm_explored.proofs.stores.places.Goals as goal

pub loop-k-init : goal.loop-k-init
loop-k-init c = record { are = c.in_ok-all.ensures.items; low = omega arith }

pub loop-k-preserved : goal.loop-k-preserved
loop-k-preserved c =
    let test = c.loop-k-test.true in
    let e : 0 + c.loop-k.k ≡ c.loop-k.k = omega arith in
    record {
      are = c.in_ok-push.ensures.items ∙ ap (λ (xs : List ℕ). xs ++ c.loop-k.k ∷ []) c.loop-k.invariant.are
          ∙ ap (λ (k : ℕ). range_with_len 0 c.loop-k.k ++ k ∷ []) (sym e) ∙ sym (places_next 0 c.loop-k.k);
      low = omega (arith, test);
    }

pub returns : goal.returns
returns c =
    let end = c.loop-k-test.false in
    let low = c.loop-k.invariant.low in
    let e : c.loop-k.k ≡ c.args.count = omega (arith, end, low) in
    c.loop-k.invariant.are ∙ ap (λ (k : ℕ). range_with_len 0 k) e
