-- One place less.
use Rattle.std.proofs.Common.{List, ℕ, ◌<◌, arith, subst, sym}
use Rattle.std.proofs.lemmas.List.Quantifiers.{all_pairs_remove}
use Rattle.nm_why.specs.Least.{AreRising}
use Rattle.nm_why.proofs.least.drop_at.Goals as goal

pub returns-then-k-len : goal.returns-then-k-len
returns-then-k-len c = λ rising.
    subst (λ (places : List ℕ). AreRising places) (sym c.remove.ensures.items)
    (all_pairs_remove (λ j k. j < k) c.args.places.now.items c.args.k
    (omega (arith, c.if-k-len.true, c.len.ensures, c.args.places.now.ok.0)) rising)
