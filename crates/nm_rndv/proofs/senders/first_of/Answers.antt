use Rattle.std.proofs.Common.{◌∙◌, Bor, ℕ, [], refl, arith}
use Rattle.nm_kept.proofs.WindowLemmas.{lent-behind}
use Rattle.nm_rndv.proofs.senders.first_of.Goals as goal

pub returns : goal.returns
returns c =
    let open' = c.args.numbers.now in
    c.copied.ensures ∙ lent-behind (λ (x : Bor ℕ). x.now) [] open'.items 0 0 c.front.result refl
    (λ some. omega (arith, c.front.ensures.variant.0 some, open'.ok.0))
    (λ lt. c.front.ensures.variant.1 (omega (arith, lt, open'.ok.0))) c.front.ensures.lookup
