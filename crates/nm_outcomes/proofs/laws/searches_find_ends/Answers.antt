-- The law is a lemma.
use Rattle.std.specs.Prelude.{IsTrue}
use Rattle.nm_outcomes.proofs.SearchLemmas.{ends_found}
use Rattle.nm_outcomes.proofs.laws.searches_find_ends.Goals as goal

pub returns : goal.returns
returns c goes chosen ends found at enough explored =
    ends_found (λ s t. IsTrue (goes s t)) (λ s. IsTrue (ends s)) (λ x s. IsTrue (at x s))
    (λ x s t. IsTrue (chosen x s t)) enough (λ s. IsTrue (found s)) explored
