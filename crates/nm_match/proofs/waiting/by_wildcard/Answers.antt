-- One after another, in order of age.
use Rattle.std.proofs.Common.{◌≡◌, ℕ, List, [], ◌∷◌, ◌++◌, ap, sym, subst, ◌∙◌, append-nil, append_assoc}
use Rattle.nm_types.specs.declared.messages.Arrival.{Arrival}
use Rattle.nm_match.specs.Buckets.{Rising}
use Rattle.nm_match.specs.Picks.{picks_of_arrival}
use Rattle.nm_match.specs.Wildcards.{AreByWildcard}
use Rattle.nm_match.proofs.AgeLemmas.{first_buckets}
use Rattle.nm_match.proofs.waiting.by_wildcard.Goals as goal

pub loop-order-init : goal.loop-order-init
loop-order-init c = λ queue next are. (
  [],
  c.into_iter-order-iterator.ensures.into_iter_gives.0 ∙ c.in_ok-items.ensures queue next are,
  c.new-wildcards.ensures,
)

pub loop-order-preserved : goal.loop-order-preserved
loop-order-preserved c = λ queue next are.
    let before = c.loop-order.invariant queue next are in
    let done = before.0 in
    let x : ℕ × Arrival = (c.in-Some.order.now, c.in-Some.a.now) in
    let rest : List (ℕ × Arrival) = c.next.new.self in
    let whole : done ++ x ∷ rest ≡ queue =
    ap (λ (l : List (ℕ × Arrival)). done ++ l) (sym c.in-Some.ensures.steps) ∙ before.1 in
    let rising : Rising (done ++ x ∷ rest) =
    subst (λ (l : List (ℕ × Arrival)). Rising l) (sym whole) are.rising in (
      done ++ x ∷ [],
      append_assoc done (x ∷ []) rest ∙ whole,
      c.in_ok-put.ensures done _ (first_buckets picks_of_arrival done x rest rising) before.2,
    )

pub returns : goal.returns
returns c = λ queue next are.
    let before = c.loop-order.invariant queue next are in
    let done = before.0 in
    subst (λ (l : List (ℕ × Arrival)). AreByWildcard l c.loop-order.wildcards)
    (sym (append-nil done) ∙ ap (λ (l : List (ℕ × Arrival)). done ++ l) (sym c.in-None.ensures.steps.0) ∙ before.1)
    before.2
