use Rattle.std.proofs.Common.{◌∙◌, ℕ, List, ap, sym}
use Rattle.nm_history.specs.Continues.{has}
use Rattle.nm_receiving.specs.StreamViews.{counts}
use Rattle.nm_receiving.proofs.NumberLemmas.{counts-none}
use Rattle.nm_receiving.proofs.streams.numbers.Numbers.new.Goals as goal

pub invariant_of-result : goal.invariant_of-result
invariant_of-result c = λ m.
    ap (λ (l : List ℕ). has l m) c.new.ensures ∙ counts-none m
    ∙ sym (ap (λ (k : ℕ). counts k c.new-2.result.apart.blocks m) c.new-2.ensures.next
    ∙ ap (λ (l : List (ℕ × ℕ)). counts 0 l m) c.new-2.ensures.apart)
