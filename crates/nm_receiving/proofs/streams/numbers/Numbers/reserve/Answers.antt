use Rattle.std.proofs.Common.{◌∙◌, ℕ, List, ap, sym}
use Rattle.nm_receiving.specs.StreamViews.{counts}
use Rattle.nm_receiving.proofs.streams.numbers.Numbers.reserve.Goals as goal

pub invariant_of-self : goal.invariant_of-self
invariant_of-self c = λ m.
    let a = c.self.inside in
    c.self.invariant m
    ∙ sym (ap (λ (k : ℕ). counts k c.reserve.new.self.apart.blocks m) c.reserve.ensures.next
    ∙ ap (λ (l : List (ℕ × ℕ)). counts a.counted.next l m) c.reserve.ensures.apart)
