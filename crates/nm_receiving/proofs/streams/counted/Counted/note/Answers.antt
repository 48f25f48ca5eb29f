use Rattle.std.proofs.Common.{◌≡◌, ◌==◌, ◌||◌, ◌∙◌, ℕ, ap, arith, not, sym}
use Rattle.std.proofs.lemmas.Bool.Decides.{nat_tests}
use Rattle.nm_types.proofs.NumberLemmas.{same_number}
use Rattle.nm_types.proofs.TruthLemmas.{and_left, and_right}
use Rattle.nm_receiving.specs.StreamViews.{counts}
use Rattle.nm_receiving.proofs.NumberLemmas.{counts-apart}
use Rattle.nm_receiving.proofs.streams.counted.Counted.note.Goals as goal

pub count-requires : goal.count-requires
count-requires c =
    let next = c.args.self.now.next in
    let few = and_right (c.args.n == next) (not (next == 18446744073709551615)) (sym c.is_next.ensures
    ∙ c.if-is_next.true) in
    grind (arith, nat_tests)

pub returns-then-is_next : goal.returns-then-is_next
returns-then-is_next c = λ m.
    let old = c.args.self.now in
    let is : c.args.n ≡ old.next = same_number c.args.n old.next
    (and_left (c.args.n == old.next) _ (sym c.is_next.ensures ∙ c.if-is_next.true)) in
    c.count.ensures.counted m ∙ ap (λ (k : ℕ). counts old.next old.apart.blocks m || k == m) (sym is)

pub returns : goal.returns
returns c = λ m.
    counts-apart c.args.self.now.next c.args.self.now.apart.blocks c.add.new.self.blocks c.args.n m (c.add.ensures m)
