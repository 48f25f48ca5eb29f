use Rattle.std.proofs.Common.{◌<◌, ◌==◌, ◌∙◌, arith, not, sym}
use Rattle.std.proofs.lemmas.Bool.Decides.{nat_tests}
use Rattle.nm_types.proofs.TruthLemmas.{and_right}
use Rattle.nm_receiving.proofs.NumberLemmas.{counts-there}
use Rattle.nm_receiving.proofs.streams.counted.Counted.absorb_one.Goals as goal

pub count-requires : goal.count-requires
count-requires c =
    let next = c.args.self.now.next in
    let few = and_right (next == next) (not (next == 18446744073709551615)) (sym c.is_next.ensures
    ∙ c.if-not-is_next.false) in
    grind (arith, nat_tests)

pub returns-clause-same : goal.returns-clause-same
returns-clause-same c = λ m.
    c.count.ensures.counted m
    ∙ counts-there c.args.self.now.next c.args.self.now.apart.blocks m (sym c.has.ensures ∙ c.if-not-has.false)

pub returns-clause-fewer : goal.returns-clause-fewer
returns-clause-fewer c = λ _.
    let next = c.args.self.now.next in
    let few = and_right (next == next) (not (next == 18446744073709551615)) (sym c.is_next.ensures
    ∙ c.if-not-is_next.false) in
    let low : next < 18446744073709551615 = grind (arith, nat_tests) in
    omega (arith, low, c.count.ensures.next)
