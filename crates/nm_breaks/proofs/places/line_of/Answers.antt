use Rattle.std.proofs.Common.{ℕ, ◌+◌, ◌∙◌, ap, arith}
use Rattle.nm_breaks.proofs.EventLemmas.{front_same, some_le}
use Rattle.nm_breaks.proofs.places.line_of.Goals as goal

pub events_in-requires : goal.events_in-requires
events_in-requires c =
    let same = front_same c.args.ranks.now c.args.rank in
    let few = some_le c.args.ranks.now c.args.rank in
    let all = c.requires.short in
    omega (arith, same, few, all)

pub overflow_add-result : goal.overflow_add-result
overflow_add-result c =
    let is = c.events_in.ensures in
    let same = front_same c.args.ranks.now c.args.rank in
    let few = some_le c.args.ranks.now c.args.rank in
    let all = c.requires.short in
    let early = c.requires.early in
    omega (arith, is, same, few, all, early)

pub overflow_add-result-2 : goal.overflow_add-result-2
overflow_add-result-2 c =
    let is = c.events_in.ensures in
    let same = front_same c.args.ranks.now c.args.rank in
    let few = some_le c.args.ranks.now c.args.rank in
    let all = c.requires.short in
    let early = c.requires.early in
    omega (arith, is, same, few, all, early)

pub returns : goal.returns
returns c =
    ap (λ (n : ℕ). n + c.args.at + 1) (c.events_in.ensures ∙ front_same c.args.ranks.now c.args.rank)
