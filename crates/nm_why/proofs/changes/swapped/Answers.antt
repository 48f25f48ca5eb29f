-- Two places are exchanged where both are there.
use Rattle.std.proofs.Common.{List, ℕ, ◌∙◌, ap, arith, length}
use Rattle.std.proofs.lemmas.Grind.{common_steps}
use Rattle.std.proofs.lemmas.List.FromFn.{length-range_with_len}
use Rattle.nm_why.proofs.PartLemmas.{swap_off, swap_off_too, swap_on}
use Rattle.nm_why.proofs.changes.swapped.Goals as goal

pub returns-then-place-count : goal.returns-then-place-count
returns-then-place-count c =
    c.in_ok-places.ensures ∙ swap_off c.args.count c.args.place c.args.other c.if-place-count.true

pub returns-then-other-count : goal.returns-then-other-count
returns-then-other-count c =
    c.in_ok-places.ensures ∙ swap_off_too c.args.count c.args.place c.args.other c.if-other-count.true

pub index_mut-requires : goal.index_mut-requires
index_mut-requires c =
    let len = ap (λ (places : List ℕ). length places) c.in_ok-places.ensures ∙ length-range_with_len 0 c.args.count in
    omega (arith, len, c.if-place-count.false)

pub index_mut-requires-2 : goal.index_mut-requires-2
index_mut-requires-2 c =
    let len = ap (λ (places : List ℕ). length places) c.in_ok-places.ensures ∙ length-range_with_len 0 c.args.count in
    grind (arith, common_steps)

pub returns : goal.returns
returns c =
    let on = swap_on c.args.count c.args.place c.args.other c.if-place-count.false c.if-other-count.false in
    grind (arith, common_steps)
