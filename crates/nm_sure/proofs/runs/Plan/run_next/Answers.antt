-- The line of the next command ran, and one more of its rank.
use Rattle.std.proofs.Common.{◌≡◌, ◌+◌, ◌<◌, ℕ, List, Some, true, ap, arith, length, subst, sym, ◌∙◌}
use Rattle.std.specs.Prelude.{slice_set}
use Rattle.nm_sure.specs.PlainText.{waits_at}
use Rattle.nm_sure.specs.Planned.{AreRan}
use Rattle.nm_sure.proofs.Running.{next_number}
use Rattle.nm_sure.proofs.Stepping.{at_read, next_command, next_within, ran_more}
use Rattle.nm_sure.proofs.runs.Plan.run_next.Goals as goal
use Rattle.nm_sure.proofs.runs.Plan.run_next.Goals.{In-Some}

chosen : (c : In-Some) → waits_at c.args.self.now.lines.now c.args.reached.now.at.items c.args.rank
    ≡ Some c.in-Some.number
chosen c =
    ap (λ (at : List ℕ). waits_at c.args.self.now.lines.now at c.args.rank) (sym c.as_slice.ensures.value)
    ∙ sym c.next.ensures ∙ c.in-Some.is

pub place_of-requires : goal.place_of-requires
place_of-requires c =
    (next_number c.args.self.now.lines.now c.args.self.now.ranks.items _ _ c.args.self.now.right
    c.args.reached.now.at.items c.args.rank
    c.in-Some.number (chosen (goal.at.place_of-requires c).In-Some)).0

pub index_mut-requires : goal.index_mut-requires
index_mut-requires c =
    let below = (next_number c.args.self.now.lines.now c.args.self.now.ranks.items _ _ c.args.self.now.right
    c.args.reached.now.at.items c.args.rank
    c.in-Some.number (chosen (goal.at.index_mut-requires c).In-Some)).1 in
    let place = c.place_of.ensures in
    let count = c.requires.ran.count in
    omega (arith, below, place, count)

pub index_mut-requires-in-Some : goal.index_mut-requires-in-Some
index_mut-requires-in-Some c =
    let below = (next_within c.args.self.now.lines.now c.args.self.now.ranks.items _ _ c.args.reached.now.at.items
    c.args.rank
    c.requires.next.0 c.args.self.now.right c.requires.next.1).0 in
    let same = c.requires.ranks in
    omega (arith, below, same)

pub overflow_add-index_mut : goal.overflow_add-index_mut
overflow_add-index_mut c =
    let next = next_within c.args.self.now.lines.now c.args.self.now.ranks.items _ _ c.args.reached.now.at.items
    c.args.rank
    c.requires.next.0 c.args.self.now.right c.requires.next.1 in
    let rank = next.0 in
    let same = c.requires.ranks in
    let low : c.args.rank < length c.args.reached.now.at.items = omega (arith, rank, same) in
    let is = at_read c.args.reached.now.at.items c.args.rank c.index_mut-in-Some.result.now low
    c.index_mut-in-Some.ensures.value in
    let few = next.1 in
    let small : c.index_mut-in-Some.result.now + 1 < 18446744073709551616 = omega (arith, is, few) in
    search (arith, small)

pub returns-in-Some-clause-at : goal.returns-in-Some-clause-at
returns-in-Some-clause-at c =
    let next = next_within c.args.self.now.lines.now c.args.self.now.ranks.items _ _ c.args.reached.now.at.items
    c.args.rank
    c.requires.next.0 c.args.self.now.right c.requires.next.1 in
    let rank = next.0 in
    let same = c.requires.ranks in
    ap (λ (n : ℕ). slice_set c.args.reached.now.at.items c.args.rank (n + 1))
    (at_read c.args.reached.now.at.items c.args.rank c.index_mut-in-Some.result.now (omega (arith, rank, same))
    c.index_mut-in-Some.ensures.value)

pub returns-in-Some-clause-ran : goal.returns-in-Some-clause-ran
returns-in-Some-clause-ran c =
    let next = next_within c.args.self.now.lines.now c.args.self.now.ranks.items _ _ c.args.reached.now.at.items
    c.args.rank
    c.requires.next.0 c.args.self.now.right c.requires.next.1 in
    let rank = next.0 in
    let same = c.requires.ranks in
    let low : c.args.rank < length c.args.reached.now.at.items = omega (arith, rank, same) in
    let here = next_command c.args.self.now.lines.now c.args.reached.now.at.items c.args.rank c.in-Some.number
    (chosen (goal.at.returns-in-Some-clause-ran c).In-Some) in
    subst (λ (at : List ℕ). AreRan c.args.self.now.lines.now at
    (slice_set c.args.reached.now.ran.items c.place_of.result true))
    (sym (ap (λ (n : ℕ). slice_set c.args.reached.now.at.items c.args.rank (n + 1))
    (at_read c.args.reached.now.at.items c.args.rank c.index_mut-in-Some.result.now low
    c.index_mut-in-Some.ensures.value)))
    (ran_more c.args.self.now.lines.now c.args.reached.now.at.items c.args.reached.now.ran.items c.args.rank here.0
    c.place_of.result
    c.requires.ran here.1 (here.2 ∙ sym c.place_of.ensures) low)
