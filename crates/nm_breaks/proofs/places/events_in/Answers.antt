use Rattle.std.proofs.Common.{◌≡◌, ◌+◌, ◌∙◌, refl, sym, ap, arith, length, take}
use Rattle.nm_report.specs.Ends.{ends_of}
use Rattle.nm_breaks.specs.Places.{events_in}
use Rattle.nm_breaks.proofs.EventLemmas.{all_of, one_more, some_le}
use Rattle.nm_breaks.proofs.places.events_in.Goals as goal
use Rattle.nm_breaks.proofs.places.events_in.Goals.{After-as_slice}

pub loop-rank-init : goal.loop-rank-init
loop-rank-init c = refl

-- the events with one rank more, which are no more than all
more : (c : After-as_slice) →
    c.loop-rank.events + length c.as_slice.result.now ≡ events_in
    (take (c.loop-rank.rank-index + 1) (ends_of c.args.ranks.now))
more c =
    ap (λ n. n + length c.as_slice.result.now) c.loop-rank.invariant
    ∙ ap (λ n. events_in (take c.loop-rank.rank-index (ends_of c.args.ranks.now)) + n) (ap length c.as_slice.ensures)
    ∙ sym (one_more c.args.ranks.now c.loop-rank.rank-index c.rank-item.result c.loop-rank-test.true c.rank-item.is)

pub overflow_cast-events : goal.overflow_cast-events
overflow_cast-events c =
    let next = more c in
    let few = some_le c.args.ranks.now (c.loop-rank.rank-index + 1) in
    let all = c.requires in
    omega (arith, next, few, all)

pub overflow_add-events : goal.overflow_add-events
overflow_add-events c =
    let next = more c in
    let few = some_le c.args.ranks.now (c.loop-rank.rank-index + 1) in
    let all = c.requires in
    omega (arith, next, few, all)

pub loop-rank-preserved : goal.loop-rank-preserved
loop-rank-preserved c = more c

pub returns : goal.returns
returns c =
    c.loop-rank.invariant ∙ ap events_in (all_of c.args.ranks.now c.loop-rank.rank-index c.loop-rank-test.false)
