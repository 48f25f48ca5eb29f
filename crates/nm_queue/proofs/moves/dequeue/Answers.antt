use Rattle.std.proofs.Common.{◌<◌, ◌∙◌, inl, inr, sym, subst, arith}
use Rattle.nm_chain.specs.declared.table.table.Heads.{Heads}
use Rattle.nm_chain.specs.declared.table.table.Look.TheVariants.{TailElsewhere}
use Rattle.nm_chain.specs.Plays.{heads_of}
use Rattle.nm_cells.specs.Ports.{own_of, knows}
use Rattle.nm_queue.specs.Moves.{shadow_of}
use Rattle.nm_queue.proofs.MoveLemmas.{unmoved_first, unmoved_look, takes_since, leaves_since, heads_stand}
use Rattle.nm_queue.proofs.MoveLemmas.{missed_since, cost_last, cost_other, finding_few}
use Rattle.nm_queue.proofs.moves.dequeue.Goals as goal

pub returns-then-not-find_first-clause-missed : goal.returns-then-not-find_first-clause-missed
returns-then-not-find_first-clause-missed g c = (c.find_first.ensures.missed c.if-not-find_first.true).0

pub returns-then-not-find_first-clause-cost : goal.returns-then-not-find_first-clause-cost
returns-then-not-find_first-clause-cost g c = (c.find_first.ensures.missed c.if-not-find_first.true).1

pub returns-then-not-find_first-clause-bound : goal.returns-then-not-find_first-clause-bound
returns-then-not-find_first-clause-bound g c =
    let one = (c.find_first.ensures.missed c.if-not-find_first.true).1 in omega (arith, one)

-- the first cell has a next one
pub returns-in-Some-clause-took : goal.returns-in-Some-clause-took
returns-in-Some-clause-took g c = let p = c.args.port.now in let m = c.find_first.new.port in
    let found = (c.find_first.ensures.found c.if-not-find_first.false).0 in
    takes_since (own_of c.args.q) c.args.f.now p m c.load_link.new.port c.in-Some.cell
    (unmoved_first c.args.q p m c.find_first.ensures.owns.1 found) c.in-Some.ensures.some

pub returns-in-Some-clause-cost : goal.returns-in-Some-clause-cost
returns-in-Some-clause-cost g c = let p = c.args.port.now in let q = c.args.q in
    let steps = (c.find_first.ensures.found c.if-not-find_first.false).1 in let one = c.load_link.ensures.cost in
    cost_other c.in-Some.cell (shadow_of q p) (shadow_of q c.load_link.new.port) _ _ c.in-Some.ensures.next
    (inl (omega (arith, steps, one)))

pub returns-in-Some-clause-bound : goal.returns-in-Some-clause-bound
returns-in-Some-clause-bound g c =
    let steps = (c.find_first.ensures.found c.if-not-find_first.false).1 in let one = c.load_link.ensures.cost in
    let few = finding_few (shadow_of c.args.q c.args.port.now) in omega (arith, steps, one, few)

-- the first cell is the last one
pub returns-in-Some-drop_tail-clause-took : goal.returns-in-Some-drop_tail-clause-took
returns-in-Some-drop_tail-clause-took g c = let p = c.args.port.now in let m = c.find_first.new.port in
    let b = own_of c.args.q in let none = c.in_default.ensures in
    let found = (c.find_first.ensures.found c.if-not-find_first.false).0 in
    takes_since b c.args.f.now p c.load_link.new.port c.drop_tail.new.port c.in-Some-drop_tail.cell
    (unmoved_look b _ p m c.load_link.new.port (unmoved_first c.args.q p m c.find_first.ensures.owns.1 found)
    none.none.0 none.owns.1 none.none.1)
    c.in-Some-drop_tail.ensures.some

pub returns-in-Some-drop_tail-clause-cost : goal.returns-in-Some-drop_tail-clause-cost
returns-in-Some-drop_tail-clause-cost g c = let p = c.args.port.now in let q = c.args.q in
    let steps = (c.find_first.ensures.found c.if-not-find_first.false).1 in
    let one = c.load_link.ensures.cost in let two = c.drop_tail.ensures.cost in
    cost_last c.in-Some-drop_tail.cell (shadow_of q p) (shadow_of q c.drop_tail.new.port) _ _
    c.in-Some-drop_tail.ensures.next (omega (arith, steps, one, two))

pub returns-in-Some-drop_tail-clause-bound : goal.returns-in-Some-drop_tail-clause-bound
returns-in-Some-drop_tail-clause-bound g c =
    let steps = (c.find_first.ensures.found c.if-not-find_first.false).1 in
    let one = c.load_link.ensures.cost in let two = c.drop_tail.ensures.cost in
    let few = finding_few (shadow_of c.args.q c.args.port.now) in omega (arith, steps, one, two, few)

-- the link of the first cell was stored late
pub returns-in-Some-reload_link-clause-took : goal.returns-in-Some-reload_link-clause-took
returns-in-Some-reload_link-clause-took g c = let p = c.args.port.now in let m = c.find_first.new.port in
    let b = own_of c.args.q in
    let none = c.in_default.ensures in let tail = c.in_default-drop_tail.ensures in
    let found = (c.find_first.ensures.found c.if-not-find_first.false).0 in
    takes_since b c.args.f.now p c.drop_tail.new.port c.reload_link.new.port c.in-Some-reload_link.cell
    (unmoved_look b TailElsewhere p c.load_link.new.port c.drop_tail.new.port
    (unmoved_look b _ p m c.load_link.new.port (unmoved_first c.args.q p m c.find_first.ensures.owns.1 found)
    none.none.0 none.owns.1 none.none.1)
    tail.none.0 tail.owns.1 tail.none.1)
    c.in-Some-reload_link.ensures.some

pub returns-in-Some-reload_link-clause-cost : goal.returns-in-Some-reload_link-clause-cost
returns-in-Some-reload_link-clause-cost g c = let p = c.args.port.now in let q = c.args.q in
    let steps = (c.find_first.ensures.found c.if-not-find_first.false).1 in
    let one = c.load_link.ensures.cost in let two = c.drop_tail.ensures.cost in
    let three = c.reload_link.ensures.cost in
    cost_other c.in-Some-reload_link.cell (shadow_of q p) (shadow_of q c.reload_link.new.port) _ _
    c.in-Some-reload_link.ensures.next (inr (omega (arith, steps, one, two, three)))

pub returns-in-Some-reload_link-clause-bound : goal.returns-in-Some-reload_link-clause-bound
returns-in-Some-reload_link-clause-bound g c =
    let steps = (c.find_first.ensures.found c.if-not-find_first.false).1 in
    let one = c.load_link.ensures.cost in let two = c.drop_tail.ensures.cost in
    let three = c.reload_link.ensures.cost in
    let few = finding_few (shadow_of c.args.q c.args.port.now) in omega (arith, steps, one, two, three, few)

-- it is still missing
pub returns-in-None-clause-missed : goal.returns-in-None-clause-missed
returns-in-None-clause-missed g c = let p = c.args.port.now in let q = c.args.q in let b = own_of q in
    let m = c.find_first.new.port in let linked = c.load_link.new.port in
    let tailed = c.drop_tail.new.port in let last = c.reload_link.new.port in
    let found = (c.find_first.ensures.found c.if-not-find_first.false).0 in
    let heads = heads_of b (knows m) in
    let none = c.in_default.ensures in let tail = c.in_default-drop_tail.ensures in let again = c.in-None.ensures in
    let stands = heads_stand b _ TailElsewhere heads (knows p) (knows m) (knows linked) (knows tailed) (knows last)
    found.knows none.none.0 tail.none.0 again.none.0 in
    record {
      some = subst (λ (x : Heads). 0 < x.shadow) (sym stands) found.some;
      same = λ was. stands ∙ found.same was;
      knows = missed_since b _ TailElsewhere heads (knows p) (knows m) (knows linked) (knows tailed) (knows last)
          found.knows none.none.0 tail.none.0 again.none.0;
      leaves = leaves_since b p tailed last
          (unmoved_look b TailElsewhere p linked tailed
          (unmoved_look b _ p m linked (unmoved_first q p m c.find_first.ensures.owns.1 found)
          none.none.0 none.owns.1 none.none.1)
          tail.none.0 tail.owns.1 tail.none.1) again.none.1;
    }

pub returns-in-None-clause-cost : goal.returns-in-None-clause-cost
returns-in-None-clause-cost g c = let steps = (c.find_first.ensures.found c.if-not-find_first.false).1 in
    let one = c.load_link.ensures.cost in let two = c.drop_tail.ensures.cost in
    let three = c.reload_link.ensures.cost in omega (arith, steps, one, two, three)

pub returns-in-None-clause-bound : goal.returns-in-None-clause-bound
returns-in-None-clause-bound g c = let steps = (c.find_first.ensures.found c.if-not-find_first.false).1 in
    let one = c.load_link.ensures.cost in let two = c.drop_tail.ensures.cost in
    let three = c.reload_link.ensures.cost in
    let few = finding_few (shadow_of c.args.q c.args.port.now) in omega (arith, steps, one, two, three, few)
