use Rattle.std.proofs.Common.{◌≡◌, ◌*◌, ◌≤◌, List, ◌+◌, ◌∙◌, ap, arith, take}
use Rattle.std.proofs.lemmas.List.{get_or-replicate, take_all}
use Rattle.nm_history.specs.declared.events.Event.{Event}
use Rattle.nm_history.specs.Outgoing.{packets_of_events}
use Rattle.nm_check.specs.Counting.{load_to}
use Rattle.nm_check.proofs.CountingLemmas.{due_same, one_event}
use Rattle.nm_check.proofs.MiscountLemmas.{few_more}
use Rattle.nm_check.proofs.rest.counts.counts_of_events.Goals as goal

pub loop-e-init : goal.loop-e-init
loop-e-init c = (λ to low. get_or-replicate 256 to 0 0 low, λ to. omega arith)

pub loop-e-preserved : goal.loop-e-preserved
loop-e-preserved c = (
  due_same c.add.new.counts (λ to. packets_of_events to (take c.loop-e.e-index c.args.events.now) + load_to to
      c.load_of_event.result)
      (λ to. packets_of_events to (take (c.loop-e.e-index + 1) c.args.events.now))
      (λ to. ap (λ n. packets_of_events to (take c.loop-e.e-index c.args.events.now) + n)
      (c.load_of_event.ensures.exact to)
      ∙ one_event c.args.events.now c.loop-e.e-index c.e-item.result to c.loop-e-test.true c.e-item.is)
      (c.add.ensures (λ to. packets_of_events to (take c.loop-e.e-index c.args.events.now)) c.loop-e.invariant.0),
  λ to.
      few_more c.args.events.now c.loop-e.e-index c.e-item.result c.load_of_event.result to c.loop-e-test.true
      c.e-item.is
      (c.loop-e.invariant.1 to) (c.load_of_event.ensures.exact to) c.load_of_event.ensures.few,
)

pub returns-clause-exact : goal.returns-clause-exact
returns-clause-exact c =
    due_same c.loop-e.counts (λ to. packets_of_events to (take c.loop-e.e-index c.args.events.now))
    (λ to. packets_of_events to c.args.events.now)
    (λ to. ap (λ (h : List Event). packets_of_events to h)
    (take_all c.loop-e.e-index c.args.events.now c.loop-e-test.false)) c.loop-e.invariant.0

pub returns-clause-few : goal.returns-clause-few
returns-clause-few c = λ to.
    let all : packets_of_events to (take c.loop-e.e-index c.args.events.now) ≡ packets_of_events to c.args.events.now =
    ap (λ (h : List Event). packets_of_events to h) (take_all c.loop-e.e-index c.args.events.now c.loop-e-test.false) in
    let few : packets_of_events to (take c.loop-e.e-index c.args.events.now) ≤ c.loop-e.e-index * 4294967295 =
    c.loop-e.invariant.1 to in
    omega (arith, all, few, c.loop-e.auto.e-index-end)
