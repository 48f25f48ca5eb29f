-- Each step is one of the plain run, and where there is none the end is reached.
use Rattle.std.proofs.Common.{◌-◌, ℕ, List, ap, length, sym, ◌∙◌}
use Rattle.nm_sure.specs.Plain as spec
use Rattle.nm_sure.proofs.Fuel.{same_length}
use Rattle.nm_sure.proofs.Stepping.{chosen_next, step_last, step_none, step_on}
use Rattle.nm_sure.proofs.runs.Plan.reached.Goals as goal
use Rattle.nm_sure.proofs.runs.Plan.reached.Goals.{else-loop-test, then-loop-test+in-None}

pub run_next-requires-clause-next : goal.run_next-requires-clause-next
run_next-requires-clause-next c =
    chosen_next c.args.self.now.eager c.args.self.now.lines.now c.loop.reached.at.items c.in-Some.rank
    (sym c.next_rank.ensures ∙ c.in-Some.is)

pub loop-preserved : goal.loop-preserved
loop-preserved c = (
  c.run_next.ensures.ran,
  ap (λ (ns : List ℕ). length ns) c.run_next.ensures.at ∙ same_length c.loop.reached.at.items c.in-Some.rank
      ∙ c.loop.invariant.1,
  step_on c.args.self.now.eager c.args.self.now.lines.now c.loop.reached.at.items c.run_next.new.reached.at.items
      (spec.plain_end c.args.self.now.eager (length c.args.self.now.ranks.items) c.args.self.now.lines.now)
      c.in-Some.rank
      (length c.args.self.now.lines.now) c.loop.counter (sym c.next_rank.ensures ∙ c.in-Some.is) c.run_next.ensures.at
      c.loop-test.true c.loop.invariant.2,
)

pub returns : goal.returns
returns c =
    elim c.loop-test.branch [
      | else-loop-test w ↦
          step_last c.args.self.now.eager c.args.self.now.lines.now c.loop.reached.at.items
          (spec.plain_end c.args.self.now.eager (length c.args.self.now.ranks.items) c.args.self.now.lines.now)
          (length c.args.self.now.lines.now) c.loop.counter w.loop-test.false c.loop.invariant.2
      | then-loop-test+in-None w ↦
          sym (step_none c.args.self.now.eager c.args.self.now.lines.now c.loop.reached.at.items
          (length c.args.self.now.lines.now - c.loop.counter) (sym w.next_rank.ensures ∙ w.in-None.is))
          ∙ c.loop.invariant.2
    ]
