-- The way leads to states of a run that hangs.
use Rattle.std.proofs.Common.{ℕ, subst, sym}
use Rattle.nm_types.specs.Limits.{IsScript}
use Rattle.nm_explored.specs.Met.{IsWay}
use Rattle.nm_why_top.specs.declared.seeking.Sought.TheVariants as sought
use Rattle.nm_why_top.proofs.SeekLemmas.{stuck_by, way_runs}
use Rattle.nm_why_top.proofs.asking.explain_way.Goals as goal

pub explain-requires-clause-does : goal.explain-requires-clause-does
explain-requires-clause-does c =
    let lines = c.args.script.now.lines in
    c.in_ok-aim.ensures
    (way_runs c.ends_are_runs.ensures sought.Hang c.args.shape lines
    (subst (λ (n : ℕ). IsScript n lines) (sym c.requires.equal) c.args.script.now.limits) c.args.path.now
    c.requires.way)

pub explain-requires-clause-stuck : goal.explain-requires-clause-stuck
explain-requires-clause-stuck c =
    let way = c.requires.way in
    let lines = c.args.script.now.lines in
    stuck_by c.args.shape lines c.args.path.now c.in_ok-states.states.items way
    (c.in_ok-states.ensures.way c.args.shape.eager lines way.state
    (subst (λ (n : ℕ). IsWay c.args.shape.eager n lines c.args.path.now way.state) (sym c.ranks.ensures.value)
    way.way))
