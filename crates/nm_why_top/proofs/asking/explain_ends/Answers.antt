-- The states at which a rank waits are those of a run that hangs.
use Rattle.std.proofs.Common.{ℕ, subst, sym}
use Rattle.nm_types.specs.Limits.{IsScript}
use Rattle.nm_why_top.proofs.FateLemmas.{none_hangs, stuck_hangs}
use Rattle.nm_why_top.proofs.asking.explain_ends.Goals as goal

pub explain-requires-clause-does : goal.explain-requires-clause-does
explain-requires-clause-does c =
    let lines = c.args.script.now.lines in
    let script = subst (λ (n : ℕ). IsScript n lines) (sym c.requires.equal) c.args.script.now.limits in
    let stuck = rw c.in-Some.is at (c.in_ok-states.ensures.some lines c.requires.ways) in
    c.aim_of-aim.ensures c.args.shape lines script c.requires.only
    (stuck_hangs c.ends_are_runs.ensures c.args.shape lines script c.in-Some.states.items stuck)

pub explain-requires-clause-stuck : goal.explain-requires-clause-stuck
explain-requires-clause-stuck c =
    rw c.in-Some.is at (c.in_ok-states.ensures.some c.args.script.now.lines c.requires.ways)

pub returns-in-None : goal.returns-in-None
returns-in-None c =
    none_hangs c.args.shape c.args.script.now.lines c.args.ends.now c.requires.tells
    (c.in_ok-states.ensures.none c.in-None.is)
