-- It ends where an end does.
use Rattle.std.proofs.Common.{sym, ◌∙◌}
use Rattle.nm_why_top.proofs.FateLemmas.{some_ends}
use Rattle.nm_why_top.proofs.asking.aim_of.Goals as goal

pub returns-then-does_one_end : goal.returns-then-does_one_end
returns-then-does_one_end c = λ shape lines script only hangs. (
  hangs,
  some_ends c.ends_are_runs.ensures shape lines c.args.ends.now script only
      (sym c.does_one_end.ensures ∙ c.if-does_one_end.true),
)

pub returns : goal.returns
returns c = λ shape lines script only hangs. hangs
