-- The commands that the scripts give are those of the ranks.
use Rattle.std.proofs.Common.{◌∙◌, ℕ, sym, subst}
use Rattle.nm_types.specs.Limits.{IsScript}
use Rattle.nm_process.specs.Lines.{AreLines}
use Rattle.nm_history.specs.Quiescence.{commands_by_rank}
use Rattle.nm_channels.proofs.Run.{in_range_from}
use Rattle.nm_world.specs.ByRank.{AreScripts}
use Rattle.nm_world.proofs.ByRank.{scripts_begin, scripts_give}
use Rattle.nm_world.proofs.whole.run_lines.Goals as goal

pub scripts_by_rank-requires : goal.scripts_by_rank-requires
scripts_by_rank-requires g c = record {
  script = subst (λ (n : ℕ). IsScript n c.args.lines.now) (sym c.ranks.ensures.value) c.requires.script;
  lines = subst (λ (n : ℕ). AreLines n c.args.lines.now) (sym c.ranks.ensures.value) c.requires.lines;
}

pub run_sources-requires-clause-many : goal.run_sources-requires-clause-many
run_sources-requires-clause-many g c lifetimes outlive = c.in_ok-scripts.ensures.many ∙ c.ranks.ensures.value

pub run_sources-requires-clause-begins : goal.run_sources-requires-clause-begins
run_sources-requires-clause-begins g c lifetimes outlive =
    scripts_begin c.args.shape.ranks c.args.lines.now 0 c.in_ok-scripts.scripts.items
    (subst (λ (n : ℕ). AreScripts n c.args.lines.now 0 c.in_ok-scripts.scripts.items) c.ranks.ensures.value
    c.in_ok-scripts.ensures.scripts)

pub returns-clause-run : goal.returns-clause-run
returns-clause-run g c =
    let lines = c.args.lines.now in
    let shape = c.args.shape in
    let left = c.in_ok-left.left in
    c.in_ok-left.ensures.run (commands_by_rank lines)
    (λ i. in_range_from shape.ranks i 2 lines c.requires.script.lines_in_range)
    (scripts_give c.ranks.result lines 0 c.in_ok-scripts.scripts.items left.sources.items
    c.in_ok-scripts.ensures.scripts c.in_ok-left.ensures.goes_on)
