-- A script's limits are what a run asks for.
use Rattle.std.proofs.Common.{◌≡◌, ℕ, List, rules, subst, sym}
use Rattle.nm_types.proofs.BodyLemmas.{all_in_range}
use Rattle.nm_types.specs.declared.scripts.Line.{Line}
use Rattle.nm_process.specs.Lines.{AreLines}
use Rattle.nm_world.proofs.whole.run.Goals as goal

pub run_lines-requires-clause-lines : goal.run_lines-requires-clause-lines
run_lines-requires-clause-lines g c lifetimes outlive =
    let script = c.args.script.now in
    let same : c.as_slice.result.now ≡ script.lines = search rules in
    subst (λ (ls : List Line). AreLines c.args.shape.ranks ls) (sym same)
    (subst (λ (n : ℕ). AreLines n script.lines) (sym c.requires.ranks)
    (record {
      few = script.limits.few_lines;
      in_range = all_in_range script.ranks script.lines script.limits.lines_in_range;
    }))
