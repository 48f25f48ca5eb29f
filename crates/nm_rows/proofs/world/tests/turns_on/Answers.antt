-- The lines of the script are those of a run.
use Rattle.std.proofs.Common.{◌≡◌, ℕ, subst, sym}
use Rattle.nm_types.specs.Limits.{IsScript}
use Rattle.nm_process.specs.Lines.{AreLines}
use Rattle.nm_rows.proofs.world.tests.turns_on.Goals as goal
use Rattle.nm_types.proofs.BodyLemmas.{all_in_range}

pub turns_of-requires : goal.turns_of-requires
turns_of-requires c =
    let script = c.args.script.now in
    record {
      lines = subst (AreLines 2) (sym c.as_slice.ensures)
          (subst (λ (n : ℕ). AreLines n script.lines) c.requires
          (record {
            few = script.limits.few_lines;
            in_range = all_in_range script.ranks script.lines script.limits.lines_in_range;
          }));
      script = subst (IsScript 2) (sym c.as_slice.ensures)
          (subst (λ (n : ℕ). IsScript n script.lines) c.requires script.limits);
    }
