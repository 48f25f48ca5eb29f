-- The lines of a script are not the one between.
use Rattle.std.proofs.Common.{◌++◌, inl, refl, sym, ◌∙◌, subst, codes}
use Rattle.nm_script.proofs.ReadLemmas.{script_lines}
use Rattle.nm_shell.specs.Inputs.{IsOnlyCut}
use Rattle.nm_shell.proofs.CutLemmas.{cut_off}
use Rattle.nm_shell.proofs.ScriptLemmas.{script_before, text_of_lines}
use Rattle.nm_shell.proofs.laws.scripts_are_cut_off.Goals as goal

pub returns-clause-input : goal.returns-clause-input
returns-clause-input c ranks lines script rest text short =
    let limits = text.limits in
    let before = script_before ranks lines limits.few_ranks (limits.lines_in_range, text.in_part) in
    let written = sym (text_of_lines ranks lines) ∙ c.read_is_written.ensures script ranks lines text in
    record {
      short = short;
      cut = subst (λ front. IsOnlyCut (front ++ (codes "---\n" ++ rest)) front rest) written
          (cut_off (script_lines ranks lines) (codes "---\n" ++ rest) rest before (inl refl));
    }

pub returns-clause-script : goal.returns-clause-script
returns-clause-script c ranks lines script text = record {
  spelled = inl (sym (c.read_is_written.ensures script ranks lines text));
  limits = text.limits;
  in_part = text.in_part;
}
