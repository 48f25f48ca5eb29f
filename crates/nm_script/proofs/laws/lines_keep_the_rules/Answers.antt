-- A line that is read keeps every rule, and one that is refused breaks one.
use Rattle.std.proofs.Common.{refl}
use Rattle.nm_script.specs.Reading.{line_at}
use Rattle.nm_script.proofs.RuleLemmas.{line_kept, only_lines}
use Rattle.nm_script.proofs.laws.lines_keep_the_rules.Goals as goal

pub returns-clause-kept : goal.returns-clause-kept
returns-clause-kept c = line_kept

pub returns-clause-only : goal.returns-clause-only
returns-clause-only c ranks number total text few all = only_lines ranks number total text few all
    (line_at ranks number total text) refl
