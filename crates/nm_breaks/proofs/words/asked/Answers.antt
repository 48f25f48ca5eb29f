-- The words are those of a check, or not.
use Rattle.std.proofs.Common.{◌≡◌, None, Some}
use Rattle.nm_script.specs.declared.command_line.CommandLine.{CommandLine}
use Rattle.nm_breaks.proofs.words.asked.Goals as goal

no_line : (line : CommandLine) → None ≡ Some line → ⊥
no_line line h = cc

pub returns-in-None-clause-asked : goal.returns-in-None-clause-asked
returns-in-None-clause-asked c = λ line asked. no_line line (c.in-None.ensures.takes line asked.0)

pub returns-in-None-clause-only : goal.returns-in-None-clause-only
returns-in-None-clause-only c = λ line asked. absurd (no_line line (c.in-None.ensures.takes line asked.0))

pub returns-in-Check-clause-only : goal.returns-in-Check-clause-only
returns-in-Check-clause-only c = λ line asked. c.in-Some.ensures.takes line asked.0
