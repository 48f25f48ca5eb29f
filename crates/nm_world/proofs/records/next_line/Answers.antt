-- The line of the command after those that ran.
use Rattle.std.proofs.Common.{sym, ap}
use Rattle.std.specs.Prelude.{option_map}
use Rattle.nm_types.specs.Commands.{Numbered}
use Rattle.nm_world.proofs.records.next_line.Goals as goal

pub returns-in-Some-clause-line : goal.returns-in-Some-clause-line
returns-in-Some-clause-line g c commands last given =
    sym (ap (option_map (λ (n : Numbered). n.line)) (c.in-Some.ensures.next commands last given).next)

pub returns-in-None-clause-line : goal.returns-in-None-clause-line
returns-in-None-clause-line g c commands last given =
    sym (ap (option_map (λ (n : Numbered). n.line)) (c.in-None.ensures.next commands last given))
