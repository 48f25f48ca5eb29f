-- What was taken is in range.
use Rattle.std.proofs.Common.{map, string_bytes, subst}
use Rattle.nm_script.specs.CommandWords.{ReadsArguments, nothing}
use Rattle.nm_script.proofs.RangeLemmas.{all_within, nothing_within, taken_within}
use Rattle.nm_script.proofs.command_line.read.Goals as goal

pub returns-clause-within : goal.returns-clause-within
returns-clause-within c =
    let others = map string_bytes c.in_ok-first.others.now in
    let found = c.in_ok-found.found in
    let follows = subst (λ f. ReadsArguments f others found) c.nothing.ensures c.in_ok-found.ensures.follows in
    taken_within c.in_ok-mode.mode found c.unwrap_or.result c.unwrap_or-2.result
    (all_within nothing found others follows nothing_within) c.in_ok-mode.ensures.asked.2
    c.unwrap_or.ensures c.unwrap_or-2.ensures
