-- A script that was read has no fault, and a fault that was found is the first one.
use Rattle.std.proofs.Common.{arith}
use Rattle.uses.proofs.script.checking.checked.Goals as goal

pub returns-in-Ok-clause-fault : goal.returns-in-Ok-clause-fault
returns-in-Ok-clause-fault c line kind first = absurd (c.in-Ok.ensures.faults line kind first)

pub returns-in_ok-format-in-Err-Bad-clause-fault :
    goal.returns-in_ok-format-in-Err-Bad-clause-fault
returns-in_ok-format-in-Err-Bad-clause-fault c line kind first =
    let same = c.in-Err-Bad.ensures.faults line kind first in
    let text = c.in_ok-format-in-Err-Bad.ensures.ok in
    grind (arith, same, text, c.word.ensures)
