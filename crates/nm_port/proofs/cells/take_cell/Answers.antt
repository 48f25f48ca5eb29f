use Rattle.nm_port.proofs.SendLemmas.{had_miss}
use Rattle.nm_port.proofs.cells.take_cell.Goals as goal

pub returns-in-Err-clause-none : goal.returns-in-Err-clause-none
returns-in-Err-clause-none g c =
    had_miss c.args.q c.args.port.now c.dequeue.new.port _ _ c.in-Err.is c.dequeue.ensures.missed
