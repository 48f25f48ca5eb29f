-- A miss changes none of the lists.
use Rattle.std.proofs.Common.{◌≡◌, subst}
use Rattle.std.specs.Prelude.{Err, IfErr, Result}
use Rattle.nm_chain.specs.Plays.{heads_of}
use Rattle.nm_cells.specs.declared.cell.Cell.{Cell}
use Rattle.nm_cells.specs.declared.cell.Queue.{Queue}
use Rattle.nm_cells.specs.declared.port.Port.{Port}
use Rattle.nm_cells.specs.Ports.{own_of, knows}
use Rattle.nm_queue.specs.Moves.{Misses}
use Rattle.nm_queue.specs.declared.moves.Miss.{Miss}
use Rattle.nm_queue.specs.declared.moves.Miss.TheVariants.{HeadEmpty, LinkMissing}
use Rattle.uses.specs.QueueCrossings.{SameLists}
use Rattle.uses.specs.declared.letters.Letter.{Letter}
use Rattle.uses.proofs.QueueFronts.{lists_missed, lists_late}
use Rattle.uses.proofs.queue.first.take_first.Goals as goal

lists_same : (q : Queue) (old new : Port Letter) (r : Result Cell Miss) (m : Miss) → r ≡ Err m
    → IfErr r (λ why. Misses q why old new) → SameLists (knows old) (knows new) × (new.hands ≡ old.hands)
lists_same q old new r m is miss = by m (subst (λ x. IfErr x (λ why. Misses q why old new)) is miss) where
  by : (m : Miss) → Misses q m old new → SameLists (knows old) (knows new) × (new.hands ≡ old.hands)
  by HeadEmpty h = (lists_missed (own_of q) (knows old) (knows new) h.knows, h.leaves.hands)
  by LinkMissing h = (
    lists_late (own_of q) (heads_of (own_of q) (knows new)) (knows old) (knows new) h.knows,
    h.leaves.hands,
  )

pub returns-in-Err-clause-none : goal.returns-in-Err-clause-none
returns-in-Err-clause-none g c =
    lists_same c.args.q c.args.port.now c.dequeue.new.port _ _ c.in-Err.is c.dequeue.ensures.missed
