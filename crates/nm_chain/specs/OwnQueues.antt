-- The two queues of a rank.
use Rattle.std.specs.Prelude.{Bool, true, false}

-- the queue whose cells bring what others send it, and the one of its own empty cells
pub data OwnQueue : Type 0 where
  receive_queue : OwnQueue
  free_queue : OwnQueue

-- the queue of a step that is told whether it is the receive queue
abbrev pub own : Bool → OwnQueue
own true = receive_queue
own false = free_queue

-- the other of the two
abbrev pub other : OwnQueue → OwnQueue
other receive_queue = free_queue
other free_queue = receive_queue
