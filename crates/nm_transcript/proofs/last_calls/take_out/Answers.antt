-- Whether one was taken out or not.
use Rattle.std.specs.VecDeque.{deque_items}
use Rattle.nm_transcript.proofs.CallLemmas.{taken_calls}
use Rattle.nm_transcript.proofs.last_calls.take_out.Goals as goal

pub returns : goal.returns
returns c =
    taken_calls deque_items c.args.starts.now c.remove-started.new.self c.args.place c.remove-started.result
    c.remove-started.ensures.items c.remove-started.ensures.unchanged
