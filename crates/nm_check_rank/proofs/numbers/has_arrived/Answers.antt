use Rattle.std.proofs.Common.{length, arith}
use Rattle.std.specs.Prelude.{slice_index}
use Rattle.nm_history.specs.Sends.{arrivals, sends}
use Rattle.nm_check_rank.proofs.CountLemmas.{counts_decided}
use Rattle.nm_check_rank.proofs.numbers.has_arrived.Goals as goal

pub returns : goal.returns
returns c = λ hi hj sent came.
    counts_decided (slice_index c.args.receiver.now.arrivals c.args.i) (slice_index c.args.sender.now.sends c.args.j)
    (length (arrivals hj c.args.i)) (length (sends hi c.args.j)) (came.came c.args.i (omega arith))
    (sent.sent c.args.j (omega arith))
