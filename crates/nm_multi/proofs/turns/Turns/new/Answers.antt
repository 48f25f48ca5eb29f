-- Nothing is noted of any thread.
use Rattle.nm_multi.specs.Programs.{TurnsView}
use Rattle.nm_multi.proofs.Turning.{none_made}
use Rattle.nm_multi.proofs.turns.Turns.new.Goals as goal

pub invariant_of-result : goal.invariant_of-result
invariant_of-result c =
    let desk = c.in_ok-desk.desk in
    let v : TurnsView = record { desk = desk; threads = c.args.threads; rounds = c.args.rounds } in
    none_made c.args.shape v c.in_ok-progress.progress.items c.in_ok-desk.ensures.shape
    c.in_ok-desk.ensures.empty c.in_ok-progress.ensures
