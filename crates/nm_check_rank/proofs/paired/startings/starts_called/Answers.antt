use Rattle.std.proofs.Common.{sym, ap}
use Rattle.nm_types.specs.declared.scripts.Command.{Command}
use Rattle.nm_history.specs.RankRun.{start_of}
use Rattle.nm_check_rank.specs.Manies.{many_of}
use Rattle.nm_check_rank.proofs.StartingLemmas.{one_matched, starts_nothing}
use Rattle.nm_check_rank.proofs.paired.startings.starts_called.Goals as goal

pub returns-in-Send : goal.returns-in-Send
returns-in-Send c = λ limit commands before line held.
    sym (ap (λ (d : Command). many_of (start_of limit commands before line d)) c.in-Send.is)

pub returns-in-Recv : goal.returns-in-Recv
returns-in-Recv c = λ limit commands before line held.
    sym (ap (λ (d : Command). many_of (start_of limit commands before line d)) c.in-Recv.is)

pub returns-in-Mrecv : goal.returns-in-Mrecv
returns-in-Mrecv c = λ limit commands before line held.
    one_matched limit commands before line c.args.command.now c.in-Mrecv.is held

pub returns-in_default : goal.returns-in_default
returns-in_default c = λ limit commands before line held.
    sym (ap many_of (starts_nothing limit commands before line c.args.command.now c.in_default.not-Send
    c.in_default.not-Recv c.in_default.not-Mrecv))
