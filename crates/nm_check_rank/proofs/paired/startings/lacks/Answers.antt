use Rattle.std.proofs.Common.{◌∙◌, sym, ap}
use Rattle.nm_types.specs.declared.scripts.Command.{Command}
use Rattle.nm_history.specs.RankRun.{lacks_message}
use Rattle.nm_lookups.specs.AskedFor.{handle_of}
use Rattle.nm_check_rank.proofs.StartingLemmas.{lacks_nothing, none_held}
use Rattle.nm_check_rank.proofs.paired.startings.lacks.Goals as goal

pub returns-in-Mrecv : goal.returns-in-Mrecv
returns-in-Mrecv c = λ commands before held.
    none_held c.args.message _ c.is_none.result (held _ (ap handle_of c.in-Mrecv.is)) c.is_none.ensures
    ∙ sym (ap (λ (d : Command). lacks_message commands before d) c.in-Mrecv.is)

pub returns-in_default : goal.returns-in_default
returns-in_default c = λ commands before held. lacks_nothing commands before c.args.command.now c.in_default.not-Mrecv
