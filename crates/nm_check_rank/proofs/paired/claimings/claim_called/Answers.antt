use Rattle.std.proofs.Common.{Bool, None, cond, take, ◌∙◌, ap}
use Rattle.std.specs.Prelude.{option_map}
use Rattle.nm_types.specs.Commands.{command_at, commands_of}
use Rattle.nm_history.specs.declared.events.Happened.{Happened}
use Rattle.nm_lookups.specs.Looks.{look_of}
use Rattle.nm_match.specs.Names.{id_of_arrival}
use Rattle.nm_check_rank.proofs.ClaimingLemmas.{probed_by}
use Rattle.nm_check_rank.proofs.paired.claimings.claim_called.Goals as goal

pub returns : goal.returns
returns c = λ h e from n tells here claims.
    let commands = commands_of c.args.rank c.args.lines.now in
    let before = take c.args.k h in
    c.message_probed.ensures
    ∙ ap (λ (b : Bool). cond b (option_map id_of_arrival c.look.result) None) c.is_mprobe_line.ensures
    ∙ probed_by before (command_at commands c.args.line) c.look.result
    (c.look.ensures c.args.rank c.args.lines.now h tells e here
    ∙ ap (λ (w : Happened). look_of commands before w) claims)
