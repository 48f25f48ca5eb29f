use Rattle.std.proofs.Common.{◌≡◌, Option, sym, subst}
use Rattle.std.specs.Prelude.{IsSomeAnd}
use Rattle.nm_types.specs.Commands.{command_at, commands_of}
use Rattle.nm_history.specs.Sends.{Sent, sent_bytes}
use Rattle.nm_lookups.specs.Deciding.{Decides}
use Rattle.nm_check.proofs.bodies.were_sent.Goals as goal

pub returns-in-Some : goal.returns-in-Some
returns-in-Some c =
    subst (λ (o : Option Sent). Decides c.is_send_with.result (IsSomeAnd o
    (λ s. IsSomeAnd (command_at (commands_of c.args.i c.args.of.now.lines.now) s.line)
    (λ b. c.args.bytes.now ≡ sent_bytes b)))) (sym c.in-Some.ensures) c.is_send_with.ensures

pub returns-in-None : goal.returns-in-None
returns-in-None c = λ sent.
    subst (λ (o : Option Sent). IsSomeAnd o
    (λ s. IsSomeAnd (command_at (commands_of c.args.i c.args.of.now.lines.now) s.line)
    (λ b. c.args.bytes.now ≡ sent_bytes b))) c.in-None.ensures sent
