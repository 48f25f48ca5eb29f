use Rattle.std.proofs.Common.{◌≡◌}
use Rattle.nm_history.specs.Sends.{sent_bytes}
use Rattle.nm_check.proofs.BodyLemmas.{bytes_decided}
use Rattle.nm_check.proofs.WaitLemmas.{none_decided}
use Rattle.nm_check.proofs.bodies.are_sent_by.Goals as goal

pub returns : goal.returns
returns c =
    let sent = sent_bytes c.args.command.now in
    none_decided (c.args.bytes.now ≡ sent) c.first_other_byte.result c.is_none.result c.is_none.ensures
    (bytes_decided sent c.args.bytes.now c.first_other_byte.result c.first_other_byte.ensures)
