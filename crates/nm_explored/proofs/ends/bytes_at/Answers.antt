-- What a line sends is short.
use Rattle.std.proofs.Common.{◌<◌, sym, subst}
use Rattle.nm_types.specs.declared.scripts.Command.{Command}
use Rattle.nm_types.specs.Limits.{sent_len}
use Rattle.nm_explored.proofs.ends.bytes_at.Goals as goal

pub bytes_of-requires : goal.bytes_of-requires
bytes_of-requires c =
    subst (λ (x : Command). sent_len x < 4294967296) c.in-Some-Send.field-0-is
    (c.requires.sends c.args.from c.args.line c.in-Some-Send.field-0.now (sym c.in-Some-Send.ensures))
