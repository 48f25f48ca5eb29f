use Rattle.std.proofs.Common.{◌∙◌, sym}
use Rattle.nm_breaks.proofs.others.is_of.Goals as goal

pub returns : goal.returns
returns g c =
    c.is_named.ensures ∙ sym (c.message.ensures (record { rank = c.args.rank; n = c.args.n }))
