use Rattle.std.proofs.Common.{◌∙◌, ap}
use Rattle.nm_lookups.proofs.PairingLemmas.{is_before}
use Rattle.nm_lookups.proofs.pairing.pairings.Pairing.is_taken.Goals as goal

pub returns-in-Some : goal.returns-in-Some
returns-in-Some c = λ rank lines h tells.
    ap (is_before c.args.k) c.in-Some.ensures.value
    ∙ tells.tables.taken (record { rank = c.args.from; n = c.args.n }) c.args.k

pub returns-in-None : goal.returns-in-None
returns-in-None c = λ rank lines h tells.
    ap (is_before c.args.k) c.in-None.ensures.value
    ∙ tells.tables.taken (record { rank = c.args.from; n = c.args.n }) c.args.k
