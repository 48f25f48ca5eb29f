use Rattle.nm_breaks.proofs.AgainstLemmas.{not_withdrawn}
use Rattle.nm_breaks.proofs.against.undone_against.Goals as goal

pub returns-in_default : goal.returns-in_default
returns-in_default c = λ to n.
    not_withdrawn to n c.args.done c.args.other.now c.args.soon c.in_default.not-Withdraw
