use Rattle.nm_breaks.proofs.AgainstLemmas.{not_sent}
use Rattle.nm_breaks.proofs.against.arrival_against.Goals as goal

pub returns-in_default : goal.returns-in_default
returns-in_default c = λ n. not_sent
    (record { n = n; env = c.args.env }) c.args.other.now c.args.soon c.in_default.not-Send
