use Rattle.nm_breaks.proofs.AgainstLemmas.{only_soon}
use Rattle.nm_breaks.proofs.against.between.Goals as goal

pub returns-in_default : goal.returns-in_default
returns-in_default c =
    only_soon c.args.lines.now c.args.y c.args.what.now c.args.other.now c.args.soon c.in_default.not-Arrive
    c.in_default.not-Undone c.in_default.not-Ran

pub returns-in-Arrive : goal.returns-in-Arrive
returns-in-Arrive c = rw c.in-Arrive.is (c.arrival_against.ensures c.in-Arrive.a.n)

pub returns-in-Ran : goal.returns-in-Ran
returns-in-Ran c = rw c.in-Ran.is c.body_against.ensures
