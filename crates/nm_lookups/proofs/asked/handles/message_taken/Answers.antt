use Rattle.std.proofs.Common.{◌==◌}
use Rattle.nm_lookups.proofs.RequestLemmas.{made_at, none_claimed}
use Rattle.nm_lookups.proofs.asked.handles.message_taken.Goals as goal

pub returns-in-Claim : goal.returns-in-Claim
returns-in-Claim c = λ line some. rw c.in-Claim.is
    (made_at (c.in-Claim.line == line) (record { from = c.in-Claim.from; n = c.in-Claim.n }) (rw c.in-Claim.is at some))

pub returns-in_default : goal.returns-in_default
returns-in_default c = λ line some. none_claimed line c.args.what.now c.in_default.not-Claim
