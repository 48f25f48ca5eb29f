use Rattle.std.proofs.Common.{◌==◌}
use Rattle.nm_history.specs.Completion.Request.{Sending, Receiving}
use Rattle.nm_lookups.proofs.RequestLemmas.{made_at, none_made}
use Rattle.nm_lookups.proofs.asked.requests.request_made.Goals as goal

pub returns-in-Send : goal.returns-in-Send
returns-in-Send c = λ line some. rw c.in-Send.is
    (made_at (c.in-Send.line == line) (Sending c.in-Send.to c.in-Send.n) (rw c.in-Send.is at some))

pub returns-in-Post : goal.returns-in-Post
returns-in-Post c = λ line some. rw c.in-Post.is
    (made_at (c.in-Post.line == line) (Receiving c.in-Post.post.number) (rw c.in-Post.is at some))

pub returns-in-Match : goal.returns-in-Match
returns-in-Match c = λ line some. rw c.in-Match.is
    (made_at (c.in-Match.line == line) (Receiving c.in-Match.number) (rw c.in-Match.is at some))

pub returns-in_default : goal.returns-in_default
returns-in_default c = λ line some.
    none_made line c.args.what.now c.in_default.not-Send c.in_default.not-Post c.in_default.not-Match
