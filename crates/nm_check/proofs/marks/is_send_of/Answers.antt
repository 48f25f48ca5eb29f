use Rattle.std.proofs.Common.{◌≡◌, ◌<◌}
use Rattle.nm_history.specs.Sends.{envelope}
use Rattle.nm_check.proofs.SentLemmas.{no_send_of, sent_as}
use Rattle.nm_check.proofs.marks.is_send_of.Goals as goal

pub returns-in-Send : goal.returns-in-Send
returns-in-Send c = rw c.in-Send.is
    (sent_as c.args.a.now.env c.in-Send.tag c.in-Send.ctx c.in-Send.len c.in-Send.how c.args.e.now.stamp c.args.stamp
    c.is_same_how.result c.are_all.result
    c.is_same_how.ensures c.are_all.ensures)

pub returns-in_default : goal.returns-in_default
returns-in_default c = λ sent. no_send_of c.args.e.now.stamp c.args.e.now.what
    (λ s. (c.args.a.now.env ≡ envelope c.args.a.now.env.from s) × (s.stamp < c.args.stamp)) c.in_default.not-Send sent
