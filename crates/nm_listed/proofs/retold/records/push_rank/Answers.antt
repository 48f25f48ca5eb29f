-- One account more.
use Rattle.std.proofs.Common.{◌∙◌}
use Rattle.nm_listed.specs.Records.{ended_as}
use Rattle.nm_listed.proofs.RecordLemmas.{account_is, ends_next}
use Rattle.nm_listed.proofs.retold.records.push_rank.Goals as goal

pub returns-clause-ended : goal.returns-clause-ended
returns-clause-ended c =
    ends_next c.args.accounts.now.items c.push.new.self.items c.account.result
    (ended_as c.args.lines.now c.args.entries.now.items c.args.i c.args.rank.now) c.in_ok-push.ensures.items
    (account_is c.account.result
    (ended_as c.args.lines.now c.args.entries.now.items c.args.i c.args.rank.now) c.account.ensures.at
    c.account.ensures.waits
    (c.account.ensures.events ∙ c.in_ok-events.ensures.mine))
