use Rattle.nm_report.specs.Ends.{ends_of}
use Rattle.nm_check.specs.RestBreaks.{KeepsSend}
use Rattle.nm_check.proofs.OverLemmas.{no_send}
use Rattle.nm_check.proofs.rest.over.keeps_send.Goals as goal

pub returns-in-Send : goal.returns-in-Send
returns-in-Send c = λ stamp hi sent. rw c.in-Send.is (c.is_kept_to.ensures hi sent)

pub returns-in_default : goal.returns-in_default
returns-in_default c = λ stamp hi sent.
    no_send (λ j hj s. KeepsSend c.args.rule c.args.i hi j hj s.n s.how) (ends_of c.args.of.now.ranks.now) stamp
    c.args.what.now c.in_default.not-Send
