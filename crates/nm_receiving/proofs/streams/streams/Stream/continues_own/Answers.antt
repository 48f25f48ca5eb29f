use Rattle.std.proofs.Common.{◌∙◌, ap}
use Rattle.nm_history.specs.Continues.{continues_stream}
use Rattle.nm_receiving.specs.StreamViews.{Told}
use Rattle.nm_receiving.specs.contracts.streams.streams.Stream.{the_view}
use Rattle.nm_receiving.proofs.ContinueLemmas.{own-message}
use Rattle.nm_receiving.proofs.streams.streams.Stream.continues_own.Goals as goal

pub returns-in_default : goal.returns-in_default
returns-in_default c =
    c.continues.ensures
    ∙ own-message c.args.eager (the_view c.self.inside).known c.args.what c.args.size c.in_default.not-Withdraw
    ∙ ap (λ (told : Told). continues_stream c.args.eager told.known c.args.what c.args.size) c.self.view_is
