-- By what the events said.
use Rattle.std.proofs.Common.{List, ap, ◌∙◌}
use Rattle.std.specs.List.{list_any}
use Rattle.nm_outcomes.specs.Logs.{Step}
use Rattle.nm_listed.specs.Marks.{is_marked, is_marked_at}
use Rattle.nm_listed.proofs.EntryLemmas.{happened_in}
use Rattle.nm_listed.proofs.retold.logs.Log.has.Goals as goal

pub returns : goal.returns
returns c =
    c.contains.ensures
    ∙ c.self.invariant (record { rank = c.args.i; mark = c.args.mark })
    ∙ ap (λ (log : List Step). list_any (is_marked_at c.args.i c.args.mark) log) c.self.view_is
    ∙ happened_in (is_marked c.args.mark) c.args.i c.args.self.now
