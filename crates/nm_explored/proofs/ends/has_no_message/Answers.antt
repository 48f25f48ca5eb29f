-- No message is under way from one rank more.
use Rattle.std.proofs.Common.{◌≡◌, ℕ, None, sym, ◌∙◌}
use Rattle.nm_explored.specs.Successors.{message_next, spot_in}
use Rattle.nm_search.proofs.ListLemmas.{each_next}
use Rattle.nm_explored.proofs.RestedLemmas.{none_is}
use Rattle.nm_explored.proofs.ends.has_no_message.Goals as goal

pub loop-from-preserved : goal.loop-from-preserved
loop-from-preserved c =
    each_next
    (λ (from : ℕ). message_next (spot_in c.args.view.table.now c.args.view.ids.now) c.args.i from ≡ None)
    c.loop-from.from c.loop-from.invariant
    (sym c.next_message.ensures ∙ none_is c.next_message.result c.is_some.result
    (sym c.is_some.ensures) c.if-is_some.false)
