-- Each number in memory came before its time.
use Rattle.std.proofs.Common.{arith}
use Rattle.nm_match.proofs.EarlyLemmas.{few_messages, few_receives}
use Rattle.nm_match.proofs.matching.Matcher.held_numbers.Goals as goal

pub returns : goal.returns
returns c =
    let h = c.self.invariant in
    let deeds = c.self.inside.done.items in
    let receives = few_receives deeds h.names c.held.ensures.unique in
    let messages = few_messages deeds h.names c.held-2.ensures.unique in
    let first = c.held.ensures.held in
    let second = c.held-2.ensures.held in
    rw (← c.self.view_is) (omega (arith, receives, messages, first, second))
