-- A message that is claimed does not wait, and came.
use Rattle.std.proofs.Common.{◌∙◌, sym, refl}
use Rattle.nm_match.proofs.DeedLemmas.{claimed_came, says_claimed}
use Rattle.nm_match.proofs.matching.Matcher.is_claimed.Goals as goal

pub returns-clause-value : goal.returns-clause-value
returns-clause-value c =
    let h = c.self.invariant in
    let deeds = c.self.inside.done.items in
    rw (← c.self.view_is) (says_claimed deeds h.queues c.args.from c.args.n c.is_claimed.result
    (c.is_claimed.ensures.none h.unexpected h.claimed c.self.inside.next h.messages)
    (c.is_claimed.ensures.some h.unexpected h.claimed c.self.inside.next h.messages))

pub returns-clause-came : goal.returns-clause-came
returns-clause-came c claimed =
    let h = c.self.invariant in
    let deeds = c.self.inside.done.items in
    let same = says_claimed deeds h.queues c.args.from c.args.n c.is_claimed.result
    (c.is_claimed.ensures.none h.unexpected h.claimed c.self.inside.next h.messages)
    (c.is_claimed.ensures.some h.unexpected h.claimed c.self.inside.next h.messages) in
    let came = claimed_came deeds h.queues c.args.from c.args.n (sym same ∙ claimed) in
    rw (← c.self.view_is, came.1) refl
