use Rattle.std.proofs.Common.{◌≡◌, ℕ, ◌+◌, ◌<◌, ◌∙◌, List, length, get_or, arith}
use Rattle.std.proofs.lemmas.List.{get_or_default}
use Rattle.nm_sending.proofs.outbox.outboxes.Outbox.waiting_for.Goals as goal

-- the counts that are read are those of the outbox
counted : (popped put : List ℕ) (to a b many : ℕ) → to < length popped → length put ≡ length popped
    → get_or put to 0 ≡ get_or popped to 0 + many → a ≡ get_or put to a → b ≡ get_or popped to b → a ≡ b + many
counted popped put to a b many inside ranks counts was_put was_popped =
    let all = was_put ∙ get_or_default put to a 0 (omega (arith, inside, ranks)) in
    let gone = was_popped ∙ get_or_default popped to b 0 inside in
    omega (arith, all, gone, counts)

pub overflow_sub-result : goal.overflow_sub-result
overflow_sub-result c =
    let o = c.self.inside in let f = c.self.invariant.fields in
    let same = counted o.popped.items o.put.items c.args.to c.index.result.now c.index-2.result.now _
    (rw (← c.self.view_is) at c.requires) f.ranks (f.counts c.args.to) c.index.ensures c.index-2.ensures in
    omega (arith, same)

pub returns-clause-many : goal.returns-clause-many
returns-clause-many c =
    let o = c.self.inside in let f = c.self.invariant.fields in
    let same = counted o.popped.items o.put.items c.args.to c.index.result.now c.index-2.result.now _
    (rw (← c.self.view_is) at c.requires) f.ranks (f.counts c.args.to) c.index.ensures c.index-2.ensures in
    rw (← c.self.view_is) (omega (arith, same))

pub returns-clause-in_range : goal.returns-clause-in_range
returns-clause-in_range c = rw (← c.self.view_is) c.self.invariant.fields.lawful.in_range
