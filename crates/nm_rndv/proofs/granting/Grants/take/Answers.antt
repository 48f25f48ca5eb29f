use Rattle.std.proofs.Common.{ℕ, cond, ap, ◌∙◌, arith}
use Rattle.nm_rndv.specs.Grants.{grants_from, taken_in}
use Rattle.nm_rndv.proofs.SenderLemmas.{count-set, grants_there, grants-set, ready-set}
use Rattle.nm_rndv.proofs.granting.Grants.take.Goals as goal

pub returns-clause-gone : goal.returns-clause-gone
returns-clause-gone c =
    let there = grants_there c.self.inside.senders.items c.args.self.now c.args.from c.self.view_is
    c.requires.in_range c.index_mut.result.now c.index_mut.ensures.value in
    grants-set c.self.inside.senders.items c.args.self.now c.args.from c.self.view_is c.requires.in_range
    c.index_mut.result.now c.index_mut.ensures.value c.take.new.self
    (taken_in (grants_from c.args.self.now c.args.from) c.args.n)
    (c.take.ensures.gone ∙ ap (λ gs. taken_in gs c.args.n) there)

pub returns-clause-ready : goal.returns-clause-ready
returns-clause-ready c =
    ready-set c.self.inside.senders.items c.args.self.now c.args.from c.self.view_is c.requires.in_range
    c.index_mut.result.now c.index_mut.ensures.value c.take.new.self c.take.ensures.room

pub invariant_of-self : goal.invariant_of-self
invariant_of-self c =
    let set = count-set c.self.inside.senders.items c.args.self.now c.args.from c.self.view_is c.requires.in_range
    c.index_mut.result.now c.index_mut.ensures.value c.take.new.self in
    let same = ap {B = ℕ} (λ b. cond b 1 0) c.take.ensures.unfinished in omega (arith, c.self.invariant, set, same)
