use Rattle.std.proofs.lemmas.Result.{on_ok_weaker}
use Rattle.std.proofs.Common.{◌∙◌, sym}
use Rattle.nm_rndv.proofs.SenderLemmas.{count-set_same, grants-set_same, ready_for-set}
use Rattle.nm_rndv.proofs.granting.Grants.reserve_for.Goals as goal

pub returns-clause-ready : goal.returns-clause-ready
returns-clause-ready c =
    on_ok_weaker c.reserve.result (ready_for-set c.self.inside.senders.items c.args.self.now c.args.from
    c.self.view_is c.requires c.index_mut.result.now c.index_mut.ensures.value c.reserve.new.self)
    c.reserve.ensures.room

pub returns-clause-same : goal.returns-clause-same
returns-clause-same c =
    grants-set_same c.self.inside.senders.items c.args.self.now c.args.from c.self.view_is c.requires
    c.index_mut.result.now c.index_mut.ensures.value c.reserve.new.self c.reserve.ensures.same

pub invariant_of-self : goal.invariant_of-self
invariant_of-self c =
    c.self.invariant ∙ sym (count-set_same c.self.inside.senders.items c.args.self.now c.args.from c.self.view_is
    c.requires c.index_mut.result.now c.index_mut.ensures.value c.reserve.new.self c.reserve.ensures.same)
