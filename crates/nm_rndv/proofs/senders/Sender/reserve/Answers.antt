use Rattle.std.proofs.Common.{◌∙◌, ap, sym}
use Rattle.nm_kept.proofs.EntryLemmas.{live_same}
use Rattle.nm_rndv.specs.Grants.{has_bytes}
use Rattle.nm_rndv.proofs.GrantLemmas.{open_in}
use Rattle.nm_rndv.proofs.senders.Sender.reserve.Goals as goal

pub invariant_of-self-2 : goal.invariant_of-self-2
invariant_of-self-2 c =
    let a = c.self.inside in
    record {
      live = live_same has_bytes a.grants c.reserve-2.new.self c.self.invariant.live c.reserve-2.ensures.entries
          c.reserve-2.ensures.live;
      numbers = c.reserve.ensures.items ∙ c.self.invariant.numbers ∙ sym (ap open_in c.reserve-2.ensures.entries);
    }
