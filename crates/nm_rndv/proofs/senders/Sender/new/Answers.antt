use Rattle.std.proofs.Common.{ap, ◌∙◌, sym, filter}
use Rattle.std.specs.Map.{keys_of}
use Rattle.nm_kept.proofs.EntryLemmas.{live_none}
use Rattle.nm_rndv.specs.Grants.{has_bytes, is_unfinished}
use Rattle.nm_rndv.proofs.senders.Sender.new.Goals as goal

pub invariant_of-result : goal.invariant_of-result
invariant_of-result c = record {
  live = live_none has_bytes c.new.result c.new.ensures.entries c.new.ensures.live;
  numbers = c.new-2.ensures.items ∙ sym (ap (λ es. keys_of (filter is_unfinished es)) c.new.ensures.entries);
}
