use Rattle.std.proofs.Common.{ap}
use Rattle.nm_copyring.specs.declared.tallies.Tally.{Tally}
use Rattle.nm_copyring.specs.Plays.{one_full}
use Rattle.nm_copyring.specs.Rule.{lane}
use Rattle.nm_copyring.proofs.PortLemmas.{tally_at, counts_lane, counted_more}
use Rattle.nm_copyring.proofs.counts.count_full.Goals as goal

pub returns : goal.returns
returns c e counts = let ts = c.args.tallies.now.items in let j = c.args.to in
    let old = c.index_mut.result.now in
    let is = tally_at e ts j old counts c.requires c.index_mut.ensures.value in
    let n = c.saturating_add.result in
    let more = counted_more (lane e j).full old.full n (ap (λ (t : Tally). t.full) is)
    c.saturating_add.ensures in
    let new : Tally = record { pushed = old.pushed; pulled = old.pulled; full = n; empty = old.empty } in
    counts_lane e ts j one_full new counts
    (λ i. record { pushed = (is i).pushed; pulled = (is i).pulled; full = more i; empty = (is i).empty })
