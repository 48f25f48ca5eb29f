use Rattle.std.proofs.Common.{ap}
use Rattle.nm_copyring.specs.declared.tallies.Tally.{Tally}
use Rattle.nm_copyring.specs.Plays.{one_empty}
use Rattle.nm_copyring.specs.Rule.{lane}
use Rattle.nm_copyring.proofs.PortLemmas.{tally_at, counts_lane, counted_more}
use Rattle.nm_copyring.proofs.counts.count_empty.Goals as goal

pub returns : goal.returns
returns c e counts = let ts = c.args.tallies.now.items in let j = c.args.sender in
    let old = c.index_mut.result.now in
    let is = tally_at e ts j old counts c.requires c.index_mut.ensures.value in
    let n = c.saturating_add.result in
    let more = counted_more (lane e j).empty old.empty n (ap (λ (t : Tally). t.empty) is)
    c.saturating_add.ensures in
    let new : Tally = record { pushed = old.pushed; pulled = old.pulled; full = old.full; empty = n } in
    counts_lane e ts j one_empty new counts
    (λ i. record { pushed = (is i).pushed; pulled = (is i).pulled; full = (is i).full; empty = more i })
