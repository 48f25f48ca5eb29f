use Rattle.std.proofs.Common.{◌≡◌, ◌+◌, [], ◌∷◌, ◌++◌, length, sym, ap, ◌∙◌, length-append}
use Rattle.nm_copyring.specs.declared.tallies.Tally.{Tally}
use Rattle.nm_copyring.specs.Plays.{one_pushed}
use Rattle.nm_copyring.specs.Rule.{lane}
use Rattle.nm_copyring.proofs.PortLemmas.{tally_at, counts_lane}
use Rattle.nm_copyring.proofs.counts.count_pushed.Goals as goal

pub returns : goal.returns
returns c e p counts = let ts = c.args.tallies.now.items in let j = c.args.to in
    let old = c.index_mut.result.now in
    let is = tally_at e ts j old counts c.requires.room.0 c.index_mut.ensures.value in
    let more : old.pushed + 1 ≡ length ((lane e j).pushed ++ p ∷ []) =
    ap (λ (t : Tally). t.pushed + 1) is ∙ sym (length-append (lane e j).pushed (p ∷ [])) in
    let new : Tally = record { pushed = old.pushed + 1; pulled = old.pulled; full = old.full; empty = old.empty } in
    counts_lane e ts j (one_pushed p) new counts
    (λ i. record { pushed = more i; pulled = (is i).pulled; full = (is i).full; empty = (is i).empty })
