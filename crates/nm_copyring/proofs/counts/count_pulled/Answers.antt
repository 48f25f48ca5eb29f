use Rattle.std.proofs.Common.{◌≡◌, ◌+◌, [], ◌∷◌, ◌++◌, length, sym, ap, ◌∙◌, length-append}
use Rattle.nm_copyring.specs.declared.tallies.Tally.{Tally}
use Rattle.nm_copyring.specs.Plays.{one_pulled}
use Rattle.nm_copyring.specs.Rule.{lane}
use Rattle.nm_copyring.proofs.PortLemmas.{tally_at, counts_lane}
use Rattle.nm_copyring.proofs.counts.count_pulled.Goals as goal

pub returns : goal.returns
returns c e p counts = let ts = c.args.tallies.now.items in let j = c.args.sender in
    let old = c.index_mut.result.now in
    let is = tally_at e ts j old counts c.requires.room.0 c.index_mut.ensures.value in
    let more : old.pulled + 1 ≡ length ((lane e j).pulled ++ p ∷ []) =
    ap (λ (t : Tally). t.pulled + 1) is ∙ sym (length-append (lane e j).pulled (p ∷ [])) in
    let new : Tally = record { pushed = old.pushed; pulled = old.pulled + 1; full = old.full; empty = old.empty } in
    counts_lane e ts j (one_pulled p) new counts
    (λ i. record { pushed = (is i).pushed; pulled = more i; full = (is i).full; empty = (is i).empty })
