-- One event more, with its pair or without.
use Rattle.std.proofs.Common.{◌∙◌, arith, append-nil}
use Rattle.nm_history.specs.Matching.{matched_pairs}
use Rattle.nm_history.proofs.MatchingLemmas.{matched_pairs-take}
use Rattle.nm_diagram.proofs.pairs.pairs.all_pairs.Goals as goal
use Rattle.nm_diagram.proofs.pairs.pairs.all_pairs.Goals.{in-Some+in_ok-push, in_default}

pub loop-k-init : goal.loop-k-init
unfolding matched_pairs
loop-k-init c = c.new-found.ensures.items

pub loop-k-preserved : goal.loop-k-preserved
loop-k-preserved c =
    let same = c.deref.ensures.value in
    let step = matched_pairs-take c.args.events.now c.loop-k.k c.index-events-k.result c.loop-k.found.items
    c.pair_made.result (omega arith) c.index-events-k.is c.loop-k.invariant (rw (← same) c.pair_made.ensures) in
    elim c.match-pair_made.branch [
      | in-Some+in_ok-push w ↦ rw w.found-is (w.in_ok-push.ensures.items ∙ (rw w.in-Some.is at step))
      | in_default w ↦ rw w.found-is (rw (w.in_default.is, append-nil) at step)
    ]
