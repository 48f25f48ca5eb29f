-- the pairs so far are those of the events so far
use Rattle.std.proofs.Common.{◌≡◌, take}
use Rattle.nm_history.specs.Matching.{matched_pairs}
use Rattle.nm_diagram.proofs.pairs.pairs.all_pairs.Given as goal

abbrev pub invariant-loop-k : goal.invariant-loop-k
invariant-loop-k l = l.found.items ≡ matched_pairs (take l.k l.events)
