use Rattle.nm_lookups.proofs.WalkLemmas.{IsReplayed}
use Rattle.nm_lookups.proofs.pairing.pairings.replay_all.Given as goal

-- what is known of the events so far
abbrev pub invariant-loop-k : goal.invariant-loop-k
invariant-loop-k l = IsReplayed l.rank l.lines l.events l.k l.replay l.tables l.looks.items
