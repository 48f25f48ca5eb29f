use Rattle.std.proofs.Common.{◌≡◌, take}
use Rattle.std.specs.Prelude.{position}
use Rattle.indexmap.specs.IndexMap.{get}
use Rattle.nm_match.specs.Names.{same_message}
use Rattle.nm_match.specs.declared.names.Message.{Message}
use Rattle.nm_lookups.proofs.firsts.firsts.Given as goal

-- the first places among the events so far
abbrev pub invariant-loop-k : goal.invariant-loop-k
invariant-loop-k g l =
    (m : Message) → get same_message l.places m ≡ position (λ e. g.T.Kind.is_of m.rank m.n e.what) (take l.k l.events)
