-- The same names are taken, and fewer stand apart each time.
use Rattle.std.proofs.Common.{◌≡◌, length}
use Rattle.indexmap.specs.IndexSet.{index_set_len}
use Rattle.nm_match.specs.declared.names.Message.{Message}
use Rattle.nm_match.specs.Seen.{AreEarlyBut, has_seen}
use Rattle.nm_match.proofs.seen.Seen.absorb.Given as goal

abbrev pub invariant-loop : goal.invariant-loop
invariant-loop l =
    ((i : Message) → has_seen l.self i ≡ has_seen l.fn.self i)
    × (length l.self.next.items ≡ length l.fn.self.next.items)
    × (AreEarlyBut l.fn.group l.fn.self → AreEarlyBut l.fn.group l.self)

abbrev pub decreases-loop : goal.decreases-loop
decreases-loop l = index_set_len l.self.apart
