use Rattle.std.proofs.Common.{◌≡◌, ◌≤◌, take}
use Rattle.nm_multi.specs.Text.{got_of}
use Rattle.nm_multi.proofs.texts.count_messages.Given as goal

abbrev pub invariant-loop-entry : goal.invariant-loop-entry
invariant-loop-entry l = (l.got ≡ got_of (take l.entry-index l.log.entries)) × (l.got ≤ l.entry-index)
