use Rattle.std.proofs.Common.{◌≡◌, take}
use Rattle.std.specs.List.{list_any}
use Rattle.nm_multi.specs.Acts.{is_short}
use Rattle.nm_multi.proofs.threads.has_short.Given as goal

abbrev pub invariant-loop-entry : goal.invariant-loop-entry
invariant-loop-entry l =
    l.found ≡ list_any (λ e. is_short e.reply) (take l.entry-index l.log.entries)
