use Rattle.std.proofs.Common.{◌≡◌, take}
use Rattle.std.specs.Prelude.{option_map}
use Rattle.nm_types.specs.Commands.{commands_of}
use Rattle.nm_lookups.specs.AskedFor.{AreNames, asked_request, meant_by}
use Rattle.nm_lookups.proofs.UpToLemmas.{UpTo}
use Rattle.nm_lookups.proofs.asked.asked.Asked.of.Given as goal

-- the names so far, and the requests asked for so far
abbrev pub invariant-loop-k : goal.invariant-loop-k
invariant-loop-k l =
    AreNames (commands_of l.rank l.lines) (take l.k l.events) l.names
    × UpTo (λ t e request. option_map meant_by request ≡ asked_request (commands_of l.rank l.lines)
    (take t l.events) e.what)
    l.events l.k l.requests.items
