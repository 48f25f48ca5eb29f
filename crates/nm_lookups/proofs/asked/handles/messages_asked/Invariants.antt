use Rattle.std.proofs.Common.{◌≡◌, take}
use Rattle.std.specs.Prelude.{option_map}
use Rattle.nm_types.specs.Commands.{commands_of}
use Rattle.nm_lookups.specs.AskedFor.{AreHandles, asked_message, message_meant}
use Rattle.nm_lookups.proofs.UpToLemmas.{UpTo}
use Rattle.nm_lookups.proofs.asked.handles.messages_asked.Given as goal

-- the handles so far, and the messages asked for so far
abbrev pub invariant-loop-k : goal.invariant-loop-k
invariant-loop-k l =
    AreHandles (commands_of l.rank l.lines) (take l.k l.events) l.handles
    × UpTo (λ t e message. option_map message_meant message ≡ asked_message (commands_of l.rank l.lines)
    (take t l.events) e.what)
    l.events l.k l.asked.items
