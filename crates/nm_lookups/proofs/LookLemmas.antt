-- What a command finds.
use Rattle.std.proofs.Common.{◌≡◌, ℕ, List, ◌⊎◌, inl, inr, ap}
use Rattle.nm_types.specs.declared.messages.Peer.{Peer}
use Rattle.nm_types.specs.declared.messages.TagPick.{TagPick}
use Rattle.nm_types.specs.declared.scripts.Command.{Command}
use Rattle.nm_types.specs.declared.scripts.Command.TheVariants as command
use Rattle.nm_history.specs.declared.events.Event.{Event}
use Rattle.nm_history.specs.Matching.{first_message, matched_pairs}
use Rattle.nm_lookups.specs.Looks.{found_by}

-- the command is a probe with this source, tag and context
abbrev Probes : Command → Peer → TagPick → ℕ → Type 0
Probes c from tag ctx =
    (c ≡ command.Probe from tag ctx)
    ⊎ ((c ≡ command.Await from tag ctx) ⊎ ((m : ℕ) × (c ≡ command.Mprobe m from tag ctx)))

pub found_probed : (h : List Event) (c : Command) (from : Peer) (tag : TagPick) (ctx : ℕ) → Probes c from tag ctx →
    found_by h c ≡ first_message h (matched_pairs h) from tag ctx
found_probed h c from tag ctx probes =
    elim probes [
      | inl is ↦ ap (found_by h) is
      | inr others ↦ elim others [ inl is ↦ ap (found_by h) is | inr m ↦ ap (found_by h) m.1 ]
    ]
