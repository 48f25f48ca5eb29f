use Rattle.std.proofs.Common.{◌≡◌, ◌++◌, drop, flat_map, string_bytes}
use Rattle.nm_history.specs.Matching.{matched_pairs}
use Rattle.nm_diagram.specs.Left.{rings_at}
use Rattle.nm_picture.specs.Pictures.{ring_text}
use Rattle.nm_picture.proofs.rings.push_rings_among.Given as goal

-- what is written and what is still to write are all
abbrev pub invariant-loop-event : goal.invariant-loop-event
invariant-loop-event l =
    string_bytes l.out ++ flat_map (ring_text l.frame)
    (flat_map (rings_at l.frame.span l.rank l.events (matched_pairs l.events)) (drop l.event-index l.events))
    ≡ string_bytes l.fn.out ++ flat_map (ring_text l.frame)
    (flat_map (rings_at l.frame.span l.rank l.events (matched_pairs l.events)) l.events)
