use Rattle.std.proofs.Common.{◌≡◌, ◌++◌, drop, flat_map, string_bytes}
use Rattle.nm_diagram.specs.Diagrams.{arrows_at}
use Rattle.nm_picture.specs.Pictures.{arrow_text}
use Rattle.nm_picture.proofs.arrows.push_arrows_of_rank.Given as goal

-- what is written and what is still to write are all
abbrev pub invariant-loop-event : goal.invariant-loop-event
invariant-loop-event l =
    string_bytes l.out ++ flat_map (arrow_text l.frame)
    (flat_map (arrows_at l.frame.span l.ranks l.rank) (drop l.event-index l.account.history.events))
    ≡ string_bytes l.fn.out ++ flat_map (arrow_text l.frame)
    (flat_map (arrows_at l.frame.span l.ranks l.rank) l.account.history.events)
