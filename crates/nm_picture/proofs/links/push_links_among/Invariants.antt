use Rattle.std.proofs.Common.{◌≡◌, ◌++◌, drop, flat_map, string_bytes}
use Rattle.nm_history.specs.Matching.{matched_pairs}
use Rattle.nm_diagram.specs.Links.{link_of}
use Rattle.nm_picture.specs.Pictures.{link_text}
use Rattle.nm_picture.proofs.links.push_links_among.Given as goal

-- what is written and what is still to write are all
abbrev pub invariant-loop-pair : goal.invariant-loop-pair
invariant-loop-pair l =
    string_bytes l.out ++ flat_map (link_text l.frame)
    (flat_map (link_of l.frame.span l.rank l.events) (drop l.pair-index l.pair-items))
    ≡ string_bytes l.fn.out ++ flat_map (link_text l.frame)
    (flat_map (link_of l.frame.span l.rank l.events) (matched_pairs l.events))
