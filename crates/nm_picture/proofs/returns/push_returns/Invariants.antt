use Rattle.std.proofs.Common.{◌≡◌, ◌++◌, drop, flat_map, string_bytes}
use Rattle.nm_diagram.specs.Diagrams.{from_lane}
use Rattle.nm_diagram.specs.Returns.{returns_of}
use Rattle.nm_picture.specs.Pictures.{return_text}
use Rattle.nm_picture.proofs.returns.push_returns.Given as goal

-- what is written and what is still to write are all
abbrev pub invariant-loop-rank : goal.invariant-loop-rank
invariant-loop-rank l =
    string_bytes l.out ++ flat_map (return_text l.frame)
    (from_lane (returns_of l.frame.span l.ranks) l.rank (drop l.rank l.ranks))
    ≡ string_bytes l.fn.out ++ flat_map (return_text l.frame) (from_lane (returns_of l.frame.span l.ranks) 0 l.ranks)
