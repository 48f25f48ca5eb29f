use Rattle.std.proofs.Common.{◌≡◌, ◌++◌, drop, flat_map, string_bytes}
use Rattle.nm_diagram.specs.Diagrams.{from_lane, lanes_at}
use Rattle.nm_picture.specs.Pictures.{lane_words}
use Rattle.nm_picture.proofs.outlines.push_all_words.Given as goal

-- what is written and what is still to write are all
abbrev pub invariant-loop-rank : goal.invariant-loop-rank
invariant-loop-rank l =
    string_bytes l.out ++ flat_map (lane_words l.frame)
    (from_lane (lanes_at l.frame.chosen) l.rank (drop l.rank l.ranks))
    ≡ string_bytes l.fn.out ++ flat_map (lane_words l.frame) (from_lane (lanes_at l.frame.chosen) 0 l.ranks)
