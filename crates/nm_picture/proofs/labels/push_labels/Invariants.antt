use Rattle.std.proofs.Common.{◌≡◌, ◌++◌, drop, flat_map, string_bytes}
use Rattle.nm_diagram.specs.Diagrams.{from_lane}
use Rattle.nm_diagram.specs.Labels.{labels_of}
use Rattle.nm_picture.specs.Pictures.{label_text}
use Rattle.nm_picture.proofs.labels.push_labels.Given as goal

-- what is written and what is still to write are all
abbrev pub invariant-loop-rank : goal.invariant-loop-rank
invariant-loop-rank l =
    string_bytes l.out ++ flat_map (label_text l.frame)
    (from_lane (labels_of l.frame.span) l.rank (drop l.rank l.ranks))
    ≡ string_bytes l.fn.out ++ flat_map (label_text l.frame) (from_lane (labels_of l.frame.span) 0 l.ranks)
