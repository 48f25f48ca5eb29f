use Rattle.std.proofs.Common.{◌≡◌, ◌++◌, map, reverse}
use Rattle.std.specs.List.{range_with_len}
use Rattle.nm_script.specs.FloodScripts.{receive_line, way}
use Rattle.nm_script.proofs.flood.scripts.push_receives.Given as goal

-- the lines that are put and those that are still to put are all
abbrev pub invariant-loop-k : goal.invariant-loop-k
invariant-loop-k l = record {
  put : l.lines.items ++ map (receive_line l.key l.ranks) (reverse (range_with_len 0 l.k))
      ≡ l.fn.lines.items ++ map (receive_line l.key l.ranks) (reverse (range_with_len 0 l.messages));
  way : l.way ≡ way l.key l.ranks l.k;
}
