use Rattle.std.proofs.Common.{◌≡◌, ◌++◌, map}
use Rattle.std.specs.List.{range_with_len}
use Rattle.nm_script.specs.FloodScripts.{send_line, way}
use Rattle.nm_script.proofs.flood.scripts.push_sends.Given as goal

-- the lines of the messages so far are put
abbrev pub invariant-loop-k : goal.invariant-loop-k
invariant-loop-k l = record {
  put : l.lines.items ≡ l.fn.lines.items ++ map (send_line l.key l.ranks) (range_with_len 0 l.k);
  way : l.way ≡ way l.key l.ranks l.k;
}
