use Rattle.std.proofs.Common.{◌≡◌, ◌++◌, drop, flat_map, string_bytes}
use Rattle.nm_why_texts.specs.Waiting.{near_message_line}
use Rattle.nm_why_texts.proofs.waiting.push_nears.Given as goal

-- what is written and what is still to write are all
abbrev pub invariant-loop-near : goal.invariant-loop-near
invariant-loop-near l =
    string_bytes l.out ++ flat_map (near_message_line l.states l.i) (drop l.near-index l.nears)
    ≡ string_bytes l.fn.out ++ flat_map (near_message_line l.states l.i) l.nears
