use Rattle.std.proofs.Common.{◌≡◌, ◌++◌, drop, flat_map, string_bytes}
use Rattle.nm_why_texts.specs.Waiting.{wait_text}
use Rattle.nm_why_texts.proofs.waiting.push_waits.Given as goal

-- what is written and what is still to write are all
abbrev pub invariant-loop-wait : goal.invariant-loop-wait
invariant-loop-wait l =
    string_bytes l.out ++ flat_map (wait_text l.states) (drop l.wait-index l.waits)
    ≡ string_bytes l.fn.out ++ flat_map (wait_text l.states) l.waits
