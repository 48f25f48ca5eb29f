use Rattle.std.proofs.Common.{◌≡◌, ◌++◌, drop, flat_map, string_bytes}
use Rattle.nm_why_texts.specs.Waiting.{rank_words}
use Rattle.nm_why_texts.proofs.waiting.push_ranks.Given as goal

-- what is written and what is still to write are all
abbrev pub invariant-loop-rank : goal.invariant-loop-rank
invariant-loop-rank l =
    string_bytes l.out ++ flat_map rank_words (drop l.rank-index l.ranks)
    ≡ string_bytes l.fn.out ++ flat_map rank_words l.ranks
