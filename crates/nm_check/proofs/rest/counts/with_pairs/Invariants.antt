use Rattle.std.proofs.Common.{ℕ, ◌+◌, take}
use Rattle.std.specs.Prelude.{count_by}
use Rattle.nm_history.specs.Outgoing.{is_clear}
use Rattle.nm_check.specs.Counting.{AreDue}
use Rattle.nm_check.proofs.rest.counts.with_pairs.Given as goal

-- the pairs so far are counted
abbrev pub invariant-loop-pair : goal.invariant-loop-pair
invariant-loop-pair l = (due : ℕ → ℕ) → AreDue l.fn.counts due →
    AreDue l.counts (λ to. due to + count_by (is_clear to) (take l.pair-index l.pairs))
