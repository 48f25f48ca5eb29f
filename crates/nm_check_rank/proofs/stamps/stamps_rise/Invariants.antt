use Rattle.std.proofs.Common.{◌≡◌, take}
use Rattle.nm_history.specs.AtEach.{AtEach}
use Rattle.nm_history.specs.RankRun.{StampAt, last_stamp}
use Rattle.nm_check_rank.proofs.stamps.stamps_rise.Given as goal

-- the stamps so far rise, and the last of them is kept
abbrev pub invariant-loop-e : goal.invariant-loop-e
invariant-loop-e l =
    (l.last ≡ last_stamp (take l.e-index l.events))
    × AtEach (λ before e. StampAt before e.stamp) (take l.e-index l.events)
