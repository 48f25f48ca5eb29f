use Rattle.std.proofs.Common.{ap, ℕ, ◌+◌}
use Rattle.nm_multi.proofs.Alone.{moving_on}
use Rattle.nm_multi.proofs.moving.pump.Goals as goal

pub loop-preserved : goal.loop-preserved
loop-preserved c =
    let i = c.loop.invariant in (
      ap (λ (k : ℕ). k + 1) i.0,
      moving_on c.loop.moved _ c.loop.rank c.move_first.new.rank i.1
          c.in_default.ensures.moves,
    )
