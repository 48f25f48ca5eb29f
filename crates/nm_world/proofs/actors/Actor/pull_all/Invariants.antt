use Rattle.std.proofs.Common.{◌≡◌, ◌<◌, ◌≤◌, ◌+◌, ◌*◌, ℕ, false}
use Rattle.nm_rank.specs.Ranks.{IsFresh}
use Rattle.nm_world.specs.Idle.{Moves, NoPiece}
use Rattle.nm_world.proofs.actors.Actor.pull_all.Given as goal

abbrev pub ghost-pull_some : goal.ghost-pull_some
ghost-pull_some g a = g.here

abbrev pub invariant-loop-sender : goal.invariant-loop-sender
invariant-loop-sender g l = record {
  moves : Moves (record g.here { rings = l.r }) l.moved l.initial.self l.self;
  none : l.moved ≡ false → IsFresh l.initial.self.process.rank → (i : ℕ) → i < l.sender →
      NoPiece l.initial.self l.self i;
  end : l.sender-end ≡ l.f.ranks;
  bound : l.steps ≤ l.initial.steps + l.sender * 12;
}
