use Rattle.std.proofs.Common.{◌≡◌, ◌<◌, ℕ, true, false, length}
use Rattle.std.specs.Prelude.{IfSome, slice_get}
use Rattle.nm_world.specs.Runs.{IsStillAt, SomeMoves}
use Rattle.nm_world.proofs.whole.are_still.Given as goal

abbrev pub invariant-loop-i : goal.invariant-loop-i
invariant-loop-i g l = record {
  end : l.i-end ≡ length l.players;
  still : l.all ≡ true → (k : ℕ) → k < l.i → IfSome (slice_get l.players k) (IsStillAt g.S.Source.shows g.S.Source.gives);
  moves : l.all ≡ false → SomeMoves g.S.Source.shows g.S.Source.gives l.players;
}
