use Rattle.std.proofs.Common.{◌≡◌, ◌<◌, ℕ, true, Some}
use Rattle.std.specs.Prelude.{slice_get}
use Rattle.nm_world.specs.declared.players.Player.{Player}
use Rattle.nm_world.specs.Runs.{PairAgrees, RowAgrees}
use Rattle.nm_world.proofs.whole.row_agrees.Given as goal

abbrev pub invariant-loop-j : goal.invariant-loop-j
invariant-loop-j g l = record {
  end : l.j-end ≡ l.f.ranks;
  agree : l.all ≡ true → (j : ℕ) (a b : Player _ _) → j < l.j → slice_get l.players l.i ≡ Some a →
      slice_get l.players j ≡ Some b → PairAgrees l.i j a.actor b.actor;
  all : RowAgrees l.i l.players → l.all ≡ true;
}
