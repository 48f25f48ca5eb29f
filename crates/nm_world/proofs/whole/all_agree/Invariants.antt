use Rattle.std.proofs.Common.{◌≡◌, ◌<◌, ℕ, true, Some}
use Rattle.std.specs.Prelude.{slice_get}
use Rattle.nm_world.specs.declared.players.Player.{Player}
use Rattle.nm_world.specs.Runs.{AllAgree, PairAgrees}
use Rattle.nm_world.proofs.whole.all_agree.Given as goal

abbrev pub invariant-loop-i : goal.invariant-loop-i
invariant-loop-i g l = record {
  end : l.i-end ≡ l.f.ranks;
  agree : l.all ≡ true → (i j : ℕ) (a b : Player _ _) → i < l.i → slice_get l.players i ≡ Some a →
      slice_get l.players j ≡ Some b → PairAgrees i j a.actor b.actor;
  all : AllAgree l.players → l.all ≡ true;
}
