use Rattle.std.proofs.Common.{◌≡◌, length}
use Rattle.nm_world.specs.Players.{AllPlayOn}
use Rattle.nm_world.proofs.whole.settle.Given as goal

abbrev pub invariant-loop : goal.invariant-loop
invariant-loop g l = record {
  kept : AllPlayOn g.S.Source.shows g.S.Source.gives l.f l.r l.initial.players l.players;
  many : length l.players ≡ l.f.ranks;
}
