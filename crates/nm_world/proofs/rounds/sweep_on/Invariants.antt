use Rattle.nm_world.proofs.Sweeps.{SweptTo}
use Rattle.nm_world.proofs.rounds.sweep_on.Given as goal

abbrev pub invariant-loop-player : goal.invariant-loop-player
invariant-loop-player g l =
    SweptTo l.f.ranks g.S.Source.shows g.S.Source.gives l.f l.r l.all l.player-index l.moved l.initial.players l.players
