use Rattle.nm_world.specs.Sweeps.{HasSwept}
use Rattle.nm_world.proofs.rounds.turns_of.Given as goal

abbrev pub invariant-loop-made : goal.invariant-loop-made
invariant-loop-made g l = HasSwept l.f.ranks g.S.Source.shows g.S.Source.gives l.f l.r l.moved l.fn.players l.players
