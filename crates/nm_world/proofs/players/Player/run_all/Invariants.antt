use Rattle.std.proofs.Common.{◌≡◌, ◌≤◌, ◌+◌, ◌*◌, ◌||◌, ℕ, List}
use Rattle.std.specs.Prelude.{nat_lt}
use Rattle.nm_types.specs.Commands.{Numbered}
use Rattle.nm_rank.specs.Ranks.{IsFresh}
use Rattle.nm_world.specs.Actors.{did}
use Rattle.nm_world.specs.Looks.{PolledBefore}
use Rattle.nm_world.specs.Players.{PlaysOn}
use Rattle.nm_world.proofs.players.Player.run_all.Given as goal

abbrev pub ghost-look : goal.ghost-look
ghost-look g a = g.here

abbrev pub ghost-run_next : goal.ghost-run_next
ghost-run_next g a = g.here

abbrev pub invariant-loop-ran : goal.invariant-loop-ran
invariant-loop-ran g l = record {
  kept : PlaysOn g.S.Source.shows g.S.Source.gives g.here.fabric g.here.rings l.initial.self l.self;
  moved : (l.took || nat_lt 0 l.ran) ≡ did g.here.fabric.ranks l.initial.self.actor l.self.actor;
  first : l.ran ≡ 0 → l.self ≡ l.initial.self;
  polled : (commands : List Numbered) (last : ℕ) → g.S.Source.gives l.self.source commands last →
      PolledBefore commands l.initial.self.actor l.self.actor;
  worn : ¬ IsFresh l.initial.self.actor.process.rank → l.self.actor ≡ l.initial.self.actor;
  bound : l.steps ≤ l.initial.steps + l.ran * (l.f.ranks + 10);
}
