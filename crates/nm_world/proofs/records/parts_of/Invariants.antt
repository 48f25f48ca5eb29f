use Rattle.std.proofs.Common.{◌≡◌, ◌++◌, ℕ, List, length, map}
use Rattle.std.specs.List.{AllByRecursion, AllZip}
use Rattle.std.specs.Vec.Iter.{into_iter_items}
use Rattle.nm_types.specs.Commands.{Numbered}
use Rattle.nm_report.specs.Ends.{are_done, packets_of}
use Rattle.nm_world.specs.declared.players.Player.{Player}
use Rattle.nm_world.specs.Records.{AreAtWork, AreKnown, HasHeard, HasStopped, counts_of, ended_from, ends_by}
use Rattle.nm_world.proofs.records.parts_of.Given as goal

abbrev pub invariant-loop-player : goal.invariant-loop-player
invariant-loop-player g l = record {
  ports : l.parts.ports.items ++ map (λ (x : Player _ _). x.actor.port) (into_iter_items l.player-iterator)
      ≡ map (λ (x : Player _ _). x.actor.port) l.fn.players.items;
  rings : l.parts.rings.items ++ map (λ (x : Player _ _). x.actor.ring) (into_iter_items l.player-iterator)
      ≡ map (λ (x : Player _ _). x.actor.ring) l.fn.players.items;
  sources : l.parts.sources.items ++ map (λ (x : Player _ _). x.source) (into_iter_items l.player-iterator)
      ≡ map (λ (x : Player _ _). x.source) l.fn.players.items;
  known : AreKnown l.fn.ranks (into_iter_items l.player-iterator);
  heard : AllByRecursion (HasHeard g.S.Source.shows) (into_iter_items l.player-iterator);
  stopped : AllZip (HasStopped g.S.Source.shows g.S.Source.gives) l.parts.sources.items
      (ends_by g.H.Recorder.events l.parts.ranks.items);
  ends : (commands : ℕ → List Numbered) →
      AreAtWork g.S.Source.shows g.S.Source.gives commands 0 l.fn.players.items →
      AreAtWork g.S.Source.shows g.S.Source.gives commands (length l.parts.ranks.items)
      (into_iter_items l.player-iterator)
      × (ends_by g.H.Recorder.events l.parts.ranks.items ++ ended_from commands (length l.parts.ranks.items)
      (into_iter_items l.player-iterator)
      ≡ ended_from commands 0 l.fn.players.items);
  packets : packets_of l.parts.pairs ++ counts_of l.fn.ranks (into_iter_items l.player-iterator)
      ≡ counts_of l.fn.ranks l.fn.players.items;
  done : l.parts.done ≡ are_done (ends_by g.H.Recorder.events l.parts.ranks.items);
}
