-- One player more.
use Rattle.std.proofs.Common.{◌≡◌, ◌∷◌, ◌++◌, ◌∙◌, [], List, length, map, append-nil, sym, ap, subst, arith}
use Rattle.std.specs.List.{AllByRecursion, AllZip}
use Rattle.std.specs.Vec.Iter.{into_iter_items}
use Rattle.std.proofs.lemmas.List.{nil_from_length}
use Rattle.nm_world.specs.declared.players.Player.{Player}
use Rattle.nm_world.specs.declared.records.RankEnd.{RankEnd}
use Rattle.nm_world.specs.Records.{AreAtWork, AreKnown, HasHeard, HasStopped, counts_of, ended_from, ends_by}
use Rattle.nm_cells.specs.declared.port.Port.{Port}
use Rattle.nm_copyring.specs.declared.port.RingPort.{RingPort}
use Rattle.nm_types.specs.declared.packets.Packet.{Packet}
use Rattle.nm_report.specs.Ends.{are_done, packets_of}
use Rattle.nm_world.proofs.Accounts.{ends_next, known_next, map_next, packets_next}
use Rattle.nm_world.proofs.records.parts_of.Goals as goal

pub loop-player-init : goal.loop-player-init
loop-player-init g c =
    let shows = g.S.Source.shows in
    let gives = g.S.Source.gives in
    let events = g.H.Recorder.events in
    let same = c.into_iter-player-iterator.ensures.into_iter_gives.0 in
    let items = into_iter_items c.into_iter-player-iterator.result in
    let none = c.new-4.ensures.items in
    record {
      ports = ap (λ (ps : List (Port Packet)). ps ++ map (λ (x : Player _ _). x.actor.port) items) c.new.ensures.items
          ∙ ap (map (λ (x : Player _ _). x.actor.port)) same;
      rings = ap (λ (ps : List RingPort). ps ++ map (λ (x : Player _ _). x.actor.ring) items) c.new-2.ensures.items
          ∙ ap (map (λ (x : Player _ _). x.actor.ring)) same;
      sources = ap (λ (ss : List _). ss ++ map (λ (x : Player _ _). x.source) items) c.new-3.ensures.items
          ∙ ap (map (λ (x : Player _ _). x.source)) same;
      known = subst (λ (xs : List (Player _ _)). AreKnown c.args.ranks xs) (sym same) c.requires.known;
      heard = subst (λ (xs : List (Player _ _)). AllByRecursion (HasHeard shows) xs) (sym same) c.requires.heard;
      stopped = subst (λ (ss : List _). AllZip (HasStopped shows gives) ss (ends_by events c.new-4.result.items))
          (sym c.new-3.ensures.items)
          (subst (λ (rs : List (RankEnd _)). AllZip (HasStopped shows gives) [] (ends_by events rs)) (sym none) tt);
      ends = λ commands work. (
        subst (λ (rs : List (RankEnd _)). AreAtWork shows gives commands (length rs) items) (sym none)
            (subst (λ (xs : List (Player _ _)). AreAtWork shows gives commands 0 xs) (sym same) work),
        ap (λ (rs : List (RankEnd _)). ends_by events rs ++ ended_from commands (length rs) items) none
            ∙ ap (λ (xs : List (Player _ _)). ended_from commands 0 xs) same,
      );
      packets = ap (λ ps. packets_of ps ++ counts_of c.args.ranks items) c.new-5.ensures
          ∙ ap (λ (xs : List (Player _ _)). counts_of c.args.ranks xs) same;
      done = ap (λ (rs : List (RankEnd _)). are_done (ends_by events rs)) (sym none);
    }

pub returns-clause-ports : goal.returns-clause-ports
returns-clause-ports g c =
    let past = c.in-None.ensures.steps.0 in
    let counted = c.loop-player.player-iterator.rest.ok.0 in
    let none = nil_from_length (into_iter_items c.loop-player.player-iterator) (omega (arith, past, counted)) in
    let ports = c.loop-player.parts.ports.items in
    sym (append-nil ports)
    ∙ ap (λ (xs : List (Player _ _)). ports ++ map (λ (x : Player _ _). x.actor.port) xs) (sym none)
    ∙ c.loop-player.invariant.ports

pub returns-clause-rings : goal.returns-clause-rings
returns-clause-rings g c =
    let past = c.in-None.ensures.steps.0 in
    let counted = c.loop-player.player-iterator.rest.ok.0 in
    let none = nil_from_length (into_iter_items c.loop-player.player-iterator) (omega (arith, past, counted)) in
    let rings = c.loop-player.parts.rings.items in
    sym (append-nil rings)
    ∙ ap (λ (xs : List (Player _ _)). rings ++ map (λ (x : Player _ _). x.actor.ring) xs) (sym none)
    ∙ c.loop-player.invariant.rings

pub returns-clause-sources : goal.returns-clause-sources
returns-clause-sources g c =
    let past = c.in-None.ensures.steps.0 in
    let counted = c.loop-player.player-iterator.rest.ok.0 in
    let none = nil_from_length (into_iter_items c.loop-player.player-iterator) (omega (arith, past, counted)) in
    let sources = c.loop-player.parts.sources.items in
    sym (append-nil sources)
    ∙ ap (λ (xs : List (Player _ _)). sources ++ map (λ (x : Player _ _). x.source) xs) (sym none)
    ∙ c.loop-player.invariant.sources

pub returns-clause-ends : goal.returns-clause-ends
returns-clause-ends g c commands work =
    let past = c.in-None.ensures.steps.0 in
    let counted = c.loop-player.player-iterator.rest.ok.0 in
    let none = nil_from_length (into_iter_items c.loop-player.player-iterator) (omega (arith, past, counted)) in
    let ranks = c.loop-player.parts.ranks.items in
    let ends = ends_by g.H.Recorder.events ranks in
    sym (append-nil ends)
    ∙ ap (λ (xs : List (Player _ _)). ends ++ ended_from commands (length ranks) xs) (sym none)
    ∙ (c.loop-player.invariant.ends commands work).1

pub returns-clause-packets : goal.returns-clause-packets
returns-clause-packets g c =
    let past = c.in-None.ensures.steps.0 in
    let counted = c.loop-player.player-iterator.rest.ok.0 in
    let none = nil_from_length (into_iter_items c.loop-player.player-iterator) (omega (arith, past, counted)) in
    let packets = packets_of c.loop-player.parts.pairs in
    sym (append-nil packets)
    ∙ ap (λ (xs : List (Player _ _)). packets ++ counts_of c.args.ranks xs) (sym none)
    ∙ c.loop-player.invariant.packets

pub loop-player-preserved : goal.loop-player-preserved
loop-player-preserved g c =
    let before = c.loop-player.invariant in
    let x = c.in-Some.player in
    let xs = into_iter_items c.loop-player.player-iterator in
    let rest = into_iter_items c.next.new.self in
    let split : xs ≡ x ∷ rest = c.in-Some.ensures.steps.0 in
    let told = c.in_ok-tell.ensures in
    let old = c.loop-player.parts in
    let new = c.tell.new.parts in
    record {
      ports = map_next (λ (y : Player _ _). y.actor.port) old.ports.items new.ports.items xs rest x _ split told.ports
          before.ports;
      rings = map_next (λ (y : Player _ _). y.actor.ring) old.rings.items new.rings.items xs rest x _ split told.rings
          before.rings;
      sources = map_next (λ (y : Player _ _). y.source) old.sources.items new.sources.items xs rest x _ split
          told.sources
          before.sources;
      known = (known_next c.args.ranks xs x rest split before.known).1;
      ends = λ commands work.
          let so_far = before.ends commands work in
          ends_next g.S.Source.shows g.S.Source.gives commands (length old.ranks.items) (length new.ranks.items)
          (ends_by g.H.Recorder.events old.ranks.items)
          (ends_by g.H.Recorder.events new.ranks.items) xs rest x _ split told.many
          (told.ends (commands (length old.ranks.items))) so_far.0 so_far.1;
      heard = (subst (λ ys. AllByRecursion (HasHeard g.S.Source.shows) ys) split before.heard).1;
      stopped = told.stopped before.stopped;
      packets = packets_next c.args.ranks old.pairs new.pairs xs rest x _ split told.packets before.packets;
      done = told.done before.done;
    }

pub tell-requires : goal.tell-requires
tell-requires g c =
    let x = c.in-Some.player in
    let xs = into_iter_items c.loop-player.player-iterator in
    let rest = into_iter_items c.next.new.self in
    let split : xs ≡ x ∷ rest = c.in-Some.ensures.steps.0 in
    let known = (known_next c.args.ranks xs x rest split c.loop-player.invariant.known).0 in
    record {
      known = omega (arith, known);
      heard = (subst (λ ys. AllByRecursion (HasHeard g.S.Source.shows) ys) split c.loop-player.invariant.heard).0;
    }
