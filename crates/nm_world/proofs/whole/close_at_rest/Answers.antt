-- From rest and both closes.
use Rattle.std.proofs.Common.{◌≡◌, ℕ, ◌*◌, Some, List, length, map, refl, sym, ap, ◌∙◌, subst, arith}
use Rattle.std.specs.Prelude.{slice_get}
use Rattle.std.proofs.lemmas.List.{length-map}
use Rattle.nm_types.specs.declared.answers.Account.{Account}
use Rattle.nm_types.specs.declared.packets.Packet.{Packet}
use Rattle.nm_history.specs.Quiescence.{Ended}
use Rattle.nm_cells.specs.declared.port.Port.{Port}
use Rattle.nm_cells.specs.Ports.{Owns, knows}
use Rattle.nm_copyring.specs.declared.port.RingPort.{RingPort}
use Rattle.nm_copyring.specs.AtClose.{Prefixed}
use Rattle.nm_copyring.specs.ClosedLists as closed_ring
use Rattle.nm_copyring.specs.Ports as ring_port
use Rattle.nm_report.specs.Ends.{packets_of}
use Rattle.nm_world.specs.declared.actors.Actor.{Actor}
use Rattle.nm_world.specs.declared.players.Player.{Player}
use Rattle.nm_world.specs.Players.{AreGiven}
use Rattle.nm_world.specs.Records.{AreKnown, counts_of, ends_by}
use Rattle.nm_world.specs.Rest.{IsClosed, IsRingClosed}
use Rattle.nm_world.specs.Runs.{AreCarriedBy}
use Rattle.nm_world.proofs.Accounts.{told_run}
use Rattle.nm_world.proofs.AtRest.{actors_taken, all_at_work, all_taken_of, carried_of, closed_many, each_ends}
use Rattle.nm_world.proofs.Chosen.{map_twice}
use Rattle.nm_world.proofs.Counted.{carried_counts}
use Rattle.nm_world.proofs.Runs.{in_place_at, in_place_heard}
use Rattle.nm_world.proofs.whole.close_at_rest.Goals as goal
use Rattle.nm_types.proofs.ListLemmas.{get_from_map}

pub parts_of-requires : goal.parts_of-requires
parts_of-requires g c =
    let sizes = c.requires.sizes in
    let shows = g.S.Source.shows in
    let gives = g.S.Source.gives in
    let f = c.args.fabric in
    let r = c.args.rings in
    let players = c.args.players.items in
    let at_end = c.requires.place in
    let known : AreKnown c.args.shape.ranks players = λ k x at.
    (in_place_at shows gives c.args.shape f r 0 k players x at_end at).0.ports.cells.2 ∙ sizes.0 in
    record {
      known = subst (λ (n : ℕ). AreKnown n players) (sym c.ranks.ensures.value) known;
      heard = in_place_heard shows gives c.args.shape f r 0 players at_end;
    }

pub close-closed-requires-clause-ports : goal.close-closed-requires-clause-ports
close-closed-requires-clause-ports g c k p at =
    let shows = g.S.Source.shows in
    let gives = g.S.Source.gives in
    let f = c.args.fabric in
    let r = c.args.rings in
    let players = c.args.players.items in
    let at_end = c.requires.place in
    let there = get_from_map (λ (x : Player _ _). x.actor.port) players k p
    (subst (λ (ps : List (Port Packet)). slice_get ps k ≡ Some p) c.in_ok-parts.ensures.ports at) in
    let s = in_place_at shows gives c.args.shape f r 0 k players there.0 at_end there.1 in
    subst (λ (x : Port Packet). Owns c.args.fabric x × (x.rank ≡ k) × (x.hands ≡ 0)) there.2
    (s.0.ports.cells, s.1 ∙ omega arith, s.0.ports.hands)

pub close-rings-requires-clause-ports : goal.close-rings-requires-clause-ports
close-rings-requires-clause-ports g c k p at =
    let shows = g.S.Source.shows in
    let gives = g.S.Source.gives in
    let f = c.args.fabric in
    let r = c.args.rings in
    let players = c.args.players.items in
    let at_end = c.requires.place in
    let there = get_from_map (λ (x : Player _ _). x.actor.ring) players k p
    (subst (λ (ps : List RingPort). slice_get ps k ≡ Some p) c.in_ok-parts.ensures.rings at) in
    let s = in_place_at shows gives c.args.shape f r 0 k players there.0 at_end there.1 in
    subst (λ (x : RingPort). ring_port.Owns c.args.rings x × (x.rank ≡ k)) there.2
    (s.0.ports.rings, s.0.ports.rank ∙ s.1 ∙ omega arith)

pub returns-clause-run : goal.returns-clause-run
returns-clause-run g c commands in_range given =
    let sizes = c.requires.sizes in
    let shows = g.S.Source.shows in
    let gives = g.S.Source.gives in
    let f = c.args.fabric in
    let r = c.args.rings in
    let players = c.args.players.items in
    let at_end = c.requires.place in
    let many = c.requires.many in
    let cells = c.close-closed.ensures in
    let ring_ends = c.close-rings.ensures in
    let ranks = sizes.0 in
    let pairs = c.in_ok-parts.parts.pairs in
    let actors = map (λ (x : Player _ _). x.actor) players in
    let ports : c.in_ok-parts.parts.ports.items ≡ map (λ (a : Actor _). a.port) actors =
    c.in_ok-parts.ensures.ports ∙ sym (map_twice (λ (a : Actor _). a.port) (λ (x : Player _ _). x.actor) players) in
    let rings : c.in_ok-parts.parts.rings.items ≡ map (λ (a : Actor _). a.ring) actors =
    c.in_ok-parts.ensures.rings ∙ sym (map_twice (λ (a : Actor _). a.ring) (λ (x : Player _ _). x.actor) players) in
    let closed : IsClosed c.args.shape.ranks (map (λ (a : Actor _). a.port) actors) c.close-closed.result =
    subst (λ (n : ℕ). IsClosed n (map (λ (a : Actor _). a.port) actors) c.close-closed.result) ranks (record {
      entries = cells.entries ∙ ap (map knows) ports;
      counts = λ k j p at within. cells.counts k j p
          (subst (λ (ps : List (Port Packet)). slice_get ps k ≡ Some p) (sym ports) at) within;
      prefix = cells.prefix;
    }) in
    let ring_closed : IsRingClosed c.args.shape.ranks (map (λ (a : Actor _). a.ring) actors) c.close-rings.result =
    record {
      entries = ring_ends.entries ∙ ap (map ring_port.knows) rings;
      prefix = subst (λ (n : ℕ). Prefixed n (closed_ring.entries c.close-rings.result)) sizes.1
          ring_ends.prefix;
    } in
    let work = all_at_work shows gives c.args.shape f r commands 0 players at_end
    (subst (λ ss. AreGiven gives commands 0 ss) c.in_ok-parts.ensures.sources given) in
    let each = each_ends shows gives c.a_still_actor_ends.ensures c.args.shape f r commands players actors refl at_end
    work
    c.requires.rest.still in
    let long = length-map players (λ (x : Player _ _). x.actor) ∙ many in
    let run = c.actors_at_rest_make_a_run.ensures c.args.shape commands actors c.close-closed.result
    c.close-rings.result in_range long each closed ring_closed (actors_taken players actors refl c.requires.rest.agree) in
    let told = told_run c.args.shape commands players actors c.close-closed.result c.close-rings.result run.0
    (ends_by g.H.Recorder.events c.in_ok-parts.parts.ranks.items) pairs refl
    (λ i x at. (in_place_at shows gives c.args.shape f r 0 i players x at_end at).1 ∙ omega arith) many closed
    run.1 (c.in_ok-parts.ensures.ends commands work)
    (c.in_ok-parts.ensures.packets ∙ ap (λ (n : ℕ). counts_of n players) c.ranks.ensures.value) in
    let lists = subst (λ (es : List Ended). AreCarriedBy c.args.shape commands c.close-closed.result
    c.close-rings.result es)
    told.1 (carried_of c.args.shape commands actors c.close-closed.result c.close-rings.result run.0 run.1) in
    let counts = carried_counts c.args.shape commands c.close-closed.result c.close-rings.result
    (ends_by g.H.Recorder.events c.in_ok-parts.parts.ranks.items) (packets_of pairs) told.0.one_each
    told.0.quiescent.counts lists in
    let closed_ports : IsClosed c.args.shape.ranks (map (λ (x : Player _ _). x.actor.port) players)
    c.close-closed.result =
    subst (λ ps. IsClosed c.args.shape.ranks ps c.close-closed.result)
    (map_twice (λ (a : Actor _). a.port) (λ (x : Player _ _). x.actor) players) closed in
    record {
      lawful = told.0;
      carried = record {
        many = closed_many c.args.shape.ranks players c.close-closed.result closed_ports many;
        account = c.account-cells.ensures;
        sent = λ i j low within. (counts i j low within).0;
        taken = λ i j low within. (counts i j low within).1;
        lists = lists;
      };
    }

pub returns-clause-stopped : goal.returns-clause-stopped
returns-clause-stopped g c = c.in_ok-parts.ensures.stopped

pub returns-clause-ends : goal.returns-clause-ends
returns-clause-ends g c commands given =
    let shows = g.S.Source.shows in
    let gives = g.S.Source.gives in
    c.in_ok-parts.ensures.ends commands
    (all_at_work shows gives c.args.shape c.args.fabric c.args.rings commands 0 c.args.players.items c.requires.place
    (subst (λ ss. AreGiven gives commands 0 ss) c.in_ok-parts.ensures.sources given))

pub returns-clause-sources : goal.returns-clause-sources
returns-clause-sources g c = c.in_ok-parts.ensures.sources

pub returns-clause-home : goal.returns-clause-home
returns-clause-home g c =
    let f = c.args.fabric in
    let players = c.args.players.items in
    let many = c.requires.many ∙ sym c.requires.sizes.0 in
    let cells = c.close-closed.ensures in
    let ports = c.in_ok-parts.ensures.ports in
    let closed : IsClosed f.ranks (map (λ (x : Player _ _). x.actor.port) players) c.close-closed.result = record {
      entries = cells.entries ∙ ap (map knows) ports;
      counts = λ k j p at within. cells.counts k j p
          (subst (λ (ps : List (Port Packet)). slice_get ps k ≡ Some p) (sym ports) at) within;
      prefix = cells.prefix;
    } in
    let home = cells.all_taken
    (all_taken_of f.ranks players c.close-closed.result many closed c.requires.rest.agree) in
    let account = c.account-cells.ensures in
    ap (λ (x : Account). x.home) account ∙ home ∙ sym (ap (λ (x : Account). x.total) account)

pub returns-clause-all : goal.returns-clause-all
returns-clause-all g c =
    ap (λ (x : Account). x.total) c.account-cells.ensures ∙ c.close-closed.ensures.total
    ∙ ap (λ (n : ℕ). n * c.args.fabric.each) c.requires.sizes.0
    ∙ ap (λ (n : ℕ). c.args.shape.ranks * n) c.requires.sizes.2

pub returns-clause-account : goal.returns-clause-account
returns-clause-account g c = c.account-cells.ensures

pub returns-clause-done : goal.returns-clause-done
returns-clause-done g c = c.in_ok-parts.ensures.done

pub close-closed-requires-clause-count : goal.close-closed-requires-clause-count
close-closed-requires-clause-count g c =
    ap length c.in_ok-parts.ensures.ports ∙ length-map c.args.players.items (λ (x : Player _ _). x.actor.port)
    ∙ c.requires.many ∙ sym c.requires.sizes.0

pub close-rings-requires-clause-count : goal.close-rings-requires-clause-count
close-rings-requires-clause-count g c =
    ap length c.in_ok-parts.ensures.rings ∙ length-map c.args.players.items (λ (x : Player _ _). x.actor.ring)
    ∙ c.requires.many ∙ sym c.requires.sizes.1
