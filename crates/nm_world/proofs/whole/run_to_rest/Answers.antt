-- The players at the start, and at the end.
use Rattle.std.proofs.Common.{List, map, sym, ◌∙◌, subst, arith}
use Rattle.std.proofs.Common.{get_or}
use Rattle.std.specs.List.{AllZip}
use Rattle.std.proofs.lemmas.Option.{slice_get-get_or}
use Rattle.nm_world.specs.declared.players.Player.{Player}
use Rattle.nm_world.specs.Players.{GoesOn}
use Rattle.nm_world.proofs.Runs.{all_went, in_place_kept, in_place_stands, kept_many, placed_new}
use Rattle.nm_world.proofs.whole.run_to_rest.Goals as goal

pub cast-requires : goal.cast-requires
cast-requires g c =
    let fabric = c.in_ok-fabric.ensures in
    let ranks = fabric.fabric.0 in
    let many = fabric.fabric.2 in
    record {
      ranks = λ k d low.
          let ports = c.in_ok-fabric.ports.items in
          let own = (fabric.ports k (get_or ports k d) (slice_get-get_or ports k d low)).1 in
          omega (arith, own, low, ranks, many);
      pairs = c.in_ok-rings.ensures.rings.1 ∙ sym many;
      owns = c.requires.many ∙ sym many;
      begins = c.requires.begins;
    }

pub settle_all-requires-clause-stands : goal.settle_all-requires-clause-stands
settle_all-requires-clause-stands g c lifetimes outlive =
    let fabric = c.in_ok-fabric.ensures in
    let ring_new = c.in_ok-rings.ensures in
    let shows = g.S.Source.shows in
    let gives = g.S.Source.gives in
    let f = c.in_ok-fabric.fabric in
    let r = c.in_ok-rings.rings in
    let cast = c.in_ok-players.players.items in
    let place = placed_new shows gives c.args.shape f r c.in_ok-fabric.ports.items c.in_ok-rings.ring_ports.items cast
    c.in_ok-players.ensures.place fabric.fabric.0 ring_new.rings.0
    (fabric.fabric.2 ∙ sym ring_new.rings.1) fabric.ports ring_new.ports in
    in_place_stands shows gives c.args.shape f r 0 cast place

pub settle_all-requires-clause-many : goal.settle_all-requires-clause-many
settle_all-requires-clause-many g c lifetimes outlive =
    c.in_ok-players.ensures.many ∙ c.in_ok-fabric.ensures.fabric.2 ∙ sym c.in_ok-fabric.ensures.fabric.0

pub close_at_rest-requires : goal.close_at_rest-requires
close_at_rest-requires g c =
    let fabric = c.in_ok-fabric.ensures in
    let ring_new = c.in_ok-rings.ensures in
    let shows = g.S.Source.shows in
    let gives = g.S.Source.gives in
    let f = c.in_ok-fabric.fabric in
    let r = c.in_ok-rings.rings in
    let cast = c.in_ok-players.players.items in
    let place = placed_new shows gives c.args.shape f r c.in_ok-fabric.ports.items c.in_ok-rings.ring_ports.items cast
    c.in_ok-players.ensures.place fabric.fabric.0 ring_new.rings.0
    (fabric.fabric.2 ∙ sym ring_new.rings.1) fabric.ports ring_new.ports in
    let players = c.settle_all.new.players.items in
    let settled = c.in_ok-settle_all.ensures in
    record {
      many = kept_many shows gives f r cast players settled.kept ∙ c.in_ok-players.ensures.many ∙ fabric.fabric.2;
      sizes = (fabric.fabric.0, ring_new.rings.0, fabric.fabric.1);
      place = in_place_kept shows gives c.args.shape f r 0 cast players place settled.kept;
      rest = settled.rest;
    }

pub returns-clause-run : goal.returns-clause-run
returns-clause-run g c commands in_range given = c.in_ok-rested.ensures.run commands in_range given

pub returns-clause-goes_on : goal.returns-clause-goes_on
returns-clause-goes_on g c =
    let shows = g.S.Source.shows in
    let gives = g.S.Source.gives in
    let players = c.settle_all.new.players.items in
    let all = all_went shows gives c.in_ok-fabric.fabric c.in_ok-rings.rings c.in_ok-players.players.items players
    c.in_ok-settle_all.ensures.kept in
    subst (λ ss. AllZip (GoesOn shows gives) ss c.in_ok-rested.rested.sources.items) c.in_ok-players.ensures.sources
    (subst (λ ts. AllZip (GoesOn shows gives) (map (λ (x : Player _ _). x.source) c.in_ok-players.players.items) ts)
    (sym c.in_ok-rested.ensures.sources) all)

pub returns-clause-stopped : goal.returns-clause-stopped
returns-clause-stopped g c = c.in_ok-rested.ensures.stopped

pub returns-clause-all : goal.returns-clause-all
returns-clause-all g c = c.in_ok-rested.ensures.all

pub returns-clause-home : goal.returns-clause-home
returns-clause-home g c = c.in_ok-rested.ensures.home

pub returns-clause-account : goal.returns-clause-account
returns-clause-account g c = c.in_ok-rested.ensures.account

pub returns-clause-done : goal.returns-clause-done
returns-clause-done g c = c.in_ok-rested.ensures.done
