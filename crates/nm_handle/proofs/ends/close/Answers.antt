-- The players share this fabric and these rings.
use Rattle.std.proofs.Common.{◌≡◌, ℕ, List, length, ap, rules, subst, sym, ◌∙◌}
use Rattle.std.specs.Arc.{arc_value}
use Rattle.std.proofs.lemmas.Result.{err_from_is_err_and}
use Rattle.nm_types.specs.declared.packets.Packet.{Packet}
use Rattle.nm_cells.specs.declared.port.Fabric.{Fabric}
use Rattle.nm_copyring.specs.declared.port.Rings.{Rings}
use Rattle.nm_rank.specs.declared.journal.erased.Erased.{Erased}
use Rattle.nm_world.specs.declared.players.Player.{Player}
use Rattle.nm_world.specs.Players.{AreGiven}
use Rattle.nm_world.specs.Runs.{AreAtRest, AreRanked, InPlace}
use Rattle.nm_world.proofs.Runs.{all_ranked, in_place_stands}
use Rattle.nm_calls.specs.Calling.{CallsView, gave, shown}
use Rattle.nm_handle.specs.Ends.{AreUnderWay}
use Rattle.nm_handle.proofs.ends.close.Goals as goal

pub are_at_rest-rests-requires-clause-many : goal.are_at_rest-rests-requires-clause-many
are_at_rest-rests-requires-clause-many c =
    let same : c.as_slice.result.now ≡ c.args.players.items = search rules in
    let fabric : c.deref.result.now ≡ arc_value c.args.shared.fabric = search rules in
    ap length same ∙ c.requires.many ∙ sym c.requires.sizes.0 ∙ sym (ap (λ (f : Fabric Packet). f.ranks) fabric)

pub are_at_rest-rests-requires-clause-ranked : goal.are_at_rest-rests-requires-clause-ranked
are_at_rest-rests-requires-clause-ranked c =
    let same : c.as_slice.result.now ≡ c.args.players.items = search rules in
    let fabric : c.deref.result.now ≡ arc_value c.args.shared.fabric = search rules in
    let f = arc_value c.args.shared.fabric in
    let r = arc_value c.args.shared.rings in
    let ps = c.args.players.items in
    subst (λ (n : ℕ). AreRanked n c.as_slice.result.now) (sym (ap (λ (x : Fabric Packet). x.ranks) fabric))
    (subst (λ (qs : List (Player CallsView Erased)). AreRanked f.ranks qs) (sym same)
    (all_ranked shown gave f r ps (in_place_stands shown gave c.args.shape f r 0 ps c.requires.place)))

pub close_at_rest-requires : goal.close_at_rest-requires
close_at_rest-requires c =
    let same : c.as_slice.result.now ≡ c.args.players.items = search rules in
    let fabric = c.in_ok-fabric.ensures.ok in
    let rings = c.in_ok-rings.ensures.ok in
    let place = c.requires.place in
    record {
      many = c.requires.many;
      sizes = (
        ap (λ (f : Fabric Packet). f.ranks) fabric ∙ c.requires.sizes.0,
        ap (λ (r : Rings). r.ranks) rings ∙ c.requires.sizes.1,
        ap (λ (f : Fabric Packet). f.each) fabric ∙ c.requires.sizes.2,
      );
      place = subst (λ (f : Fabric Packet). InPlace shown gave c.args.shape f c.in_ok-rings.rings 0
          c.args.players.items)
          (sym fabric)
          (subst (λ (r : Rings). InPlace shown gave c.args.shape (arc_value c.args.shared.fabric) r 0
          c.args.players.items) (sym rings) place);
      rest = subst (λ (qs : List (Player CallsView Erased)). AreAtRest shown gave qs) same
          (c.are_at_rest-rests.ensures.rest c.if-not-rests.false);
    }

pub returns-clause-closed : goal.returns-clause-closed
returns-clause-closed c =
    let rested = c.in_ok-rested.rested in
    let made = c.in_ok-rested.ensures in
    record {
      run = λ commands in_range given. made.run commands in_range
          (subst (λ (ss : List CallsView). AreGiven gave commands 0 ss) (sym made.sources) given);
      ends = λ commands given. made.ends commands
          (subst (λ (ss : List CallsView). AreGiven gave commands 0 ss) (sym made.sources) given);
      all = made.all;
      home = made.home;
      done = made.done;
    }

pub returns-then-not-rests-clause-why : goal.returns-then-not-rests-clause-why
returns-then-not-rests-clause-why c =
    let same : c.as_slice.result.now ≡ c.args.players.items = search rules in
    subst AreUnderWay same (c.are_at_rest-rests.ensures.moves c.if-not-rests.true)

pub returns-in_err-fabric-clause-why : goal.returns-in_err-fabric-clause-why
returns-in_err-fabric-clause-why c =
    let p = err_from_is_err_and c.from_residual.result c.from_residual.ensures.1 in
    rw (p.1, p.2, c.in_err-fabric.ensures.err) tt

pub returns-in_err-rings-clause-why : goal.returns-in_err-rings-clause-why
returns-in_err-rings-clause-why c =
    let p = err_from_is_err_and c.from_residual-in_err-rings.result c.from_residual-in_err-rings.ensures.1 in
    rw (p.1, p.2, c.in_err-rings.ensures.err) tt

pub returns-in_err-rested-clause-why : goal.returns-in_err-rested-clause-why
returns-in_err-rested-clause-why c =
    let p = err_from_is_err_and c.from_residual-in_err-rested.result c.from_residual-in_err-rested.ensures.1 in
    rw (p.1, p.2) tt
