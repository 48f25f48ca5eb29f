-- A new player, in this fabric and these rings.
use Rattle.std.proofs.Common.{ℕ, None, refl, sym, ap, subst, ◌∙◌, []}
use Rattle.std.specs.Arc.{arc_value}
use Rattle.nm_types.specs.declared.packets.Packet.{Packet}
use Rattle.nm_cells.specs.declared.port.Fabric.{Fabric}
use Rattle.nm_copyring.specs.declared.port.Rings.{Rings}
use Rattle.nm_calls.specs.Calling.{CallsView, gave, shown}
use Rattle.nm_world.specs.Actors.{Seat}
use Rattle.nm_world.specs.Players.{PlayerInvariant}
use Rattle.nm_handle.proofs.worlds.handle_of.Goals as goal

pub new-requires : goal.new-requires
new-requires c =
    let calls = c.new-source.ensures in
    record {
      rank = c.requires.rank;
      begins = (ap (λ (x : CallsView). x.at) calls, ap (λ (x : CallsView). x.ranks) calls ∙ c.ranks.ensures.value);
      told = tt;
      gives = record {
        commands = _;
        last = _;
        some = (refl, refl);
      };
    }

pub returns : goal.returns
returns c =
    let p = c.in_ok-player.player in
    let made = c.in_ok-player.ensures in
    let stands = made.stands (arc_value c.args.shared.now.fabric) (arc_value c.args.shared.now.rings) c.requires.ranks
    c.requires.cells c.requires.places in
    let fabric = c.in_ok-fabric.ensures in
    let rings = c.in_ok-rings.ensures in
    record {
      new = record {
        stands = subst (λ (f : Fabric Packet). PlayerInvariant shown gave f (arc_value c.in_ok-rings.rings) p)
            (sym fabric)
            (subst (λ (r : Rings). PlayerInvariant shown gave (arc_value c.args.shared.now.fabric) r p)
            (sym rings) stands);
        opened = refl;
        calls = made.same.2 ∙ c.new-source.ensures
            ∙ ap (λ (n : ℕ). record { ranks = n; at = 0; given = []; next = None }) c.ranks.ensures.value;
        me = made.begins.0;
        sizes = ap (λ (s : Seat). s.sizes) made.seat;
        events = made.begins.1;
        live = refl;
      };
      own = record { fabric = fabric; rings = rings; own = refl; seat = made.seat };
    }
