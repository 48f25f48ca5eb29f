-- The ports are those of the fabric that is shared, and so are the ranks.
use Rattle.std.proofs.Common.{◌∙◌, ap, sym, subst}
use Rattle.nm_types.specs.declared.packets.Packet.{Packet}
use Rattle.nm_cells.specs.declared.port.Fabric.{Fabric}
use Rattle.nm_cells.specs.Ports.{IsNew}
use Rattle.nm_copyring.specs.declared.port.Rings.{Rings}
use Rattle.std.specs.Arc.{arc_value}
use Rattle.nm_handle.proofs.worlds.world.Goals as goal

pub handles_of-requires-clause-cells : goal.handles_of-requires-clause-cells
handles_of-requires-clause-cells c k p here =
    subst (λ (f : Fabric Packet). IsNew f p k) (sym c.in_ok-fabric-2.ensures.ok) (c.in_ok-fabric.ensures.ports k p here)

pub returns-clause-one : goal.returns-clause-one
returns-clause-one c =
    let cells = c.in_ok-fabric.ensures.fabric in
    let fabric = c.in_ok-fabric-2.ensures.ok in
    let rings = c.in_ok-rings-2.ensures.ok in
    record {
      fabric = arc_value c.in_ok-fabric-2.fabric;
      rings = arc_value c.in_ok-rings-2.rings;
      ranks = (
        ap (λ (f : Fabric Packet). f.ranks) fabric ∙ cells.0,
        ap (λ (r : Rings). r.ranks) rings ∙ c.in_ok-rings.ensures.rings.0,
      );
      cells = ap (λ (f : Fabric Packet). f.each) fabric ∙ cells.1;
      each = c.in_ok-handles.ensures.each;
      many = c.in_ok-handles.ensures.many;
    }
