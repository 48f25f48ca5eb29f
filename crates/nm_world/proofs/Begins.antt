-- An actor at its start.
use Rattle.std.proofs.Common.{◌≡◌, ℕ, ◌+◌, ◌<◌, List, sym, ap, ◌∙◌, arith}
use Rattle.std.proofs.lemmas.List.{get_or-replicate}
use Rattle.nm_types.specs.Commands.{Numbered}
use Rattle.nm_types.specs.Sizes.{Sizes}
use Rattle.nm_chain.specs.declared.table.table.Entry.{Entry}
use Rattle.nm_chain.specs.Rule.{sent_to}
use Rattle.nm_cells.specs.declared.port.Fabric.{Fabric}
use Rattle.nm_cells.specs.declared.port.Port.{Port}
use Rattle.nm_cells.specs.Ports.{IsNew}
use Rattle.nm_port.specs.Polls.{count_held}
use Rattle.nm_copyring.specs.declared.port.RingPort.{RingPort}
use Rattle.nm_copyring.specs.declared.port.Rings.{Rings}
use Rattle.nm_copyring.specs.declared.table.Entry as ring_entry
use Rattle.nm_copyring.specs.declared.table.Lane.{Lane}
use Rattle.nm_copyring.specs.Rule as ring_rule
use Rattle.nm_copyring.specs.Ports as ring
use Rattle.nm_process.specs.Work.{IsWorking}
use Rattle.nm_process.specs.Processes.{ProcessView}
use Rattle.nm_global.specs.ProcessInvariant.{IsOf, no_past}
use Rattle.nm_world.specs.Actors.{ActorInvariant, HasPorts, StandsSome}
use Rattle.nm_world.proofs.Steps.{stands_of}
use Rattle.nm_types.specs.declared.packets.Packet.{Packet}

new_lane_at : (n k i : ℕ) → i < n → ring_rule.lane (ring_rule.newcomer n k) i ≡ ring_rule.new_lane
new_lane_at n k i within = get_or-replicate n i ring_rule.new_lane ring_rule.new_lane within

pub new_stands : {H : Type 0} (shape : Sizes) (commands : List Numbered) (last : ℕ) (f : Fabric Packet) (r : Rings)
    (v : ProcessView) (port : Port Packet) (rp : RingPort) → r.ranks ≡ shape.ranks →
    IsNew f port port.rank → ring.IsNew r rp port.rank → v.rank.sizes ≡ shape →
    IsWorking shape commands (last + 1) v → IsOf shape commands port.rank v.rank no_past →
    ActorInvariant {H = H} commands last (record { process = v; port = port; ring = rp; places = tt })
new_stands shape commands last f r v port rp rings new fresh sizes work stands =
    stands_of shape commands last (record { process = v; port = port; ring = rp; places = tt }) no_past sizes
    (record {
      work = work;
      stands = stands;
      sent = λ to within. record {
        listed = record { each = λ k. tt };
        many = sym (ap (λ (e : Entry Packet). sent_to to e.put_box e.put) new.2 ∙ omega arith);
      };
      taken = λ i within. record { listed = record { each = λ k. tt }; many = sym (new.5 i) };
      pushed = λ to within. sym (ap (λ (e : ring_entry.Entry). (ring_rule.lane e to).pushed) fresh.2
          ∙ ap (λ (l : Lane). l.pushed) (new_lane_at r.ranks port.rank to (omega (arith, within, rings))));
      pulled = λ i within. sym (ap (λ (e : ring_entry.Entry). (ring_rule.lane e i).pulled) fresh.2
          ∙ ap (λ (l : Lane). l.pulled) (new_lane_at r.ranks port.rank i (omega (arith, within, rings))));
    })

-- and so it has its ports
pub new_ports : {H : Type 0} (shape : Sizes) (f : Fabric Packet) (r : Rings) (v : ProcessView) (port : Port Packet)
    (rp : RingPort) → f.ranks ≡ shape.ranks → r.ranks ≡ shape.ranks → IsNew f port port.rank →
    ring.IsNew r rp port.rank → v.rank.sizes ≡ shape →
    StandsSome {H = H} (record { process = v; port = port; ring = rp; places = tt }) →
    HasPorts {H = H} f r (record { process = v; port = port; ring = rp; places = tt })
new_ports shape f r v port rp cells rings new fresh sizes some =
    let same = ap (λ (s : Sizes). s.ranks) sizes in
    record {
      some = some;
      cells = new.0;
      rings = fresh.0;
      rank = fresh.1;
      ranks = (cells ∙ sym same, rings ∙ sym same);
      hands = new.4;
      rest = new.7 ∙ sym (ap count_held new.6);
    }
