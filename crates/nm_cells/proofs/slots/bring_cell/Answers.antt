use Rattle.std.proofs.Common.{◌∷◌, length, sym, ap, ◌∙◌}
use Rattle.nm_cells.specs.Ports.{knows, slots}
use Rattle.nm_cells.specs.Carried.{times}
use Rattle.nm_cells.proofs.CarriedLemmas.{in_hand_one}
use Rattle.nm_cells.proofs.HoldingLemmas.{held_here}
use Rattle.atomic_table.specs.Table.{rest}
use Rattle.nm_cells.proofs.slots.bring_cell.Goals as goal

pub bring_slot-requires : goal.bring_slot-requires
bring_slot-requires g c = let p = c.args.port.now in record {
  once = ap (times c.args.number) p.carries.order ∙ p.carries.cells c.args.number c.requires.low
      ∙ in_hand_one _ c.requires.in_hand;
}

pub returns-clause-front : goal.returns-clause-front
returns-clause-front g c = let p = c.args.port.now in c.bring_slot.ensures.front
    ∙ ap (λ y. (c.args.number, y) ∷ rest (slots c.bring_slot.new.port))
    (sym (held_here (length (knows p).hands) c.args.number p.seat.me.1 c.requires.low))
