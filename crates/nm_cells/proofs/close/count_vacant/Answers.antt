use Rattle.std.proofs.Common.{rules, ◌≡◌, ◌≤◌, arith}
use Rattle.std.specs.Slots.{slots_counts, slots_items, slots_len}
use mathlib.Core.Option as maybe
use lib.ListN.{get_elem?}
use Rattle.atomic_table.proofs.Lists.{at_index}
use Rattle.nm_cells.proofs.close.count_vacant.Goals as goal

pub loop-cell-preserved : goal.loop-cell-preserved
loop-cell-preserved g c = let row = c.args.closed.now.slots in let long = (slots_counts row).0 in
    let low = c.loop-cell-test.true in let room : c.args.cells ≤ slots_len row = c.requires.1 in
    let at : get_elem? (slots_items row) c.loop-cell.cell ≡ maybe.some c.get-load.result.now =
    at_index (slots_items row) c.loop-cell.cell c.get-load.result.now (omega arith) c.get-load.ensures in
    search rules
