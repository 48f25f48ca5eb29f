use Rattle.std.proofs.Common.{arith, sym}
use Rattle.nm_breaks.proofs.StopLemmas.{line_less}
use Rattle.nm_breaks.proofs.stops.stop_at.Goals as goal

pub line_stop-requires : goal.line_stop-requires
line_stop-requires c =
    let less = line_less c.args.bytes.now c.from.result c.in-Some.text.now (sym c.in-Some.ensures) in
    let short = c.requires in
    omega (arith, less, short)
