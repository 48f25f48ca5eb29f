use Rattle.nm_breaks.proofs.StopLemmas.{starts_decided}
use Rattle.nm_breaks.proofs.stops.starts_trace.Goals as goal

pub returns-in-Err-Bad : goal.returns-in-Err-Bad
returns-in-Err-Bad c =
    let bad = rw c.in-Err-Bad.field-0-is at c.in-Err-Bad.ensures.bad in
    starts_decided c.args.shape c.args.text.now c.in-Err-Bad.line c.lines_in.result c.requires.ended bad
    c.lines_in.ensures
