use Rattle.std.proofs.Common.{List, ℕ, [], ◌∷◌, false, length, ap, ◌∙◌, arith, length-append}
use Rattle.nm_breaks.specs.Stops.{zeroed}
use Rattle.nm_breaks.proofs.StopLemmas.{zeroed_le}
use Rattle.nm_breaks.proofs.stops.line_stop.Goals as goal

pub starts_trace-requires-2-clause-short : goal.starts_trace-requires-2-clause-short
starts_trace-requires-2-clause-short c =
    let whole = ap (λ (xs : List ℕ). length xs) (c.deref-2.ensures.value ∙ c.in_ok-other.ensures)
    ∙ length-append (zeroed false c.args.line.now) (10 ∷ []) in
    let few = zeroed_le false c.args.line.now in
    let short = c.requires in
    omega (arith, whole, few, short)
