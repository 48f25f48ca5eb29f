-- One bucket after another.
use Rattle.std.proofs.Common.{◌∙◌, sym, arith}
use Rattle.nm_match.specs.Picks.{fits_picks}
use Rattle.nm_match.proofs.BestLemmas.{first_last, first_next, first_none}
use Rattle.nm_match.proofs.waiting.best.Goals as goal

pub loop-index-init : goal.loop-index-init
loop-index-init c = λ queue next are. sym (first_none c.args.named.now.map are (fits_picks c.args.wanted))

pub loop-index-preserved : goal.loop-index-preserved
loop-index-preserved c = λ queue next are.
    rw (c.earlier-best.ensures, c.fitting.ensures, c.loop-index.invariant queue next are)
    (first_next c.args.named.now.map are (fits_picks c.args.wanted) c.loop-index.index)

pub returns : goal.returns
returns c = λ queue next are. c.loop-index.invariant queue next are
    ∙ first_last c.args.named.now.map are (fits_picks c.args.wanted) c.loop-index.index (omega arith)
