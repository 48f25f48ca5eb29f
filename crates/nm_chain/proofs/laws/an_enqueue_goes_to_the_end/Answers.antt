use Rattle.nm_chain.proofs.ChainLemmas.{tail_swapped}
use Rattle.nm_chain.proofs.laws.an_enqueue_goes_to_the_end.Goals as goal

pub returns : goal.returns
returns g c = λ place link q head tail shadow r n y chain h out clear fit keep.
    tail_swapped g.F.Fits.before g.F.Fits.after place link q head tail shadow chain h r n y out clear fit keep
