use Rattle.std.proofs.Common.{refl}
use Rattle.nm_chain.proofs.ChainLemmas.{first_taken, tail_dropped}
use Rattle.nm_chain.proofs.laws.the_first_cell_is_taken.Goals as goal

pub returns-clause-linked : goal.returns-clause-linked
returns-clause-linked g c = λ place link q tail shadow r d x xs keep h is.
    first_taken g.F.Fits.before g.F.Fits.after place link q 0 tail shadow x xs h r refl keep d is

pub returns-clause-last : goal.returns-clause-last
returns-clause-last g c = λ place link q tail shadow r x xs keep h is.
    tail_dropped g.F.Fits.before g.F.Fits.after place link q 0 tail shadow x xs h r refl keep is
